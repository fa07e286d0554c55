-- Laws of clocks, over ℕ: what the theorems need of a signed amount.
use mathlib.Core.Path.{◌≡◌}
use mathlib.Core.Bool.{Bool, true, false, not, cond}
use Prim.Native.Nat.{ℕ, suc, ◌+◌, ◌-◌, ◌≤◌, ◌<◌}
use native.Mathlib.Omega.{arith}
use lib.Dec.{T, ltb, ltb→lt, lt→ltb, nltb→le}
use lib.IntN.{ℤ, pos, negsuc, nat_abs, sub_ℕ, ◌+ℤ◌}
use Rattle.rules.specs.Clock.{clock_reading, not_negative}

-- a clock is within Δ of true time
pub plus_low : (t Δ : ℕ) (o : ℤ) → nat_abs o ≤ Δ → t ≤ clock_reading t o + Δ
plus_low t Δ (pos n) h = omega arith
plus_low t Δ (negsuc n) h = omega arith

pub plus_high : (t Δ : ℕ) (o : ℤ) → nat_abs o ≤ Δ → clock_reading t o ≤ t + Δ
plus_high t Δ (pos n) h = omega arith
plus_high t Δ (negsuc n) h = omega arith

-- it goes on with true time
pub plus_later : (t d : ℕ) (o : ℤ) → clock_reading t o ≤ clock_reading (t + d) o
plus_later t d (pos a) = omega arith
plus_later t d (negsuc a) = omega arith

pub not_negative_later : (t d : ℕ) (o : ℤ) → T (not_negative t o) → T (not_negative (t + d) o)
not_negative_later t d (pos a) h = tt
not_negative_later t d (negsuc a) h = lt→ltb a (t + d) (omega (arith, ltb→lt a t h))

plus_sub_go : (t a b : ℕ) (x : Bool) → (T x → a < b) → (T (not x) → b ≤ a) → clock_reading t (cond x (negsuc (b - suc a)) (pos (a - b))) ≡ t + a - b
plus_sub_go t a b true f g = let h : a < b = f tt in omega arith
plus_sub_go t a b false f g = let h : b ≤ a = g tt in omega arith

plus_sub : (t a b : ℕ) → clock_reading t (sub_ℕ a b) ≡ t + a - b
plus_sub t a b = plus_sub_go t a b (ltb a b) (ltb→lt a b) (nltb→le a b)

-- and does not go back where d + e is not negative
pub plus_mono : (t d : ℕ) (o e : ℤ) → T (not_negative d e) → clock_reading t o ≤ clock_reading (t + d) (o +ℤ e)
plus_mono t d (pos a) (pos b) h = omega arith
plus_mono t d (negsuc a) (pos b) h = rw (plus_sub (t + d) b (suc a)) (omega arith)
plus_mono t d (pos a) (negsuc b) h = rw (plus_sub (t + d) a (suc b)) (omega (arith, ltb→lt b d h))
plus_mono t d (negsuc a) (negsuc b) h = omega (arith, ltb→lt b d h)

not_negative_sub_go : (t a b : ℕ) → b ≤ t + a → (x : Bool) → (T x → a < b) → T (not_negative t (cond x (negsuc (b - suc a)) (pos (a - b))))
not_negative_sub_go t a b h true f = let l : a < b = f tt in lt→ltb (b - suc a) t (omega arith)
not_negative_sub_go t a b h false f = tt

not_negative_sub : (t a b : ℕ) → b ≤ t + a → T (not_negative t (sub_ℕ a b))
not_negative_sub t a b h = not_negative_sub_go t a b h (ltb a b) (ltb→lt a b)

pub not_negative_sum : (t d : ℕ) (o e : ℤ) → T (not_negative t o) → T (not_negative d e) → T (not_negative (t + d) (o +ℤ e))
not_negative_sum t d (pos a) (pos b) h h' = tt
not_negative_sum t d (negsuc a) (pos b) h h' = not_negative_sub (t + d) b (suc a) (omega (arith, ltb→lt a t h))
not_negative_sum t d (pos a) (negsuc b) h h' = not_negative_sub (t + d) a (suc b) (omega (arith, ltb→lt b d h'))
not_negative_sum t d (negsuc a) (negsuc b) h h' = lt→ltb _ (t + d) (omega (arith, ltb→lt a t h, ltb→lt b d h'))
