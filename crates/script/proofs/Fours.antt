-- Four bytes are the bytes of their number.
use mathlib.Core.Path.{◌≡◌}
use mathlib.Core.List.{List, [], ◌∷◌, ◌++◌}
use Prim.Native.Nat.{ℕ, zero, suc, ◌+◌, ◌*◌, ◌/◌, ◌%◌, ◌<◌}
use native.Mathlib.Omega.{arith}
use lib.ListN.{length, get_or, take, drop, length-take, length-drop}
use lib.Seq.{get_or-take, get_or-drop}
use Rattle.wire.specs.Numbers.{bytes_of}

-- each element is a byte
abbrev pub Bytes : List ℕ → Type 0
Bytes s = (i : ℕ) → i < length s → get_or s i 0 < 256

four_bytes : (a b c d : ℕ) → a < 256 → b < 256 → c < 256 → d < 256 → bytes_of (a * 16777216 + b * 65536 + c * 256 + d) ≡ a ∷ b ∷ c ∷ d ∷ []
four_bytes a b c d ha hb hc hd =
    let x = a * 16777216 + b * 65536 + c * 256 + d in
    let ea : (x / 16777216) % 256 ≡ a = omega arith in
    let eb : (x / 65536) % 256 ≡ b = omega arith in
    let ec : (x / 256) % 256 ≡ c = omega arith in
    let ed : x % 256 ≡ d = omega arith in
    rw (ea, eb, ec, ed)

-- a list of n numbers in four bytes each
pub data Fours : ℕ → List ℕ → Type 0 where
  none : Fours 0 []
  more : {a b c d n : ℕ} {l : List ℕ} → bytes_of (a * 16777216 + b * 65536 + c * 256 + d) ≡ a ∷ b ∷ c ∷ d ∷ [] → Fours n l
      → Fours (suc n) (a ∷ b ∷ c ∷ d ∷ l)

pub fours : (n : ℕ) (l : List ℕ) → length l ≡ 4 * n → Bytes l → Fours n l
fours zero [] e h = none
fours zero (x ∷ l) e h = absurd (omega arith)
fours (suc n) [] e h = absurd (omega arith)
fours (suc n) (a ∷ []) e h = absurd (omega arith)
fours (suc n) (a ∷ b ∷ []) e h = absurd (omega arith)
fours (suc n) (a ∷ b ∷ c ∷ []) e h = absurd (omega arith)
fours (suc n) (a ∷ b ∷ c ∷ d ∷ l) e h =
    more (four_bytes a b c d (h 0 (omega arith)) (h 1 (omega arith)) (h 2 (omega arith)) (h 3 (omega arith)))
    (fours n l (omega arith) (λ i k. h (suc (suc (suc (suc i)))) (omega arith)))

pub joined : {a b x y : List ℕ} → a ≡ x → b ≡ y → a ++ b ≡ x ++ y
joined p q = cc

-- parts of a list of bytes

pub take_bytes : (n : ℕ) (s : List ℕ) → Bytes s → Bytes (take n s)
take_bytes n s h i k =
    let l = length-take n s in
    let low : i < n = omega arith in
    rw (get_or-take n s i 0 low) (h i (omega arith))

pub drop_bytes : (n : ℕ) (s : List ℕ) → Bytes s → Bytes (drop n s)
drop_bytes n s h i k = rw (get_or-drop n s i 0) (h (n + i) (omega (arith, length-drop n s)))
