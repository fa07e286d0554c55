-- What a test that was passed says.
use mathlib.Core.Path.{◌≡◌, refl}
use mathlib.Core.Bool.{Bool, true, false, cond}
use Prim.Native.Nat.{ℕ, zero, suc, ◌<◌}
use native.Mathlib.Omega.{arith}
use lib.Dec.{T, eqb-suc-zero}
use Rattle.script.specs.Reading.{or_else}

-- a choice with number 0 whose second side has another: the test was passed
pub test_passed : {A : Type 0} (number : A → ℕ) (b : Bool) (x y : A) → 0 < number y → number (cond b x y) ≡ 0 → T b × (cond b x y ≡ x)
test_passed number true x y h e = (tt, refl)
test_passed number false x y h e = absurd (omega arith)

-- a chain of refusals that gives 0 has met none
pub none_met : (n m : ℕ) → or_else n m ≡ 0 → (n ≡ 0) × (m ≡ 0)
none_met zero m e = (refl, e)
none_met (suc n) m e = let z : suc n ≡ 0 = rw (eqb-suc-zero n) at e in absurd (omega arith)
