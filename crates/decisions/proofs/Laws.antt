-- Laws of the rules 4 to 12.
use mathlib.Core.Path.{◌≡◌}
use mathlib.Core.Bool.{true}
use Prim.Native.Nat.{ℕ, ◌≤◌}
use native.Mathlib.Omega.{arith}
use lib.Dec.{leb→le}
use lib.IntN.{ℤ, nat_abs}
use Rattle.rules.specs.Conditions.{is_within}
use Rattle.rules.specs.Steps.{pass, is_known, fields_in_range, malformed}
use Rattle.rules.proofs.Laws.{and_l, and_r, within_high, unless_ok}

-- the fields of a pass that keeps rule 5
pub pass_fields : (d p : ℕ) (e : ℤ) → malformed (pass d p e) 0 ≡ 0 → (d ≤ 100000) × (nat_abs e ≤ 2000)
unfolding malformed is_known fields_in_range
pass_fields d p e h =
    let t = (unless_ok (fields_in_range (pass d p e)) 5 0 (omega arith) (unless_ok true 4 _ (omega arith) h).1).0 in
    (within_high 1 100000 d (and_l _ _ t), leb→le (nat_abs e) 2000 (and_r (is_within 1 100000 d) _ t))
