-- Laws of tests that the proofs of the code cite.
use mathlib.Core.Path.{◌≡◌, refl}
use mathlib.Core.Bool.{Bool, true, false}
use Prim.Native.Nat.{◌+◌, ◌≤◌}
use lib.Dec.{T, leb, leb→le}
use Rattle.types.specs.declared.Config.{Config}
use Rattle.types.specs.declared.Facade.{Facade}
use Rattle.rules.specs.Conditions.{◌and◌, is_within}
use Rattle.rules.specs.Ranges.{config_in_range, last_time, last_interaction, most_waiting}
use Rattle.rules.proofs.Laws.{and_r}
use Rattle.rules.proofs.Kept.{Configured, configured}

pub told : (c : Config) → config_in_range c ≡ true → Configured c
told c e = configured c (rw e tt)

-- the three numbers that are looked at before the places
abbrev pub numbers_in_range : Facade → Bool
numbers_in_range f = leb f.time last_time and is_within 1 (last_interaction + 1) f.next and leb f.waiting most_waiting

pub waiting_told : (f : Facade) → numbers_in_range f ≡ true → f.waiting ≤ 128
waiting_told f e =
    let t : T (numbers_in_range f) = rw e tt in
    leb→le f.waiting 128 (and_r (is_within 1 (last_interaction + 1) f.next) _ (and_r (leb f.time last_time) _ t))

pub grouped : (b c d e : Bool) → (b and c and d and e) ≡ ((b and c and d) and e)
unfolding ◌and◌
grouped true true d e = refl
grouped true false d e = refl
grouped false c d e = refl
