-- A message that does not fit.
use mathlib.Core.Path.{◌≡◌, refl}
use mathlib.Core.Bool.{Bool, true, false, cond}
use mathlib.Core.List.{List}
use Prim.Native.Nat.{ℕ}
use Rattle.rules.specs.Conditions.{◌and◌}
use Rattle.device.specs.Device.{Reply, refused}
use Rattle.firmware.specs.Firmware.{party_left}

-- a message that codes nothing is refused like the lists b
pub with_message : {A : Type 0} (x : A) (numbers : A → List ℕ) (b m : Bool) (z : Reply A) (p o : List ℕ)
    → party_left numbers b (cond m z (refused x 2)) p o ≡ party_left numbers (b and m) z p o
unfolding party_left ◌and◌
with_message x numbers true true z p o = refl
with_message x numbers true false z p o = refl
with_message x numbers false m z p o = refl
