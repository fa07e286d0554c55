-- What the number of a refusal tells.
use mathlib.Core.Path.{◌≡◌, refl}
use mathlib.Core.Bool.{false}
use lib.Dec.{eqb}
use Rattle.types.specs.declared.Refusal.{Refusal}
use Rattle.types.specs.declared.Refusal.TheVariants.{NoScript, OutOfRange, NoRecord, UnknownKind, FieldOutOfRange, DoesNotExist, WrongState, NoTimeLeft, ClockOff, OutOfTouch, NotCredible, NoInteractionLeft, Full}
use Rattle.types.specs.Numbers.{refusal_number}

-- 0 is the number of none
pub not_none : (n : Refusal) → eqb (refusal_number n) 0 ≡ false
not_none NoScript = refl
not_none OutOfRange = refl
not_none NoRecord = refl
not_none UnknownKind = refl
not_none FieldOutOfRange = refl
not_none DoesNotExist = refl
not_none WrongState = refl
not_none NoTimeLeft = refl
not_none ClockOff = refl
not_none OutOfTouch = refl
not_none NotCredible = refl
not_none NoInteractionLeft = refl
not_none Full = refl
