-- The numbers of outcomes and refusals in document 01.
use Rattle.std.specs.Prelude.{ℕ, Result, Ok, Err}
use Rattle.types.specs.declared.Outcome.{Outcome}
use Rattle.types.specs.declared.Outcome.TheVariants.{Done, Unmet, Dead}
use Rattle.types.specs.declared.Refusal.{Refusal}
use Rattle.types.specs.declared.Refusal.TheVariants.{NoScript, OutOfRange, NoRecord, UnknownKind, FieldOutOfRange, DoesNotExist, WrongState, NoTimeLeft, ClockOff, OutOfTouch, NotCredible, NoInteractionLeft, Full}

-- "A dead receiver: outcome 2, nothing handled. A condition not met: outcome 1. Otherwise, and for other steps, 0."
abbrev pub outcome_number : Outcome → ℕ
outcome_number Done = 0
outcome_number Unmet = 1
outcome_number Dead = 2

-- the place of its sentence in the "Refusal list, checked from the top"
abbrev pub refusal_number : Refusal → ℕ
refusal_number NoScript = 1
refusal_number OutOfRange = 2
refusal_number NoRecord = 3
refusal_number UnknownKind = 4
refusal_number FieldOutOfRange = 5
refusal_number DoesNotExist = 6
refusal_number WrongState = 7
refusal_number NoTimeLeft = 8
refusal_number ClockOff = 9
refusal_number OutOfTouch = 10
refusal_number NotCredible = 11
refusal_number NoInteractionLeft = 12
refusal_number Full = 13

-- the number of a refusal, 0 if there is none
abbrev pub refusal_of : {T : Type 0} → Result T Refusal → ℕ
refusal_of (Ok x) = 0
refusal_of (Err n) = refusal_number n
