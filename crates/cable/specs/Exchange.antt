-- The waiting messages after a step, by the rules of taking out and sending.
use Rattle.std.specs.Prelude.{Bool, cond, ℕ, ◌+◌, ◌-◌, Option, Some, None}
use Rattle.types.specs.declared.Facade.{Facade}
use Rattle.rules.specs.Messages.{without}
use Rattle.rules.specs.Steps.{has_room}

-- how many of n waiting messages stay where one is taken out if `taken`
abbrev pub rest_of : ℕ → Bool → ℕ
rest_of n taken = cond taken (n - 1) n

-- how many wait then, where so many more are sent
abbrev pub waiting_then : ℕ → Bool → ℕ → ℕ
waiting_then n taken count = rest_of n taken + count

-- and whether they find room
abbrev pub room_for : ℕ → Bool → ℕ → Bool
room_for n taken count = has_room (waiting_then n taken count)

-- the facade without the message at a position, if one is named
unfoldable pub taken_from : Facade → Option ℕ → Facade
taken_from f None = f
taken_from f (Some p) = without f p
