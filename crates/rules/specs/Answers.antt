-- The answer to a step, in the numbers of document 01.
use Rattle.std.specs.Prelude.{ℕ, Result, Ok, Err}
use Rattle.types.specs.declared.Facade.{Facade}
use Rattle.types.specs.declared.Outcome.{Outcome}
use Rattle.types.specs.declared.Refusal.{Refusal}
use Rattle.types.specs.declared.Refused.{Refused}
use Rattle.types.specs.Numbers.{outcome_number, refusal_number, refusal_of}

-- the refusal or 0, the outcome (0 where refused), and the facade
pub record Answer : Type 0 where
  pub refusal : ℕ
  pub outcome : ℕ
  pub facade : Facade

-- the outcome of a result, "0 if refused"
abbrev pub outcome_of : Result Outcome Refusal → ℕ
outcome_of (Ok n) = outcome_number n
outcome_of (Err n) = 0

-- of a result, where the facade is f then
abbrev pub answer_of : Result Outcome Refusal → Facade → Answer
answer_of x f = record { refusal = refusal_of x; outcome = outcome_of x; facade = f }

-- of a result that has a facade either way
abbrev pub started : Result Facade (Refused Facade) → Answer
started (Ok f) = record { refusal = 0; outcome = 0; facade = f }
started (Err x) = record { refusal = refusal_number x.refusal; outcome = 0; facade = x.beside }
