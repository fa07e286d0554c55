-- The greatest numbers that a step answers: refusal 13 and outcome 2.
use mathlib.Core.Bool.{Bool, true, false}
use Prim.Native.Nat.{ℕ, ◌≤◌}
use native.Mathlib.Omega.{arith}
use lib.Dec.{eqb}
use Rattle.types.specs.declared.Message.{Message}
use Rattle.types.specs.declared.Facade.{Facade}
use Rattle.types.specs.declared.Step.{Step}
use Rattle.rules.specs.Answers.{Answer}
use Rattle.types.specs.declared.Outcome.{Outcome}
use Rattle.types.specs.declared.Outcome.TheVariants.{Done, Unmet, Dead}
use Rattle.types.specs.Numbers.{outcome_number}
use Rattle.rules.specs.Conditions.{unless}
use Rattle.rules.specs.Parts.{message_at}
use Rattle.rules.specs.Ranges.{is_server}
use Rattle.rules.specs.Server.{noticed, cleaned}
use Rattle.rules.specs.Steps.{Action, pass, fail, return, notice, discover, request, renew, deliver, lose, cleanup, unknown, action_of, delivered, deed_of, takes_out, taken_out, enacted, server_after, client_after, effect, broken, refusal, answer_to, step, malformed, barred}
use Rattle.types.specs.declared.Deed.{Deed}
use Rattle.rules.proofs.Kept.{handled, taken_if, deliver_is}
use Rattle.rules.proofs.Laws.{cond_case}

-- Refusals.

-- a rule's number or what is below it
pub unless_high : (b : Bool) (n below m : ℕ) → n ≤ m → below ≤ m → unless b n below ≤ m
unfolding unless
unless_high true n below m p q = q
unless_high false n below m p q = p

pub refusal_high : (f : Facade) (x : Action) → refusal f x ≤ 13
unfolding refusal broken malformed barred
refusal_high f x =
    unless_high _ _ _ _ (omega arith)
    (unless_high _ _ _ _ (omega arith)
    (unless_high _ _ _ _ (omega arith)
    (unless_high _ _ _ _ (omega arith)
    (unless_high _ _ _ _ (omega arith)
    (unless_high _ _ _ _ (omega arith)
    (unless_high _ _ _ _ (omega arith)
    (unless_high _ _ _ _ (omega arith)
    (unless_high _ _ _ _ (omega arith)
    (unless_high _ _ _ _ (omega arith)
    (unless_high _ _ _ _ (omega arith) (omega arith)))))))))))

-- Outcomes.

outcome_high : (o : Outcome) → outcome_number o ≤ 2
outcome_high Done = omega arith
outcome_high Unmet = omega arith
outcome_high Dead = omega arith

-- Steps.

abbrev Low : Answer → Type 0
Low x = (x.refusal ≤ 13) × (x.outcome ≤ 2)

handled_high : (f : Facade) (m : Message) → Low (handled f m)
unfolding delivered enacted server_after client_after
handled_high f m =
    cond_case (λ (d : Deed). Low (enacted f d)) (is_server f.config m.receiver) _ _
    (λ _. (omega arith, outcome_high _))
    (λ _. (omega arith, outcome_high _))

effect_high : (f : Facade) (x : Action) → Low (effect f x)
unfolding effect deed_of takes_out taken_out enacted server_after client_after noticed cleaned
effect_high f (pass d p e) = (omega arith, omega arith)
effect_high f (fail k) = (omega arith, omega arith)
effect_high f (return k) = (omega arith, omega arith)
effect_high f (notice k j says) = (omega arith, omega arith)
effect_high f (discover i) = (omega arith, outcome_high _)
effect_high f (request i t) = (omega arith, outcome_high _)
effect_high f (renew i t) = (omega arith, outcome_high _)
effect_high f (deliver p keep) = rw (deliver_is f p keep) (handled_high (taken_if f p keep) (message_at f p))
effect_high f (lose p) = (omega arith, omega arith)
effect_high f (cleanup k) = (omega arith, omega arith)
effect_high f unknown = (omega arith, omega arith)

step_high : (f : Facade) (s : Step) → Low (step f s)
unfolding step answer_to
step_high f s =
    let x = action_of s in
    cond_case Low (eqb (refusal f x) 0) _ _ (λ _. effect_high f x) (λ _. (refusal_high f x, omega arith))

pub step_refusal_high : (f : Facade) (s : Step) → (step f s).refusal ≤ 13
step_refusal_high f s = (step_high f s).0

pub step_outcome_high : (f : Facade) (s : Step) → (step f s).outcome ≤ 2
step_outcome_high f s = (step_high f s).1
