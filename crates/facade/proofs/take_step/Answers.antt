use mathlib.Core.Path.{◌≡◌}
use borrow.Author.Rules.{rules}
use Rattle.std.specs.Prelude.{Err}
use Rattle.rules.specs.Steps.{step}
use Rattle.rules.proofs.Refusals.{is_some_refusal}
use Rattle.facade.proofs.Steps.{is_malformed}
use Rattle.facade.proofs.take_step.Goals as goal

pub returns-in_err-formed : goal.returns-in_err-formed
unfolding step
returns-in_err-formed c =
    let same : c.from_residual.result ≡ Err c.in_err-formed.field-0.0 = search rules in
    rw same (is_malformed _ c.requires _ _ c.in_err-formed.ensures (is_some_refusal _))

pub returns : goal.returns
unfolding step
returns c = rw (← c.in_ok-formed.ensures) c.take.ensures
