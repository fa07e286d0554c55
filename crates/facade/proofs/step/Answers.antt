use mathlib.Core.Path.{◌≡◌}
use mathlib.Core.Bool.{false}
use borrow.Author.Rules.{rules}
use Rattle.std.specs.Prelude.{Err}
use Rattle.types.specs.declared.Refusal.TheVariants.{OutOfRange}
use Rattle.rules.specs.Ranges.{in_range}
use Rattle.rules.specs.Steps.{action_of, step}
use Rattle.rules.proofs.Refusals.{refused_2}
use Rattle.facade.proofs.step.Goals as goal

pub returns-in_err-check : goal.returns-in_err-check
unfolding step
returns-in_err-check c =
    let same : c.from_residual.result ≡ Err OutOfRange = search rules in
    let out : in_range c.args.f.now ≡ false = search rules in
    rw same (refused_2 c.args.f.now (action_of c.args.s) out)
