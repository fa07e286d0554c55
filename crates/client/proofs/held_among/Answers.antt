use mathlib.Core.Path.{ap, ◌∙◌}
use Rattle.std.proofs.Common.{rules}
use borrow.Author.Tests.{tests}
use Rattle.rules.specs.Conditions.{counted}
use Rattle.rules.specs.Parts.{no_client}
use Rattle.rules.specs.Client.{is_holding}
use Rattle.rules.specs.Steps.{held_among}
use Rattle.arith.proofs.Chains.{count_of_first}
use Rattle.client.proofs.held_among.Goals as goal

pub returns : goal.returns
unfolding held_among
returns c = count_of_first (λ y. is_holding y.state) c.args.ys.now no_client c.args.c.clients (search rules) (search rules) (search rules) c.count.ensures.ran (λ x b q k. search (rules, tests))
    ∙ ap (counted _) (search rules)
