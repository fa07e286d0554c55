use Rattle.std.proofs.Common.{rules, not, ap, sym, ◌∙◌}
use borrow.Author.Tests.{tests}
use Rattle.rules.specs.Steps.{has_heard}
use Rattle.rules.proofs.Laws.{or_false}
use Rattle.arith.proofs.Chains.{all_numbered_first}
use Rattle.clocks.proofs.is_in_touch.Goals as goal

pub returns-else-not-alive : goal.returns-else-not-alive
returns-else-not-alive c = let a = c.args in
    all_numbered_first (has_heard a.c a.now a.k) a.row.now 0 _ (search rules) (search rules) (search rules) c.all.ensures.ran (λ x b q k. search (rules, tests))
    ∙ sym (or_false _ _ (ap not c.if-not-alive.false))
