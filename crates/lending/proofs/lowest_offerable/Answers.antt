use mathlib.Core.Path.{◌≡◌, ◌∙◌}
use Rattle.std.proofs.Common.{rules}
use borrow.Author.Tests.{tests}
use Rattle.rules.specs.Server.{offerable_at, lowest_offerable}
use Rattle.arith.proofs.Chains.{lowest_below}
use Rattle.lending.proofs.lowest_offerable.Goals as goal

pub returns : goal.returns
unfolding lowest_offerable
returns c = let a = c.args in
    let e : c.c.inside.config ≡ a.c = c.c.view_is in
    rw e at (c.unwrap_or.ensures ∙ lowest_below (offerable_at a.c a.r a.leads.now a.reserved.now a.records.now) _ _ _ c.find.ensures.ran (λ x b q k. search (rules, tests)))
