use Rattle.std.proofs.Common.{rules, false}
use borrow.Author.Tests.{tests}
use Rattle.arith.proofs.Chains.{all_in_first}
use Rattle.writes.proofs.are_all_in.Goals as goal

pub returns : goal.returns
returns c = all_in_first (λ x. x) c.args.acked false _ (search rules) (search rules) c.all.ensures.ran (λ x b q k. search (rules, tests))
