use Rattle.std.proofs.Common.{rules}
use borrow.Author.Tests.{tests}
use Rattle.rules.specs.Ranges.{notice_in_range}
use Rattle.arith.proofs.Chains.{all_numbered_first}
use Rattle.ranges.proofs.row_in_range.Goals as goal

pub returns : goal.returns
returns c = let a = c.args in all_numbered_first (notice_in_range a.t a.k) a.row.now 0 _ (search rules) (search rules) (search rules) c.all.ensures.ran (λ x b q k. search (rules, tests))
