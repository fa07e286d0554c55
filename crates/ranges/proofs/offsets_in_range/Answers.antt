use Rattle.std.proofs.Common.{rules}
use borrow.Author.Tests.{tests}
use lib.IntN.{pos}
use Rattle.rules.specs.Ranges.{offset_in_range}
use Rattle.arith.proofs.Chains.{all_in_first}
use Rattle.ranges.proofs.offsets_in_range.Goals as goal

pub returns : goal.returns
returns c = let a = c.args in all_in_first (offset_in_range a.c a.t) a.os.now (pos 0) _ (search rules) (search rules) c.all.ensures.ran (λ x b q k. search (rules, tests))
