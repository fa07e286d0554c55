use mathlib.Core.List.{[]}
use lib.ListN.{get_or}
use Rattle.std.proofs.Common.{rules}
use borrow.Author.Tests.{tests}
use Rattle.rules.specs.Conditions.{all}
use Rattle.rules.specs.Ranges.{notice_in_range}
use Rattle.arith.proofs.Chains.{all_numbered_first}
use Rattle.ranges.proofs.notices_in_range.Goals as goal

pub returns : goal.returns
returns c = let a = c.args in all_numbered_first (λ k row. all (λ j. notice_in_range a.t k j (get_or row j 0)) a.c.servers) a.ts.now [] _ (search rules) (search rules) (search rules) c.all.ensures.ran (λ x b q k. search (rules, tests))
