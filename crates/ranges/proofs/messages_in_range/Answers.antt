use Rattle.std.proofs.Common.{rules}
use borrow.Author.Tests.{tests}
use Rattle.rules.specs.Parts.{no_message}
use Rattle.rules.specs.Ranges.{message_in_range}
use Rattle.arith.proofs.Chains.{all_in_first}
use Rattle.ranges.proofs.messages_in_range.Goals as goal

pub returns : goal.returns
returns c = let a = c.args in all_in_first (message_in_range a.c a.n) a.ms.now no_message _ (search rules) (search rules) c.all.ensures.ran (λ x b q k. search (rules, tests))
