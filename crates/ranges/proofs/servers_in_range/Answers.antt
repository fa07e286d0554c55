use Rattle.std.proofs.Common.{rules}
use borrow.Author.Tests.{tests}
use Rattle.rules.specs.Parts.{no_server}
use Rattle.rules.specs.Ranges.{server_in_range}
use Rattle.arith.proofs.Chains.{all_in_first}
use Rattle.ranges.proofs.servers_in_range.Goals as goal

pub returns : goal.returns
returns c = let a = c.args in all_in_first (server_in_range a.c a.t a.n) a.ss.now no_server _ (search rules) (search rules) c.all.ensures.ran (λ x b q k. search (rules, tests))
