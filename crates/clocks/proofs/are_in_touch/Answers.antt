use mathlib.Core.List.{[]}
use lib.ListN.{get_or}
use Rattle.std.proofs.Common.{rules}
use borrow.Author.Tests.{tests}
use Rattle.rules.specs.Parts.{no_server}
use Rattle.rules.specs.Steps.{is_in_touch}
use Rattle.arith.proofs.Chains.{all_numbered_first}
use Rattle.clocks.proofs.are_in_touch.Goals as goal

pub returns : goal.returns
returns c = let a = c.args in
    all_numbered_first (λ k row. is_in_touch a.c a.now k row (get_or a.ss.now k no_server).alive) a.ts.now [] _ (search rules) (search rules) (search rules) c.all.ensures.ran (λ x b q k. search (rules, tests))
