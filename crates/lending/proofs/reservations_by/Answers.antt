use Rattle.std.proofs.Common.{rules, ap, ◌∙◌, length, ◌<◌}
use Rattle.std.specs.Prelude.{None}
use Rattle.arith.proofs.Chains.{written_none, written_more, written_all, next_still}
use Rattle.lending.proofs.reservations_by.Goals as goal

pub loop-x-init : goal.loop-x-init
loop-x-init g c h e = written_none _ _ _

pub loop-x-preserved : goal.loop-x-preserved
loop-x-preserved g c h e =
    let l = c.loop-x in
    let inside : l.x-index < length l.x-items = search rules in
    written_more (l.invariant h e) _ inside (e _ _ c.keep.ensures ∙ ap h (next_still (l.invariant h e) None inside))

pub returns : goal.returns
returns g c h e = written_all (c.loop-x.invariant h e) (search rules)
