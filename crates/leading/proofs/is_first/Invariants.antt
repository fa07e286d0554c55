use Prim.Native.Nat.{◌-◌}
use Rattle.rules.specs.Order.{rank}
use Rattle.leading.proofs.Walk.{Reached}
use Rattle.leading.proofs.is_first.Given as goal

abbrev pub invariant-loop-j : goal.invariant-loop-j
invariant-loop-j l = Reached l.n l.a l.k l.b l.j

abbrev pub decreases-loop-j : goal.decreases-loop-j
decreases-loop-j l = rank l.n l.a l.k - rank l.n l.a l.j
