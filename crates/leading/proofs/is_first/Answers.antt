use native.Mathlib.Omega.{arith}
use Rattle.leading.proofs.Walk.{reached_start, nearer}
use Rattle.leading.proofs.is_first.Goals as goal

-- The measure is how much lower in rank j is than k.

pub loop-j-init : goal.loop-j-init
loop-j-init c = reached_start _ _ _ _ c.requires.1

pub loop-j-smaller : goal.loop-j-smaller
loop-j-smaller c = rw c.next_server-j.ensures (nearer _ _ _ _ _ c.loop-j.invariant (omega arith))
