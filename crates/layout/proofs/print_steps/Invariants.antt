use Prim.Native.Nat.{◌-◌}
use lib.ListN.{length}
use Rattle.layout.proofs.print_steps.Given as goal

-- the bytes that are left
abbrev pub decreases-loop-r : goal.decreases-loop-r
decreases-loop-r g l = length l.s - l.p
