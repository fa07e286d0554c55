-- The page keeps its length, each piece that does not end the run moves on in the script, and what was written and what the run
-- prints from here on are the output.
use mathlib.Core.Path.{◌≡◌}
use mathlib.Core.Bool.{false}
use mathlib.Core.List.{List, ◌++◌}
use Prim.Native.Nat.{ℕ}
use lib.ListN.{length}
use Rattle.std.specs.Io.KnownBytes.{Appends}
use Rattle.turns.specs.Turns.{UnderWay}
use Rattle.replay.specs.Output.{output}
use Rattle.replay.proofs.Pieces.{turns_left, rest}
use Rattle.rig.proofs.print_run.Given as goal

abbrev pub invariant-loop-r : goal.invariant-loop-r
invariant-loop-r g l =
    let contents = g.W.Write.contents in
    record {
      room : length l.page.out.now ≡ 65536;
      under_way : l.r.ended ≡ false → UnderWay l.s l.r;
      written : (w : List ℕ) × Appends (contents l.fn.to) (contents l.to) w × (w ++ rest l.s l.r ≡ output l.s);
    }

abbrev pub decreases-loop-r : goal.decreases-loop-r
decreases-loop-r g l = turns_left l.r
