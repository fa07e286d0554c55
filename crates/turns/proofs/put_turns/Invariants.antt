use Prim.Native.Nat.{◌-◌}
use Rattle.wire.specs.Pages.{put}
use Rattle.turns.specs.Turns.{lines_from, progress_from}
use Rattle.turns.proofs.Turns.{Going}
use Rattle.turns.proofs.put_turns.Given as goal

-- what is put so far with the lines of the turns that are left is all the lines, and so for the run behind them
abbrev pub invariant-loop-i : goal.invariant-loop-i
invariant-loop-i l =
    let r = l.fn.r in
    Going l.s (progress_from l.most r.facade l.s r.place r.number) l.r (put l.fn.page (lines_from l.most r.facade l.s r.place r.number)) l.page (l.most - l.i)
