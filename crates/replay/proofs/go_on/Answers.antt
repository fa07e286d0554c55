use native.Mathlib.Omega.{arith}
use Rattle.turns.proofs.Lines.{lines_few}
use Rattle.replay.specs.Output.{piece_turns}
use Rattle.replay.proofs.go_on.Goals as goal

pub put_turns-requires : goal.put_turns-requires
put_turns-requires c =
    let u = c.requires.0 in
    let r = c.args.r.now in
    (u, record { fits = omega (arith, c.requires.2, lines_few c.args.s.now u.short piece_turns r.facade r.place r.number u.sound u.counted) })
