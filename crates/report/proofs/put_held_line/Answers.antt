use Rattle.wire.proofs.Pages.{room_then}
use Rattle.report.specs.Lines.{held_word}
use Rattle.report.proofs.Laws.{held_is}
use Rattle.report.proofs.put_held_line.Goals as goal

pub put_numbers-requires : goal.put_numbers-requires
put_numbers-requires c = rw c.put_word.ensures (room_then held_word _ (rw (held_is c.args.n) at c.requires))
