use Rattle.wire.proofs.Pages.{room_then}
use Rattle.report.specs.Lines.{facade_word}
use Rattle.report.proofs.Laws.{facade_is}
use Rattle.report.proofs.put_facade_line.Goals as goal

pub put_numbers-requires : goal.put_numbers-requires
put_numbers-requires c = rw c.put_word.ensures (room_then facade_word _ (rw (facade_is c.args.c) at c.requires))
