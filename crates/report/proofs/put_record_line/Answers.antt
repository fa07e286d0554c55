use Rattle.wire.proofs.Pages.{room_then}
use Rattle.report.proofs.Laws.{record_is}
use Rattle.report.proofs.put_record_line.Goals as goal

pub put_numbers-requires : goal.put_numbers-requires
put_numbers-requires c = rw c.put_digits.ensures (room_then _ _ (rw (record_is c.args.k c.args.refusal c.args.outcome c.args.time c.args.waiting) at c.requires))
