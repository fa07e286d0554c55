use native.Mathlib.Omega.{arith}
use Rattle.script.proofs.Rows.{row_is}
use Rattle.rows.proofs.Laws.{kept_at}
use Rattle.writer.proofs.Laws.{row_fits}
use Rattle.writer.proofs.put_records.Goals as goal

pub put_record-requires : goal.put_record-requires
put_record-requires c =
    let h = row_is _ _ c.as_chunks.ensures.front (omega arith) c.from.ensures in
    let r = c.requires in
    grind (arith, h, kept_at, row_fits)
