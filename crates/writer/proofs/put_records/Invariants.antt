use mathlib.Core.Path.{◌≡◌}
use Rattle.wire.specs.Pages.{put}
use Rattle.script.specs.Layout.{records_of}
use Rattle.script.specs.Writing.{rows}
use Rattle.writer.proofs.put_records.Given as goal

-- the records before the row are put
abbrev pub invariant-loop-row : goal.invariant-loop-row
invariant-loop-row l = l.page ≡ put l.initial.page (records_of (rows l.l l.row-index))
