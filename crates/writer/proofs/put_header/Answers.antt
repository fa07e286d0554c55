use mathlib.Core.Path.{◌∙◌}
use mathlib.Core.List.{[], ◌∷◌}
use Rattle.wire.proofs.Pages.{room_then, put_then}
use Rattle.writer.proofs.Laws.{header_is}
use Rattle.writer.proofs.put_header.Goals as goal

pub put_numbers-requires : goal.put_numbers-requires
put_numbers-requires c = rw (c.put_byte.ensures, c.from.ensures) (room_then (1 ∷ []) _ (rw header_is at c.requires))

pub returns : goal.returns
returns c = c.put_numbers.ensures ∙ rw (c.put_byte.ensures, c.from.ensures, header_is) (put_then (1 ∷ []) _ (rw header_is at c.requires))
