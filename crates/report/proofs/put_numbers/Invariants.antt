use mathlib.Core.Path.{◌≡◌}
use lib.ListN.{take}
use Rattle.std.specs.List.{flat_map}
use Rattle.wire.specs.Pages.{put}
use Rattle.report.specs.Lines.{spaced}
use Rattle.report.proofs.put_numbers.Given as goal

-- the numbers so far are put
abbrev pub invariant-loop-n : goal.invariant-loop-n
invariant-loop-n l = l.page ≡ put l.initial.page (flat_map spaced (take l.n-index l.numbers))
