use mathlib.Core.Path.{◌≡◌}
use lib.ListN.{take}
use Rattle.std.specs.List.{flat_map}
use Rattle.wire.specs.Numbers.{bytes_of}
use Rattle.wire.specs.Pages.{put}
use Rattle.writer.proofs.put_numbers.Given as goal

-- the numbers so far are put
abbrev pub invariant-loop-x : goal.invariant-loop-x
invariant-loop-x l = l.page ≡ put l.initial.page (flat_map bytes_of (take l.x-index l.numbers))
