use Rattle.std.proofs.Common.{◌≡◌, ◌+◌, ◌*◌, length, take}
use Rattle.std.specs.List.{All, flat_map}
use Rattle.flat.specs.Blocks.{IsFlat}
use Rattle.flat.specs.Pages.{put}
use Rattle.flat.proofs.ArrayFlat.put.Given as goal

abbrev pub invariant-loop-x : goal.invariant-loop-x
invariant-loop-x g l =
    All (IsFlat g.T.Flat.Shaped g.T.Flat.numbers g.T.Flat.value g.T.Flat.WIDTH) (take l.x-index l.self)
    × (l.page ≡ put l.initial.page (flat_map g.T.Flat.numbers (take l.x-index l.self)))
    × (l.page.end ≡ l.initial.page.end + g.T.Flat.WIDTH * l.x-index)
    × (length l.page.out.now ≡ length l.initial.page.out.now)
