use Rattle.std.proofs.Common.{arith}
use Rattle.std.proofs.lemmas.Grind.{common_steps}
use Rattle.std.proofs.lemmas.List.Elements.{All-more}
use Rattle.flat.specs.Blocks.{IsFlat}
use Rattle.flat.proofs.Blocks.{array_flat}
use Rattle.flat.proofs.Pages.{put_more}
use Rattle.flat.proofs.ArrayFlat.put.Goals as goal

pub loop-x-preserved : goal.loop-x-preserved
loop-x-preserved g c =
    let x = c.put.ensures.flat in
    let h = c.loop-x.invariant in
    let xs = c.args.self.now in
    let i = c.loop-x.x-index in
    let flat = All-more (IsFlat g.T.Flat.Shaped g.T.Flat.numbers g.T.Flat.value g.T.Flat.WIDTH) xs i c.x-item.result (omega arith) h.0 x in
    let put = put_more g.T.Flat.numbers xs i c.x-item.result _ (omega arith) h.1 (grind arith) c.put.ensures.after in
    (flat, put, grind arith, omega arith)

pub returns-clause-flat : goal.returns-clause-flat
returns-clause-flat g c = array_flat _ _ (omega arith) (grind (arith, common_steps))
