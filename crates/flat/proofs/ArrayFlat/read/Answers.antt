use borrow.Author.Rules.{rules}
use Rattle.flat.specs.Blocks.{each_in}
use Rattle.flat.proofs.Made.{made_all}
use Rattle.flat.proofs.ArrayFlat.read.Goals as goal

pub returns : goal.returns
unfolding each_in
returns g c = made_all _ _ _ (λ x r f' k. search rules) _ _ c.from_fn.ensures.items
