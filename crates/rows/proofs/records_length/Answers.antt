use Rattle.std.proofs.Common.{rules, arith, ◌^◌, ◌≤◌, length, ◌∙◌}
use Rattle.std.proofs.lemmas.Iterator.{YieldsList-from_slice, YieldsList-from_map}
use Rattle.std.proofs.lemmas.Iterator.Adapters.{fits_from_length, at_most_from_yields_List}
use Rattle.std.proofs.lemmas.Iterator.Consumers.{sum_by_from_yields_List}
use Rattle.rows.proofs.Laws.{size_of, sizes_are}
use Rattle.rows.proofs.records_length.Goals as goal

-- no slice has more fours, and no record more than 14 bytes
pub sum-requires-clause-fits : goal.sum-requires-clause-fits
sum-requires-clause-fits c =
    let few : length c.as_chunks.result.0.now ≤ 2 ^ 60 = omega arith in
    fits_from_length _ _ (2 ^ 60) (2 ^ 64) (at_most_from_yields_List (YieldsList-from_slice c.as_chunks.result.0.now cc) few) c.map.ensures.closure (omega arith) (λ x r q k. search rules)

pub returns : goal.returns
returns c =
    let xs = c.as_chunks.result.0.now in
    sum_by_from_yields_List size_of xs c.map.result _ c.sum.ensures.ran (YieldsList-from_map _ size_of (YieldsList-from_slice xs cc) c.map.ensures.closure (λ x r q k. search rules))
    ∙ sizes_are c.args.l.now xs c.as_chunks.ensures.front
