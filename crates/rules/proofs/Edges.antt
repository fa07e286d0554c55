-- The claims about the table of edges, computed by `step`.
use Rattle.std.specs.Prelude.{◌≡◌, refl, [], ◌∷◌, map}
use Rattle.rules.specs.Edges.{table, answer_of, after_refusal}

-- the claim: the rules give what the table says
edges_hold : map (λ x. (answer_of x).refusal ∷ (answer_of x).outcome ∷ []) table ≡ map (λ x. x.refusal ∷ x.outcome ∷ []) table
unfolding answer_of
edges_hold = refl

edges_keep : map after_refusal table ≡ map (λ x. x.given) table
unfolding answer_of after_refusal
edges_keep = refl
