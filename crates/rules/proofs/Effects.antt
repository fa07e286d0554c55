-- The claims about the table of effects, computed by `step`; what a return leaves of a server, how many clients hold, and the
-- answer to a configuration.
use Rattle.std.specs.Prelude.{◌≡◌, refl, true, false, [], ◌∷◌, ◌++◌, map, replicate, None}
use Rattle.types.specs.declared.Outcome.TheVariants.{Done}
use Rattle.rules.specs.Conditions.{◌and◌, counted}
use Rattle.rules.specs.Server.{after_return}
use Rattle.rules.specs.Client.{is_holding}
use Rattle.rules.specs.Steps.{fresh, start, held_among, held_clients}
use Rattle.rules.specs.Examples.{answered}
use Rattle.rules.specs.Edges.{◌▷◌}
use Rattle.rules.specs.Effects.{table, answer_of, holding, begun, begins, inside, outside, server_of, none, shut, numbered}

-- the claim: the rules give what the table says
effects_hold : map answer_of table ≡ map (λ x. record { refusal = 0; outcome = x.outcome; facade = x.gives }) table
unfolding answer_of
effects_hold = refl

-- What a server does by itself on its return: to its value the facade adds only that it is alive, and since when.
return_holds :
    after_return 101 (numbered 2 false)
    ≡ record {
      after = server_of true 95 101 (replicate 4 true) (replicate 32 false) (replicate 32 None) (replicate 32 0) (numbered 2 false).potlease (replicate 32 shut);
      outcome = Done;
      outbox = record { count = 0; messages = replicate 4 none };
    }
unfolding after_return
return_holds = refl

held_holds : map held_clients holding ≡ 1 ∷ 2 ∷ 29 ∷ 28 ∷ 0 ∷ []
unfolding holding ◌▷◌ held_among counted is_holding ◌and◌
held_holds = refl

starts_hold : (map start (inside ++ outside) ≡ map (begins 0) inside ++ map (begins 2) outside) × (map fresh (inside ++ outside) ≡ map begun (inside ++ outside))
unfolding answered start inside outside
starts_hold = (refl, refl)
