-- Demand 3. After any list of steps, from the fresh facade of any configuration in range: no two clients hold one address,
-- no two live servers lead one address, and no live server leads a held address with a record below the held end.
--
-- The list may have any length from none, and a step any kind number and fields. `run` folds `step`, so a refused step counts
-- too and gives back the facade that it was given. The configuration's ranges are the only premise.
use mathlib.Core.Path.{◌≡◌, subst}
use mathlib.Core.List.{List}
use Prim.Native.Nat.{ℕ, ◌≤◌, ◌<◌}
use lib.Dec.{T}
use Rattle.types.specs.declared.Config.{Config}
use Rattle.types.specs.declared.State.TheVariants.{Holding}
use Rattle.types.specs.declared.Facade.{Facade}
use Rattle.types.specs.declared.Step.{Step}
use Rattle.rules.specs.Parts.{server_at, state_at, leads_at, potlease_at}
use Rattle.rules.specs.Ranges.{config_in_range}
use Rattle.rules.specs.Steps.{fresh, run}
use Rattle.rules.proofs.Invariant.{Invariant, invariant, config_stays, one_holds, one_leads, recorded}

-- client i of the facade holds address a until e, q being the interaction last used
pub record Holds (c : Config) (f : Facade) (i a e : ℕ) : Type 0 where
  pub exists : i < c.clients
  pub q : ℕ
  pub is : state_at f i ≡ Holding a e q

-- server k of the facade is live and leads address a
pub record Leads (c : Config) (f : Facade) (k a : ℕ) : Type 0 where
  pub exists : k < c.servers
  pub live : T (server_at f k).alive
  pub is : T (leads_at (server_at f k) a)

pub record Safe (c : Config) (f : Facade) : Type 0 where
  -- no two clients hold one address
  pub one_holder : (i j a e e' : ℕ) → Holds c f i a e → Holds c f j a e' → i ≡ j
  -- no two live servers lead one address
  pub one_leader : (j k a : ℕ) → a < c.addresses → Leads c f j a → Leads c f k a → j ≡ k
  -- no live server leads a held address with a record (potlease) below the held end
  pub recorded_end : (i k a e : ℕ) → Holds c f i a e → Leads c f k a → e ≤ potlease_at (server_at f k) a

of_invariant : (f : Facade) → Invariant f → Safe f.config f
of_invariant f v = record {
  one_holder = λ i j a e e' h h'. one_holds f v i j a e e' h.q h'.q h.exists h'.exists h.is h'.is;
  one_leader = λ j k a ha l l'. one_leads f v j k a l.exists l'.exists ha l.live l'.live l.is l'.is;
  recorded_end = λ i k a e h l. recorded f v i k a e h.q h.exists l.exists h.is l.live l.is;
}

pub safety : (c : Config) → T (config_in_range c) → (steps : List Step) → Safe c (run (fresh c) steps)
safety c ok steps = subst (λ (d : Config). Safe d (run (fresh c) steps)) (config_stays c steps) (of_invariant (run (fresh c) steps) (invariant c ok steps))
