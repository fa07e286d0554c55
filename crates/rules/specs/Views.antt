-- What refusals 6 to 12 look at.
use Rattle.std.specs.Prelude.{Bool, List, ℕ, ℤ}
use Rattle.types.specs.declared.State.{State}
use Rattle.types.specs.declared.Facade.{Facade}
use Rattle.types.specs.declared.Config.{Config}
use Rattle.rules.specs.Parts.{server_at, state_at}

-- the world: a facade but for its servers, its clients and its messages
pub record World : Type 0 where
  pub config : Config
  pub time : ℕ
  pub next : ℕ
  pub offsets : List ℤ
  pub notices : List (List ℕ)
  pub waiting : ℕ

abbrev pub world_of : Facade → World
world_of f = record {
  config = f.config;
  time = f.time;
  next = f.next;
  offsets = f.offsets;
  notices = f.notices;
  waiting = f.waiting;
}

-- the world, of each server whether it is alive and since when, and a client's state by its number
pub record View : Type 0 where
  pub world : World
  pub alive : ℕ → Bool
  pub changed : ℕ → ℕ
  pub state : ℕ → State

-- of a whole facade
abbrev pub whole : Facade → View
whole f = record {
  world = world_of f;
  alive = λ j. (server_at f j).alive;
  changed = λ j. (server_at f j).changed;
  state = λ i. state_at f i;
}
