-- That what happens to a party is in range.
use Rattle.std.specs.Prelude.{Bool, true, ℕ, ◌+◌, ◌≤◌, ◌<◌, T, nat_abs}
use Rattle.types.specs.declared.Config.{Config}
use Rattle.types.specs.declared.Facade.{Facade}
use Rattle.types.specs.declared.ServerEvent.{ServerEvent}
use Rattle.types.specs.declared.ServerEvent.TheVariants.{Fails, Returns, Notices, Receives, CleansUp}
use Rattle.types.specs.declared.Deed.{Deed}
use Rattle.types.specs.declared.Deed.TheVariants.{Rests, Passes, Serves, Asks}
use Rattle.rules.specs.Parts.{parties}
use Rattle.rules.specs.Ranges.{is_server, body_in_range, last_time}

-- an event of server k: a notice is about a server, and a message is as its type has it
unfoldable pub event_in_range : Config → ℕ → ServerEvent → Bool
event_in_range c k Fails = true
event_in_range c k Returns = true
event_in_range c k (Notices j says) = is_server c j
event_in_range c k (Receives m) = body_in_range c m.sender k m.body
event_in_range c k CleansUp = true

-- a deed in a facade
unfoldable pub DeedInRange : Facade → Deed → Type 0
DeedInRange f Rests = Unit
DeedInRange f (Passes d p e) = (f.time + d ≤ last_time) × (p < parties f.config) × (nat_abs e ≤ 2000)
DeedInRange f (Serves k e) = (k < f.config.servers) × T (event_in_range f.config k e)
DeedInRange f (Asks i e) = i < f.config.clients
