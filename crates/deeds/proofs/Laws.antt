-- Laws of what happens in a step.
use mathlib.Core.Path.{◌≡◌}
use Prim.Native.Nat.{ℕ, ◌<◌}
use lib.Dec.{T, ltb→lt}
use Rattle.types.specs.declared.Config.{Config}
use Rattle.types.specs.declared.Message.{Message}
use Rattle.types.specs.declared.ServerEvent.{ServerEvent}
use Rattle.types.specs.declared.ServerEvent.TheVariants.{Notices, Receives}
use Rattle.rules.specs.Ranges.{body_in_range}
use Rattle.deeds.specs.Deeds.{event_in_range}

-- an event in range, by what it is
module _ (c : Config) (k : ℕ) {e : ServerEvent} where
  pub about_low : (j says : ℕ) → e ≡ Notices j says → T (event_in_range c k e) → j < c.servers
  unfolding event_in_range
  about_low j says q t = ltb→lt j c.servers (rw q at t)

  pub body_ready : (m : Message) → e ≡ Receives m → T (event_in_range c k e) → T (body_in_range c m.sender k m.body)
  unfolding event_in_range
  body_ready m q t = rw q at t
