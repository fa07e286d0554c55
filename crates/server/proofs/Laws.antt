-- Laws of the rules' definitions that the proofs of the code cite.
use Prim.Native.Nat.{ℕ, ◌<◌}
use lib.Dec.{T, ltb→lt}
use Rattle.types.specs.declared.Config.{Config}
use Rattle.types.specs.declared.Body.TheVariants.{WriteAck}
use Rattle.rules.specs.Ranges.{body_in_range}
use Rattle.rules.proofs.Laws.{and_l}

-- a write ack comes from a server
pub ack_sender : (c : Config) (from to a v : ℕ) → T (body_in_range c from to (WriteAck a v)) → from < c.servers
unfolding body_in_range
ack_sender c from to a v x = ltb→lt from _ (and_l _ _ x)
