-- What a client does, on its own state x: c is the configuration, i its number, r its clock reading.
-- A step that its state does not allow changes nothing, sends nothing and has outcome 1; the facade refuses it before.
use Rattle.std.specs.Prelude.{Bool, true, false, cond, ℕ, ltb, eqb, max}
use Rattle.types.specs.declared.Config.{Config}
use Rattle.types.specs.declared.State.{State}
use Rattle.types.specs.declared.State.TheVariants.{Idle, Asking, Offered, Waiting, Holding}
use Rattle.types.specs.declared.Body.{Body}
use Rattle.types.specs.declared.Body.TheVariants.{Empty, Discover, Offer, Request, Renew, Write, WriteAck, Ack}
use Rattle.types.specs.declared.Message.{Message}
use Rattle.types.specs.declared.Outbox.{Outbox}
use Rattle.types.specs.declared.Outcome.{Outcome}
use Rattle.types.specs.declared.Outcome.TheVariants.{Done, Unmet}
use Rattle.types.specs.declared.Client.{Client}
use Rattle.types.specs.declared.Reaction.{Reaction}
use Rattle.rules.specs.Conditions.{◌and◌}
use Rattle.rules.specs.Parts.{client_party, in_state, message}
use Rattle.rules.specs.Messages.{nothing, answer, to_each}

abbrev pub reply : State → Outcome → Outbox → Reaction Client
reply x n o = answer (in_state x) n o

-- the same message to each server
abbrev pub broadcast : Config → ℕ → ℕ → Body → Outbox
broadcast c i q b = to_each (λ j. message (client_party c i) j q b) c.servers nothing

unfoldable pub is_offered : State → Bool
is_offered Idle = false
is_offered (Asking q) = false
is_offered (Offered q a) = true
is_offered (Waiting q a) = false
is_offered (Holding a e q) = false

unfoldable pub is_holding : State → Bool
is_holding Idle = false
is_holding (Asking q) = false
is_holding (Offered q a) = false
is_holding (Waiting q a) = false
is_holding (Holding a e q) = true

-- "A client holding an end not above its clock becomes idle."
unfoldable pub lapsed : ℕ → State → State
lapsed r Idle = Idle
lapsed r (Asking q) = Asking q
lapsed r (Offered q a) = Offered q a
lapsed r (Waiting q a) = Waiting q a
lapsed r (Holding a e q) = cond (ltb r e) (Holding a e q) Idle

-- "with a new κ", q, "the client is asking, and one discover goes to each server"; one that holds may not
unfoldable pub discovers : Config → ℕ → State → ℕ → Reaction Client
discovers c i x q = cond (is_holding x) (reply x Unmet nothing) (reply (Asking q) Done (broadcast c i q Discover))

-- "an offered client becomes waiting; (κ, address, τ) goes to each server"
unfoldable pub requests : Config → ℕ → State → ℕ → Reaction Client
requests c i Idle t = reply Idle Unmet nothing
requests c i (Asking q) t = reply (Asking q) Unmet nothing
requests c i (Offered q a) t = reply (Waiting q a) Done (broadcast c i q (Request a t))
requests c i (Waiting q a) t = reply (Waiting q a) Unmet nothing
requests c i (Holding a e q) t = reply (Holding a e q) Unmet nothing

-- "a holding client takes a new κ", n; "(κ, address, its end, τ) goes to each server"
unfoldable pub renews : Config → ℕ → State → ℕ → ℕ → Reaction Client
renews c i Idle t n = reply Idle Unmet nothing
renews c i (Asking q) t n = reply (Asking q) Unmet nothing
renews c i (Offered q a) t n = reply (Offered q a) Unmet nothing
renews c i (Waiting q a) t n = reply (Waiting q a) Unmet nothing
renews c i (Holding a e q) t n = reply (Holding a e n) Done (broadcast c i n (Renew a e t))

-- "an asking client with that κ"
unfoldable pub asks_with : State → ℕ → Bool
asks_with Idle q = false
asks_with (Asking q') q = eqb q' q
asks_with (Offered q' a) q = false
asks_with (Waiting q' a) q = false
asks_with (Holding a e q') q = false

-- "becomes offered"
unfoldable pub on_offer : State → ℕ → ℕ → Reaction Client
on_offer x q a = cond (asks_with x q) (reply (Offered q a) Done nothing) (reply x Unmet nothing)

-- "a client waiting with that κ and address, or holding with that κ and address"
unfoldable pub expects : State → ℕ → ℕ → Bool
expects Idle q a = false
expects (Asking q') q a = false
expects (Offered q' a') q a = false
expects (Waiting q' a') q a = eqb q' q and eqb a' a
expects (Holding a' e q') q a = eqb q' q and eqb a' a

-- the kept end, where an ack says e. Document 02, C-11, in place of "The new end replaces the old": "A holding client .. shall keep
-- the later of its own end and the new one. A waiting client takes the end it gets."
unfoldable pub kept_end : State → ℕ → ℕ
kept_end Idle e = e
kept_end (Asking q) e = e
kept_end (Offered q a) e = e
kept_end (Waiting q a) e = e
kept_end (Holding a e' q) e = max e' e

-- "if the end is above its clock": "An ack whose end is not above the client's clock is still outcome 1", whatever its own end is;
-- one that changes nothing is taken all the same
abbrev pub takes_ack : ℕ → State → ℕ → ℕ → ℕ → Bool
takes_ack r x q a e = expects x q a and ltb r e

-- "holds until the end"
unfoldable pub on_ack : ℕ → State → ℕ → ℕ → ℕ → Reaction Client
on_ack r x q a e = cond (takes_ack r x q a e) (reply (Holding a (kept_end x e) q) Done nothing) (reply x Unmet nothing)

-- a message that is for a server has no condition here that is met
unfoldable pub client_handles : ℕ → State → ℕ → Body → Reaction Client
client_handles r x q Empty = reply x Unmet nothing
client_handles r x q Discover = reply x Unmet nothing
client_handles r x q (Offer a) = on_offer x q a
client_handles r x q (Request a t) = reply x Unmet nothing
client_handles r x q (Renew a e t) = reply x Unmet nothing
client_handles r x q (Write a v) = reply x Unmet nothing
client_handles r x q (WriteAck a v) = reply x Unmet nothing
client_handles r x q (Ack a e) = on_ack r x q a e

abbrev pub client_receives : ℕ → State → Message → Reaction Client
client_receives r x m = client_handles r x m.interaction m.body
