-- The ranges: of a configuration and of a facade handed in (refusal 2).
-- Places from S, C, A and the waiting count on are no part of a facade: they are not looked at.
use Rattle.std.specs.Prelude.{◌≡◌, Bool, true, false, ℕ, ◌+◌, T, leb, ltb, eqb, ℤ, nat_abs, length, Option, Some, None}
use Rattle.types.specs.declared.Config.{Config}
use Rattle.types.specs.declared.Reservation.{Reservation}
use Rattle.types.specs.declared.Pending.{Pending}
use Rattle.types.specs.declared.Server.{Server}
use Rattle.types.specs.declared.State.{State}
use Rattle.types.specs.declared.State.TheVariants.{Idle, Asking, Offered, Waiting, Holding}
use Rattle.types.specs.declared.Body.{Body}
use Rattle.types.specs.declared.Body.TheVariants.{Empty, Discover, Offer, Request, Renew, Write, WriteAck, Ack}
use Rattle.types.specs.declared.Message.{Message}
use Rattle.types.specs.declared.Facade.{Facade}
use Rattle.rules.specs.Conditions.{◌and◌, ◌or◌, is_within, all}
use Rattle.rules.specs.Clock.{not_negative}
use Rattle.rules.specs.Parts.{parties, server_at, state_at, message_at, offset_at, notice_at, reserved_at, lent_at, potlease_at, write_at}

-- S servers are 2 to 4, C clients 1 to 32, A addresses 1 to 32; Δ is 0 to 1,000, ν 1 to 10,000, μ 1 to 1,000,000, θ 0 to 1,000,000
unfoldable pub config_in_range : Config → Bool
config_in_range c =
    is_within 2 4 c.servers
    and is_within 1 32 c.clients
    and is_within 1 32 c.addresses
    and leb c.skew 1000
    and is_within 1 10000 c.detection
    and is_within 1 1000000 c.mclt
    and leb c.retention 1000000

-- the last true time
abbrev pub last_time : ℕ
last_time = 1000000000

-- the last clock reading: a clock is ahead by 1,000 at most
abbrev pub last_reading : ℕ
last_reading = 1000001000

-- the last end
abbrev pub last_end : ℕ
last_end = 2000000000

-- the last interaction number κ used
abbrev pub last_interaction : ℕ
last_interaction = 1000000

-- the number after it: "the field then holds 1,000,001"
abbrev pub after_last : ℕ
after_last = last_interaction + 1

-- the most messages that may wait
abbrev pub most_waiting : ℕ
most_waiting = 128

-- "Every stored end, τ or record is 0 to 2,000,000,000."
abbrev pub end_in_range : ℕ → Bool
end_in_range e = leb e last_end

-- "stored clock readings are 0 to 1,000,001,000"
abbrev pub reading_in_range : ℕ → Bool
reading_in_range r = leb r last_reading

-- "stored κ are from 1 and below the next one", n
unfoldable pub interaction_in_range : ℕ → ℕ → Bool
interaction_in_range n q = leb 1 q and ltb q n

-- "the signed amount by which its clock is ahead, from −Δ to Δ. Its clock .. is never negative."
unfoldable pub offset_in_range : Config → ℕ → ℤ → Bool
offset_in_range c t o = leb (nat_abs o) c.skew and not_negative t o

unfoldable pub reservation_in_range : ℕ → Option Reservation → Bool
reservation_in_range n None = true
reservation_in_range n (Some x) = interaction_in_range n x.interaction and reading_in_range x.reading

unfoldable pub write_in_range : ℕ → Option Pending → Bool
write_in_range n None = true
write_in_range n (Some x) = interaction_in_range n x.interaction and end_in_range x.end

-- what a server stores for address a
unfoldable pub address_in_range : ℕ → Server → ℕ → Bool
address_in_range n s a =
    reservation_in_range n (reserved_at s a)
    and end_in_range (lent_at s a)
    and end_in_range (potlease_at s a)
    and write_in_range n (write_at s a).pending

-- "Stored true times are not above true time", t
unfoldable pub server_in_range : Config → ℕ → ℕ → Server → Bool
server_in_range c t n s = leb s.changed t and reading_in_range s.returned and all (address_in_range n s) c.addresses

-- the time h of the last notice that server k had about server j, true time being t; a server's own entry is not looked at
unfoldable pub notice_in_range : ℕ → ℕ → ℕ → ℕ → Bool
notice_in_range t k j h = eqb j k or leb h t

unfoldable pub state_in_range : Config → ℕ → State → Bool
state_in_range c n Idle = true
state_in_range c n (Asking q) = interaction_in_range n q
state_in_range c n (Offered q a) = interaction_in_range n q and ltb a c.addresses
state_in_range c n (Waiting q a) = interaction_in_range n q and ltb a c.addresses
state_in_range c n (Holding a e q) = ltb a c.addresses and end_in_range e and interaction_in_range n q

abbrev pub is_server : Config → ℕ → Bool
is_server c p = ltb p c.servers

unfoldable pub is_client : Config → ℕ → Bool
is_client c p = leb c.servers p and ltb p (parties c)

-- "a message's sender and receiver are a server or a client as its type has them"
unfoldable pub body_in_range : Config → ℕ → ℕ → Body → Bool
body_in_range c from to Empty = false
body_in_range c from to Discover = is_client c from and is_server c to
body_in_range c from to (Offer a) = is_server c from and is_client c to and ltb a c.addresses
body_in_range c from to (Request a t) = is_client c from and is_server c to and ltb a c.addresses and end_in_range t
body_in_range c from to (Renew a e t) = is_client c from and is_server c to and ltb a c.addresses and end_in_range e and end_in_range t
body_in_range c from to (Write a v) = is_server c from and is_server c to and ltb a c.addresses and end_in_range v
body_in_range c from to (WriteAck a v) = is_server c from and is_server c to and ltb a c.addresses and end_in_range v
body_in_range c from to (Ack a e) = is_server c from and is_client c to and ltb a c.addresses and end_in_range e

unfoldable pub message_in_range : Config → ℕ → Message → Bool
message_in_range c n m = interaction_in_range n m.interaction and body_in_range c m.sender m.receiver m.body

-- "A facade handed in is refused where one of these ranges, or one in the list above, fails, a negative clock included."
unfoldable pub in_range : Facade → Bool
in_range f =
    config_in_range f.config
    and leb f.time last_time
    and is_within 1 after_last f.next
    and leb f.waiting most_waiting
    and all (λ p. offset_in_range f.config f.time (offset_at f p)) (parties f.config)
    and all (λ k. server_in_range f.config f.time f.next (server_at f k)) f.config.servers
    and all (λ k. all (λ j. notice_in_range f.time k j (notice_at f k j)) f.config.servers) f.config.servers
    and all (λ i. state_in_range f.config f.next (state_at f i)) f.config.clients
    and all (λ p. message_in_range f.config f.next (message_at f p)) f.waiting

-- a facade in range, its message array at its length
abbrev pub Sound : Facade → Type 0
Sound f = T (in_range f) × (length f.messages ≡ 128)
