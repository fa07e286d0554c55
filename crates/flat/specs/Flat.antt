-- The flat form (docs/FLAT-FORM.md): for each type its numbers, and the reading from place p of a list on. Every list reads as
-- something: a number past the end is 0, a flag is set if its number is 1, and a case that there is not is the first one.
use Rattle.std.specs.Prelude.{Bool, cond, List, [], ◌∷◌, ℕ, ◌+◌, eqb, ℤ, get_or, flat_map, Option, Some, None}
use Rattle.std.specs.List.{concat}
use Rattle.types.specs.declared.Config.{Config}
use Rattle.types.specs.declared.Reservation.{Reservation}
use Rattle.types.specs.declared.Pending.{Pending}
use Rattle.types.specs.declared.OpenWrite.{OpenWrite}
use Rattle.types.specs.declared.Server.{Server}
use Rattle.types.specs.declared.State.{State}
use Rattle.types.specs.declared.State.TheVariants.{Idle, Asking, Offered, Waiting, Holding}
use Rattle.types.specs.declared.Client.{Client}
use Rattle.types.specs.declared.Body.{Body}
use Rattle.types.specs.declared.Body.TheVariants.{Empty, Discover, Offer, Request, Renew, Write, WriteAck, Ack}
use Rattle.types.specs.declared.Message.{Message}
use Rattle.types.specs.declared.Outbox.{Outbox}
use Rattle.types.specs.declared.Facade.{Facade}
use Rattle.types.specs.Rows.{config_from, config_row}
use Rattle.rules.specs.Clock.{as_signed}
use Rattle.rules.specs.Parts.{taken, open_write, in_state, message}
use Rattle.wire.specs.Numbers.{complement}
use Rattle.flat.specs.Blocks.{each_in, codes}

-- "Numbers stand as they are, signed ones in two's complement, a flag as 0 or 1."

abbrev pub plain : ℕ → List ℕ
plain n = n ∷ []

abbrev pub number_in : List ℕ → ℕ → ℕ
number_in l p = get_or l p 0

abbrev pub flag_number : Bool → ℕ
flag_number b = cond b 1 0

abbrev pub flag_numbers : Bool → List ℕ
flag_numbers b = plain (flag_number b)

abbrev pub flag_in : List ℕ → ℕ → Bool
flag_in l p = eqb (number_in l p) 1

abbrev pub offset_numbers : ℤ → List ℕ
offset_numbers z = plain (complement z)

abbrev pub offset_in : List ℕ → ℕ → ℤ
offset_in l p = as_signed (number_in l p)

-- "the configuration: servers S, clients C, addresses A, skew Δ, detection ν, mclt μ, retention θ"

abbrev pub config_in : List ℕ → ℕ → Config
config_in l p = config_from (each_in number_in 1 7 l p)

-- None, or two numbers behind a 1: g and h give them, and `some` makes of them what they stand for.

abbrev pub option_numbers : {A : Type 0} → (A → ℕ) → (A → ℕ) → Option A → List ℕ
option_numbers g h None = 0 ∷ 0 ∷ 0 ∷ []
option_numbers g h (Some x) = 1 ∷ g x ∷ h x ∷ []

abbrev pub option_in : {A : Type 0} → (ℕ → ℕ → Option A) → List ℕ → ℕ → Option A
option_in some l p = cond (flag_in l p) (some (number_in l (p + 1)) (number_in l (p + 2))) None

-- "the reservation: 0, 0, 0 for none; 1, κ, clock reading"

abbrev pub reservation_numbers : Option Reservation → List ℕ
reservation_numbers = option_numbers (λ x. x.interaction) (λ x. x.reading)

abbrev pub reservation_in : List ℕ → ℕ → Option Reservation
reservation_in = option_in taken

-- "the open write: 0, 0, 0 for none; 1, κ, end; then for each server a flag: acknowledged"

abbrev pub pending_numbers : Option Pending → List ℕ
pending_numbers = option_numbers (λ x. x.interaction) (λ x. x.end)

abbrev pub pending_in : List ℕ → ℕ → Option Pending
pending_in = option_in open_write

abbrev pub write_parts : OpenWrite → List (List ℕ)
write_parts w = pending_numbers w.pending ∷ flat_map flag_numbers w.acked ∷ []

unfoldable pub write_numbers : OpenWrite → List ℕ
write_numbers w = concat (write_parts w)

unfoldable pub write_in : List ℕ → ℕ → OpenWrite
write_in l p = record {
  pending = pending_in l p;
  acked = each_in flag_in 1 4 l (p + 3);
}

-- "A server: 423 numbers"

abbrev pub server_parts : Server → List (List ℕ)
server_parts s =
    (flag_number s.alive ∷ s.changed ∷ s.returned ∷ [])
    ∷ flat_map flag_numbers s.believed
    ∷ flat_map flag_numbers s.leads
    ∷ flat_map plain s.lent
    ∷ flat_map plain s.potlease
    ∷ flat_map reservation_numbers s.reserved
    ∷ flat_map write_numbers s.writes
    ∷ []

unfoldable pub server_numbers : Server → List ℕ
server_numbers s = concat (server_parts s)

unfoldable pub server_in : List ℕ → ℕ → Server
server_in l p = record {
  alive = flag_in l p;
  changed = number_in l (p + 1);
  returned = number_in l (p + 2);
  believed = each_in flag_in 1 4 l (p + 3);
  leads = each_in flag_in 1 32 l (p + 7);
  reserved = each_in reservation_in 3 32 l (p + 103);
  lent = each_in number_in 1 32 l (p + 39);
  potlease = each_in number_in 1 32 l (p + 71);
  writes = each_in write_in 7 32 l (p + 199);
}

-- "A client: 4 numbers"

abbrev pub state_numbers : State → List ℕ
state_numbers Idle = 0 ∷ 0 ∷ 0 ∷ 0 ∷ []
state_numbers (Asking q) = 1 ∷ q ∷ 0 ∷ 0 ∷ []
state_numbers (Offered q a) = 2 ∷ q ∷ a ∷ 0 ∷ []
state_numbers (Waiting q a) = 3 ∷ q ∷ a ∷ 0 ∷ []
state_numbers (Holding a e q) = 4 ∷ a ∷ e ∷ q ∷ []

unfoldable pub state_of : ℕ → ℕ → ℕ → ℕ → State
state_of k a b c =
    cond (eqb k 1) (Asking a)
    (cond (eqb k 2) (Offered a b)
    (cond (eqb k 3) (Waiting a b)
    (cond (eqb k 4) (Holding a b c)
    Idle)))

abbrev pub state_in : List ℕ → ℕ → State
state_in l p = state_of (number_in l p) (number_in l (p + 1)) (number_in l (p + 2)) (number_in l (p + 3))

abbrev pub client_numbers : Client → List ℕ
client_numbers x = state_numbers x.state

abbrev pub client_in : List ℕ → ℕ → Client
client_in l p = in_state (state_in l p)

-- "A message: 7 numbers"

abbrev pub body_numbers : Body → List ℕ
body_numbers Empty = 0 ∷ 0 ∷ 0 ∷ 0 ∷ []
body_numbers Discover = 1 ∷ 0 ∷ 0 ∷ 0 ∷ []
body_numbers (Offer a) = 2 ∷ a ∷ 0 ∷ 0 ∷ []
body_numbers (Request a t) = 3 ∷ a ∷ t ∷ 0 ∷ []
body_numbers (Renew a e t) = 4 ∷ a ∷ e ∷ t ∷ []
body_numbers (Write a v) = 5 ∷ a ∷ v ∷ 0 ∷ []
body_numbers (WriteAck a v) = 6 ∷ a ∷ v ∷ 0 ∷ []
body_numbers (Ack a e) = 7 ∷ a ∷ e ∷ 0 ∷ []

unfoldable pub body_of : ℕ → ℕ → ℕ → ℕ → Body
body_of k a b c =
    cond (eqb k 1) Discover
    (cond (eqb k 2) (Offer a)
    (cond (eqb k 3) (Request a b)
    (cond (eqb k 4) (Renew a b c)
    (cond (eqb k 5) (Write a b)
    (cond (eqb k 6) (WriteAck a b)
    (cond (eqb k 7) (Ack a b)
    Empty))))))

abbrev pub body_in : List ℕ → ℕ → Body
body_in l p = body_of (number_in l p) (number_in l (p + 1)) (number_in l (p + 2)) (number_in l (p + 3))

abbrev pub message_parts : Message → List (List ℕ)
message_parts m = (m.sender ∷ m.receiver ∷ m.interaction ∷ []) ∷ body_numbers m.body ∷ []

unfoldable pub message_numbers : Message → List ℕ
message_numbers m = concat (message_parts m)

abbrev pub message_in : List ℕ → ℕ → Message
message_in l p = message (number_in l p) (number_in l (p + 1)) (number_in l (p + 2)) (body_in l (p + 3))

-- What a party sends, 29 numbers: how many, and the four places.

abbrev pub outbox_parts : Outbox → List (List ℕ)
outbox_parts o = plain o.count ∷ flat_map message_numbers o.messages ∷ []

unfoldable pub outbox_numbers : Outbox → List ℕ
outbox_numbers o = concat (outbox_parts o)

unfoldable pub outbox_in : List ℕ → ℕ → Outbox
outbox_in l p = record { count = number_in l p; messages = each_in message_in 7 4 l (p + 1) }

-- "A facade: 2,778 numbers"

abbrev pub facade_parts : Facade → List (List ℕ)
facade_parts f =
    config_row f.config
    ∷ (f.time ∷ f.next ∷ f.waiting ∷ [])
    ∷ flat_map offset_numbers f.offsets
    ∷ flat_map (flat_map plain) f.notices
    ∷ flat_map server_numbers f.servers
    ∷ flat_map client_numbers f.clients
    ∷ flat_map message_numbers f.messages
    ∷ []

unfoldable pub facade_numbers : Facade → List ℕ
facade_numbers f = concat (facade_parts f)

unfoldable pub facade_at : List ℕ → ℕ → Facade
facade_at l p = record {
  config = config_in l p;
  time = number_in l (p + 7);
  next = number_in l (p + 8);
  offsets = each_in offset_in 1 36 l (p + 10);
  servers = each_in server_in 423 4 l (p + 62);
  notices = each_in (each_in number_in 1 4) 4 4 l (p + 46);
  clients = each_in client_in 4 32 l (p + 1754);
  messages = each_in message_in 7 128 l (p + 1882);
  waiting = number_in l (p + 9);
}

-- in a list of its own
abbrev pub facade_in : List ℕ → Facade
facade_in l = facade_at l 0

-- Which lists code something: "Every facade, its unused places too, has exactly one flat form, and a list that is no facade's
-- flat form codes nothing."

abbrev pub codes_facade : List ℕ → Bool
codes_facade = codes facade_numbers facade_at 2778

abbrev pub codes_server : List ℕ → Bool
codes_server = codes server_numbers server_in 423

abbrev pub codes_client : List ℕ → Bool
codes_client = codes client_numbers client_in 4

abbrev pub codes_message : List ℕ → Bool
codes_message = codes message_numbers message_in 7
