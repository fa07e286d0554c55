-- The parts of a facade: reading one, and replacing one.
-- A reading outside an array gives what the code's reading would, `no..`: numbers 0, flags false, arrays empty, the first case.
use Rattle.std.specs.Prelude.{Bool, false, List, [], ℕ, ◌+◌, get_or, set, ℤ, pos, Option, Some, None}
use Rattle.types.specs.declared.Config.{Config}
use Rattle.types.specs.declared.Reservation.{Reservation}
use Rattle.types.specs.declared.Pending.{Pending}
use Rattle.types.specs.declared.OpenWrite.{OpenWrite}
use Rattle.types.specs.declared.Server.{Server}
use Rattle.types.specs.declared.Binding.{Binding}
use Rattle.types.specs.declared.State.{State}
use Rattle.types.specs.declared.State.TheVariants.{Idle}
use Rattle.types.specs.declared.Client.{Client}
use Rattle.types.specs.declared.Body.{Body}
use Rattle.types.specs.declared.Body.TheVariants.{Empty}
use Rattle.types.specs.declared.Message.{Message}
use Rattle.types.specs.declared.Facade.{Facade}
use Rattle.rules.specs.Clock.{clock_reading}

-- A server.

abbrev pub no_server : Server
no_server = record { alive = false; changed = 0; returned = 0; believed = []; leads = []; reserved = []; lent = []; potlease = []; writes = [] }

-- reserved for interaction q at clock reading r
abbrev pub taken : ℕ → ℕ → Option Reservation
taken q r = Some (record { interaction = q; reading = r })

-- written in interaction q, v being the end
abbrev pub open_write : ℕ → ℕ → Option Pending
open_write q v = Some (record { interaction = q; end = v })

abbrev pub no_write : OpenWrite
no_write = record { pending = None; acked = [] }

abbrev pub believes : List Bool → ℕ → Bool
believes b j = get_or b j false

abbrev pub leads_at : Server → ℕ → Bool
leads_at s a = get_or s.leads a false

abbrev pub reserved_at : Server → ℕ → Option Reservation
reserved_at s a = get_or s.reserved a None

-- the lent end (acklease)
abbrev pub lent_at : Server → ℕ → ℕ
lent_at s a = get_or s.lent a 0

-- the record (potlease)
abbrev pub potlease_at : Server → ℕ → ℕ
potlease_at s a = get_or s.potlease a 0

abbrev pub write_at : Server → ℕ → OpenWrite
write_at s a = get_or s.writes a no_write

abbrev pub with_life : Server → Bool → ℕ → Server
with_life s alive now = record {
  alive = alive;
  changed = now;
  returned = s.returned;
  believed = s.believed;
  leads = s.leads;
  reserved = s.reserved;
  lent = s.lent;
  potlease = s.potlease;
  writes = s.writes;
}

abbrev pub with_leading : Server → List Bool → List Bool → List ℕ → Server
with_leading s b leads records = record {
  alive = s.alive;
  changed = s.changed;
  returned = s.returned;
  believed = b;
  leads = leads;
  reserved = s.reserved;
  lent = s.lent;
  potlease = records;
  writes = s.writes;
}

abbrev pub with_reserved : Server → List (Option Reservation) → Server
with_reserved s rs = record {
  alive = s.alive;
  changed = s.changed;
  returned = s.returned;
  believed = s.believed;
  leads = s.leads;
  reserved = rs;
  lent = s.lent;
  potlease = s.potlease;
  writes = s.writes;
}

-- What a server keeps for address a: reading it, and replacing it.

abbrev pub binding_at : Server → ℕ → Binding
binding_at s a = record { leads = leads_at s a; reserved = reserved_at s a; lent = lent_at s a; potlease = potlease_at s a; write = write_at s a }

abbrev pub with_binding : Server → ℕ → Binding → Server
with_binding s a b = record {
  alive = s.alive;
  changed = s.changed;
  returned = s.returned;
  believed = s.believed;
  leads = set s.leads a b.leads;
  reserved = set s.reserved a b.reserved;
  lent = set s.lent a b.lent;
  potlease = set s.potlease a b.potlease;
  writes = set s.writes a b.write;
}

abbrev pub with_reservation : Binding → Option Reservation → Binding
with_reservation b x = record { leads = b.leads; reserved = x; lent = b.lent; potlease = b.potlease; write = b.write }

-- the lent end l, the record v and the open write w
abbrev pub with_lease : Binding → ℕ → ℕ → OpenWrite → Binding
with_lease b l v w = record { leads = b.leads; reserved = b.reserved; lent = l; potlease = v; write = w }

-- A client and a message.

abbrev pub in_state : State → Client
in_state x = record { state = x }

abbrev pub no_client : Client
no_client = in_state Idle

abbrev pub message : ℕ → ℕ → ℕ → Body → Message
message from to q b = record { sender = from; receiver = to; interaction = q; body = b }

abbrev pub no_message : Message
no_message = message 0 0 0 Empty

-- The facade. Parties are the servers, then the clients.

abbrev pub client_party : Config → ℕ → ℕ
client_party c i = c.servers + i

abbrev pub parties : Config → ℕ
parties c = c.servers + c.clients

abbrev pub server_at : Facade → ℕ → Server
server_at f k = get_or f.servers k no_server

abbrev pub state_at : Facade → ℕ → State
state_at f i = (get_or f.clients i no_client).state

abbrev pub message_at : Facade → ℕ → Message
message_at f p = get_or f.messages p no_message

-- the amount by which the clock of party p is ahead, by the offsets os and of a facade
abbrev pub offset_of : List ℤ → ℕ → ℤ
offset_of os p = get_or os p (pos 0)

abbrev pub offset_at : Facade → ℕ → ℤ
offset_at f p = offset_of f.offsets p

-- its clock, at true time t and of a facade
abbrev pub clock_of : ℕ → List ℤ → ℕ → ℕ
clock_of t os p = clock_reading t (offset_of os p)

abbrev pub clock : Facade → ℕ → ℕ
clock f p = clock_of f.time f.offsets p

-- the notice times of server k
abbrev pub notices_of : List (List ℕ) → ℕ → List ℕ
notices_of ts k = get_or ts k []

-- the true time at which server k last had a notice about server j, by the notice times ts and of a facade
abbrev pub notice_in : List (List ℕ) → ℕ → ℕ → ℕ
notice_in ts k j = get_or (notices_of ts k) j 0

abbrev pub notice_at : Facade → ℕ → ℕ → ℕ
notice_at f k j = notice_in f.notices k j

-- the notice times once server k has a notice about server j at t
abbrev pub set_notice : List (List ℕ) → ℕ → ℕ → ℕ → List (List ℕ)
set_notice ts k j t = set ts k (set (notices_of ts k) j t)

abbrev pub with_server : Facade → ℕ → Server → Facade
with_server f k s = record {
  config = f.config;
  time = f.time;
  next = f.next;
  offsets = f.offsets;
  servers = set f.servers k s;
  notices = f.notices;
  clients = f.clients;
  messages = f.messages;
  waiting = f.waiting;
}

abbrev pub with_notices : Facade → List (List ℕ) → Facade
with_notices f ts = record {
  config = f.config;
  time = f.time;
  next = f.next;
  offsets = f.offsets;
  servers = f.servers;
  notices = ts;
  clients = f.clients;
  messages = f.messages;
  waiting = f.waiting;
}

abbrev pub with_clients : Facade → List Client → Facade
with_clients f xs = record {
  config = f.config;
  time = f.time;
  next = f.next;
  offsets = f.offsets;
  servers = f.servers;
  notices = f.notices;
  clients = xs;
  messages = f.messages;
  waiting = f.waiting;
}

abbrev pub with_client : Facade → ℕ → Client → Facade
with_client f i x = with_clients f (set f.clients i x)

abbrev pub with_time : Facade → ℕ → List ℤ → Facade
with_time f t os = record {
  config = f.config;
  time = t;
  next = f.next;
  offsets = os;
  servers = f.servers;
  notices = f.notices;
  clients = f.clients;
  messages = f.messages;
  waiting = f.waiting;
}

abbrev pub with_next : Facade → ℕ → Facade
with_next f n = record {
  config = f.config;
  time = f.time;
  next = n;
  offsets = f.offsets;
  servers = f.servers;
  notices = f.notices;
  clients = f.clients;
  messages = f.messages;
  waiting = f.waiting;
}

abbrev pub with_messages : Facade → List Message → ℕ → Facade
with_messages f ms n = record {
  config = f.config;
  time = f.time;
  next = f.next;
  offsets = f.offsets;
  servers = f.servers;
  notices = f.notices;
  clients = f.clients;
  messages = ms;
  waiting = n;
}
