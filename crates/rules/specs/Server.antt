-- What a server does, on its own value: c is the configuration, k its number, r its clock reading, s its value.
-- A message comes from party p in interaction q. The answer is its new value, the outcome and what it sends.
-- What is done for one address is done on what the server keeps for it, its binding b.
-- Whether it is alive, the time of its last change and the notice times are the facade's to write.
use Rattle.std.specs.Prelude.{Bool, true, false, not, cond, List, ℕ, ◌+◌, ◌*◌, max, leb, ltb, eqb, get_or, set, replicate, Option, Some, None}
use Rattle.types.specs.declared.Config.{Config}
use Rattle.types.specs.declared.Reservation.{Reservation}
use Rattle.types.specs.declared.Pending.{Pending}
use Rattle.types.specs.declared.OpenWrite.{OpenWrite}
use Rattle.types.specs.declared.Server.{Server}
use Rattle.types.specs.declared.Binding.{Binding}
use Rattle.types.specs.declared.Body.{Body}
use Rattle.types.specs.declared.Body.TheVariants.{Empty, Discover, Offer, Request, Renew, Write, WriteAck, Ack}
use Rattle.types.specs.declared.Message.{Message}
use Rattle.types.specs.declared.Outcome.TheVariants.{Done, Unmet, Dead}
use Rattle.types.specs.declared.Reaction.{Reaction}
use Rattle.rules.specs.Conditions.{◌and◌, ◌or◌, all, lowest, filled}
use Rattle.rules.specs.Parts.{taken, open_write, leads_at, potlease_at, binding_at, with_leading, with_reserved, with_binding, with_reservation, with_lease, message}
use Rattle.rules.specs.Order.{is_first}
use Rattle.rules.specs.Messages.{nothing, answer, post, to_others}

-- the server that does so for address a
abbrev pub at_address : Server → ℕ → Reaction Binding → Reaction Server
at_address s a x = answer (with_binding s a x.after) x.outcome x.outbox

-- no open write
abbrev pub closed : OpenWrite
closed = record { pending = None; acked = replicate 4 false }

abbrev pub opened : ℕ → ℕ → List Bool → OpenWrite
opened q v acked = record { pending = open_write q v; acked = acked }

-- Notice.

-- how long a server waits after its return before it may begin to lead: 2ν + 2Δ
abbrev pub lead_delay : Config → ℕ
lead_delay c = 2 * c.detection + 2 * c.skew

-- what is recorded on beginning to lead: clock + μ + 2Δ
abbrev pub lead_record : Config → ℕ → ℕ
lead_record c r = r + c.mclt + 2 * c.skew

-- "the server leads it if it is first among its believed live in that address's order
-- and either led it already or its clock is at least its return reading + 2ν + 2Δ. Else it does not lead."
abbrev pub may_lead : Config → ℕ → ℕ → ℕ → Bool → List Bool → ℕ → Bool
may_lead c k r returned before b a = is_first c.servers a k b and (before or leb (returned + lead_delay c) r)

unfoldable pub leads_after : Config → ℕ → ℕ → Server → List Bool → ℕ → Bool
leads_after c k r s b a = may_lead c k r s.returned (leads_at s a) b a

-- "On beginning to lead, record := larger of the record and clock + μ + 2Δ, in the same step." The record is v.
abbrev pub raised : Config → ℕ → Bool → Bool → ℕ → ℕ
raised c r before now v = cond (now and not before) (max v (lead_record c r)) v

unfoldable pub record_after : Config → ℕ → ℕ → Server → List Bool → ℕ → ℕ
record_after c k r s b a = raised c r (leads_at s a) (leads_after c k r s b a) (potlease_at s a)

-- the server with the set b, each address below A decided anew
unfoldable pub leading_with : Config → ℕ → ℕ → Server → List Bool → Server
leading_with c k r s b = with_leading s b (filled (leads_after c k r s b) c.addresses s.leads) (filled (record_after c k r s b) c.addresses s.potlease)

-- "the set is updated; then, for each address, .."
unfoldable pub noticed : Config → ℕ → ℕ → Server → ℕ → ℕ → Reaction Server
noticed c k r s about says = answer (leading_with c k r s (set s.believed about (eqb says 1))) Done nothing

-- Return.

-- "Records survive."
abbrev pub kept_records : Server → List ℕ
kept_records s = s.potlease

-- "believed live is all; led, reservations, lent ends and writes are cleared": so is a server that is fresh
abbrev pub cleared_server : Bool → ℕ → ℕ → List ℕ → Server
cleared_server alive changed returned records = record {
  alive = alive;
  changed = changed;
  returned = returned;
  believed = replicate 4 true;
  leads = replicate 32 false;
  reserved = replicate 32 None;
  lent = replicate 32 0;
  potlease = records;
  writes = replicate 32 closed;
}

-- "its return reading is its clock"
unfoldable pub after_return : ℕ → Server → Reaction Server
after_return r s = answer (cleared_server s.alive s.changed r (kept_records s)) Done nothing

-- Cleanup.

-- of the reservations, each below n decided anew by g
abbrev pub reservations_by : (Option Reservation → Option Reservation) → ℕ → List (Option Reservation) → List (Option Reservation)
reservations_by g n rs = filled (λ a. g (get_or rs a None)) n rs

-- "drops each reservation whose reading + θ < clock"
unfoldable pub freed_if_old : Config → ℕ → Option Reservation → Option Reservation
freed_if_old c r None = None
freed_if_old c r (Some x) = cond (ltb (x.reading + c.retention) r) None (Some x)

-- the server with its old reservations dropped
unfoldable pub cleaned : Config → ℕ → Server → Reaction Server
cleaned c r s = answer (with_reserved s (reservations_by (freed_if_old c r) c.addresses s.reserved)) Done nothing

-- Discover.

-- a record must have passed by more than this: 2Δ
abbrev pub expiry_slack : Config → ℕ
expiry_slack c = 2 * c.skew

-- "record + 2Δ < clock", of a record v
abbrev pub has_passed : Config → ℕ → ℕ → Bool
has_passed c r v = ltb (v + expiry_slack c) r

unfoldable pub is_free : Option Reservation → Bool
is_free None = true
is_free (Some x) = false

-- "led, not reserved, and has record + 2Δ < clock"
abbrev pub may_offer : Config → ℕ → Bool → Option Reservation → ℕ → Bool
may_offer c r leads x v = leads and is_free x and has_passed c r v

unfoldable pub offerable : Config → ℕ → Binding → Bool
offerable c r b = may_offer c r b.leads b.reserved b.potlease

-- "is reserved for κ and offered"
unfoldable pub offered : ℕ → ℕ → Binding → ℕ → ℕ → ℕ → Reaction Binding
offered k r b p q a = answer (with_reservation b (taken q r)) Done (post nothing (message k p q (Offer a)))

-- for the address found. "None: outcome 1."
unfoldable pub on_discover : Config → ℕ → ℕ → Binding → ℕ → ℕ → ℕ → Reaction Binding
on_discover c k r b p q a = cond (offerable c r b) (offered k r b p q a) (answer b Unmet nothing)

-- whether address a may be offered, by what the server leads, reserves and has on record
abbrev pub offerable_at : Config → ℕ → List Bool → List (Option Reservation) → List ℕ → ℕ → Bool
offerable_at c r leads reserved records a = may_offer c r (get_or leads a false) (get_or reserved a None) (get_or records a 0)

-- "the lowest-numbered address that .."; where there is none, the first, which may not be offered then (A is at least 1)
unfoldable pub lowest_offerable : Config → ℕ → List Bool → List (Option Reservation) → List ℕ → ℕ
lowest_offerable c r leads reserved records =
    cond (ltb (lowest (offerable_at c r leads reserved records) 0 c.addresses) c.addresses)
    (lowest (offerable_at c r leads reserved records) 0 c.addresses)
    0

-- Request.

-- the end that the other servers are asked to record: "v := larger of τ and lent end"
abbrev pub written_end : ℕ → ℕ → ℕ
written_end t l = max t l

-- the end in the ack: "the ack with the lent end is sent"; τ is not looked at
abbrev pub ack_end : ℕ → ℕ → ℕ
ack_end t l = l

-- address a is lent until l, and t was wanted: "record := larger of record and v; the open write becomes (κ, v, itself only);
-- the ack with the lent end is sent, then writes (κ, address, v) to every other server"
unfoldable pub granted : Config → ℕ → Binding → ℕ → ℕ → ℕ → ℕ → ℕ → Reaction Binding
granted c k b p q a t l =
    answer (with_lease b l (max b.potlease (written_end t l)) (opened q (written_end t l) (set (replicate 4 false) k true)))
    Done
    (to_others k (λ j. message k j q (Write a (written_end t l))) c.servers (post nothing (message k p q (Ack a (ack_end t l)))))

-- "If led and record + 2Δ < clock"
unfoldable pub grantable : Config → ℕ → Binding → Bool
grantable c r b = b.leads and has_passed c r b.potlease

-- "lent end := clock + μ"
unfoldable pub on_request : Config → ℕ → ℕ → Binding → ℕ → ℕ → ℕ → ℕ → Reaction Binding
on_request c k r b p q a t = cond (grantable c r b) (granted c k b p q a t (r + c.mclt)) (answer b Unmet nothing)

-- a reservation, free if it is one of q
unfoldable pub freed_if_of : ℕ → Option Reservation → Option Reservation
freed_if_of q None = None
freed_if_of q (Some x) = cond (eqb x.interaction q) None (Some x)

-- "reservations of κ are dropped in any case"
unfoldable pub dropped : Config → ℕ → Server → Server
dropped c q s = with_reserved s (reservations_by (freed_if_of q) c.addresses s.reserved)

-- Renew: "if led and the old end is at least clock: lent end := larger of clock + μ and lent end; the rest as for a request."
unfoldable pub on_renew : Config → ℕ → ℕ → Binding → ℕ → ℕ → ℕ → ℕ → ℕ → Reaction Binding
on_renew c k r b p q a e t =
    cond (b.leads and leb r e) (granted c k b p q a t (max (r + c.mclt) b.lent)) (answer b Unmet nothing)

-- Write: "record := larger of record and v; a write ack (κ, address, v) returns to the sender."
unfoldable pub on_write : ℕ → Binding → ℕ → ℕ → ℕ → ℕ → Reaction Binding
on_write k b p q a v = answer (with_lease b b.lent (max b.potlease v) b.write) Done (post nothing (message k p q (WriteAck a v)))

-- Write ack.

-- "κ and v both equal the open write's"
unfoldable pub matches_write : ℕ → ℕ → Option Pending → Bool
matches_write q v None = false
matches_write q v (Some x) = eqb q x.interaction and eqb v x.end

-- "when all S servers are in, lent end := larger of it and v, and the write closes"
unfoldable pub acknowledged : Config → Binding → ℕ → ℕ → List Bool → Binding
acknowledged c b q v acked =
    cond (all (λ j. get_or acked j false) c.servers)
    (with_lease b (max b.lent v) b.potlease closed)
    (with_lease b b.lent b.potlease (opened q v acked))

-- "if led and .., the sender is added"
unfoldable pub on_write_ack : Config → Binding → ℕ → ℕ → ℕ → Reaction Binding
on_write_ack c b p q v =
    cond (b.leads and matches_write q v b.write.pending)
    (answer (acknowledged c b q v (set b.write.acked p true)) Done nothing)
    (answer b Unmet nothing)

-- A message.

-- the address that it is about: the one that it names, or that found for a discover
unfoldable pub address_for : Config → ℕ → List Bool → List (Option Reservation) → List ℕ → Body → ℕ
address_for c r leads reserved records Empty = 0
address_for c r leads reserved records Discover = lowest_offerable c r leads reserved records
address_for c r leads reserved records (Offer a) = a
address_for c r leads reserved records (Request a t) = a
address_for c r leads reserved records (Renew a e t) = a
address_for c r leads reserved records (Write a v) = a
address_for c r leads reserved records (WriteAck a v) = a
address_for c r leads reserved records (Ack a e) = a

-- what is done for address a; a message that is for a client has no condition here that is met
unfoldable pub handled_at : Config → ℕ → ℕ → Binding → ℕ → ℕ → ℕ → Body → Reaction Binding
handled_at c k r b p q a Empty = answer b Unmet nothing
handled_at c k r b p q a Discover = on_discover c k r b p q a
handled_at c k r b p q a (Offer _) = answer b Unmet nothing
handled_at c k r b p q a (Request _ t) = on_request c k r b p q a t
handled_at c k r b p q a (Renew _ e t) = on_renew c k r b p q a e t
handled_at c k r b p q a (Write _ v) = on_write k b p q a v
handled_at c k r b p q a (WriteAck _ v) = on_write_ack c b p q v
handled_at c k r b p q a (Ack _ e) = answer b Unmet nothing

unfoldable pub is_request : Body → Bool
is_request Empty = false
is_request Discover = false
is_request (Offer a) = false
is_request (Request a t) = true
is_request (Renew a e t) = false
is_request (Write a v) = false
is_request (WriteAck a v) = false
is_request (Ack a e) = false

-- the server that handles it: the reservations of a request's κ are dropped first
abbrev pub readied : Config → ℕ → Server → Body → Server
readied c q s x = cond (is_request x) (dropped c q s) s

abbrev pub address_of : Config → ℕ → Server → Body → ℕ
address_of c r s x = address_for c r s.leads s.reserved s.potlease x

unfoldable pub server_handles : Config → ℕ → ℕ → Server → ℕ → ℕ → Body → Reaction Server
server_handles c k r s p q x =
    at_address (readied c q s x) (address_of c r s x) (handled_at c k r (binding_at (readied c q s x) (address_of c r s x)) p q (address_of c r s x) x)

-- "A dead receiver: outcome 2, nothing handled."
unfoldable pub server_receives : Config → ℕ → ℕ → Server → Message → Reaction Server
server_receives c k r s m = cond s.alive (server_handles c k r s m.sender m.interaction m.body) (answer s Dead nothing)
