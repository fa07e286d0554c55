-- What was written reads back: the values of each type are flat.
use mathlib.Core.Path.{◌≡◌, refl, sym, ap, ◌∙◌}
use mathlib.Core.Bool.{Bool, true, false}
use mathlib.Core.List.{List, [], ◌∷◌}
use Prim.Native.Nat.{ℕ, ◌+◌, ◌*◌, ◌<◌}
use native.Mathlib.Nat.{add-zero}
use native.Mathlib.Omega.{arith}
use lib.ListN.{length, get_or, take, length-append}
use mir.Syntax.{w32}
use mir.Val.{SFits}
use Rattle.std.specs.List.{concat, flat_map}
use Rattle.std.specs.Prelude.{ℤ, Option, Some, None}
use Rattle.types.specs.Rows.{config_from, config_row}
use Rattle.types.specs.declared.Config.{Config}
use Rattle.types.specs.declared.OpenWrite.{OpenWrite}
use Rattle.types.specs.declared.Reservation.{Reservation}
use Rattle.types.specs.declared.Pending.{Pending}
use Rattle.types.specs.declared.Server.{Server}
use Rattle.types.specs.declared.State.{State}
use Rattle.types.specs.declared.State.TheVariants.{Idle, Asking, Offered, Waiting, Holding}
use Rattle.types.specs.declared.Client.{Client}
use Rattle.types.specs.declared.Body.{Body}
use Rattle.types.specs.declared.Body.TheVariants.{Empty, Discover, Offer, Request, Renew, Write, WriteAck, Ack}
use Rattle.types.specs.declared.Message.{Message}
use Rattle.types.specs.declared.Outbox.{Outbox}
use Rattle.types.specs.declared.Facade.{Facade}
use Rattle.rules.specs.Parts.{taken, open_write}
use Rattle.wire.proofs.Numbers.{complement_signed}
use Rattle.flat.specs.Blocks.{each_in, Holds, IsFlat}
use Rattle.flat.specs.Flat.{plain, number_in, flag_numbers, flag_in, offset_numbers, offset_in, config_in, option_numbers, option_in, reservation_numbers, reservation_in, pending_numbers, pending_in, write_parts, write_numbers, write_in, server_parts, server_numbers, server_in, state_numbers, state_of, state_in, client_numbers, client_in, body_numbers, body_of, body_in, message_parts, message_numbers, message_in, outbox_parts, outbox_numbers, outbox_in, facade_parts, facade_numbers, facade_at, facade_in, codes_facade, codes_server, codes_client, codes_message}
use Rattle.flat.specs.Shape.{Any, Has, WriteShaped, ServerShaped, OutboxShaped, FacadeShaped}
use Rattle.flat.proofs.Blocks.{holds_part, array_flat, own_reads, own_coded}

-- the first number of a list that is held at p
first : {l : List ℕ} {p : ℕ} {v : List ℕ} → Holds l p v → 0 < length v → number_in l p ≡ number_in v 0
first {l} {p} h k = ap (number_in l) (sym (add-zero p)) ∙ h.at 0 k

-- Single numbers.

pub plain_flat : (n : ℕ) → IsFlat Any plain number_in 1 n
plain_flat n = record { shaped = tt; wide = refl; reads = λ l p h. first h (omega arith) }

flag_own : (b : Bool) → flag_in (flag_numbers b) 0 ≡ b
flag_own true = refl
flag_own false = refl

pub flag_flat : (b : Bool) → IsFlat Any flag_numbers flag_in 1 b
flag_flat b = record { shaped = tt; wide = refl; reads = λ l p h. rw (first h (omega arith)) (flag_own b) }

pub offset_flat : (z : ℤ) → SFits w32 z → IsFlat (SFits w32) offset_numbers offset_in 1 z
offset_flat z s = record { shaped = s; wide = refl; reads = λ l p h. rw (first h (omega arith)) (complement_signed z s) }

-- Arrays.

pub plains : (xs : List ℕ) → flat_map plain xs ≡ xs
plains [] = refl
plains (x ∷ xs) = ap (λ (v : List ℕ). x ∷ v) (plains xs)

pub plains_flat : (n : ℕ) (xs : List ℕ) → length xs ≡ n → IsFlat (Has n Any) (flat_map plain) (each_in number_in 1 n) (1 * n) xs
plains_flat n xs e = array_flat n xs e (λ k d h. plain_flat _)

pub flags_flat : (n : ℕ) (xs : List Bool) → length xs ≡ n → IsFlat (Has n Any) (flat_map flag_numbers) (each_in flag_in 1 n) (1 * n) xs
flags_flat n xs e = array_flat n xs e (λ k d h. flag_flat _)

-- A configuration.

pub config_flat : (c : Config) → IsFlat Any config_row config_in 7 c
config_flat c =
    let row = plains_flat 7 (config_row c) refl in
    record { shaped = tt; wide = refl; reads = λ l p h. ap config_from (row.reads l p h) }

-- Cases.

module _ {A : Type 0} (some : ℕ → ℕ → Option A) (g h : A → ℕ) (own : (x : A) → some (g x) (h x) ≡ Some x) where
  option_width : (x : Option A) → length (option_numbers g h x) ≡ 3
  option_width None = refl
  option_width (Some x) = refl

  option_own : (x : Option A) → option_in some (option_numbers g h x) 0 ≡ x
  option_own None = refl
  option_own (Some x) = own x

  option_flat : (x : Option A) → IsFlat Any (option_numbers g h) (option_in some) 3 x
  option_flat x = record {
    shaped = tt;
    wide = option_width x;
    reads = λ l p k.
        let v = option_numbers g h x in
        let e = option_width x in
        rw (first k (omega arith), k.at 1 (omega arith), k.at 2 (omega arith)) (option_own x);
  }

pub pair_flat : (x : Option (ℕ × ℕ)) → IsFlat Any (option_numbers (λ (x : ℕ × ℕ). x.0) (λ (x : ℕ × ℕ). x.1)) (option_in (λ a b. Some (a, b))) 3 x
pair_flat = option_flat (λ a b. Some (a, b)) (λ x. x.0) (λ x. x.1) (λ x. refl)

pub reservation_flat : (x : Option Reservation) → IsFlat Any reservation_numbers reservation_in 3 x
reservation_flat = option_flat taken (λ x. x.interaction) (λ x. x.reading) (λ x. refl)

pub pending_flat : (x : Option Pending) → IsFlat Any pending_numbers pending_in 3 x
pending_flat = option_flat open_write (λ x. x.interaction) (λ x. x.end) (λ x. refl)

state_width : (x : State) → length (state_numbers x) ≡ 4
state_width Idle = refl
state_width (Asking q) = refl
state_width (Offered q a) = refl
state_width (Waiting q a) = refl
state_width (Holding a e q) = refl

state_own : (x : State) → state_in (state_numbers x) 0 ≡ x
unfolding state_of
state_own Idle = refl
state_own (Asking q) = refl
state_own (Offered q a) = refl
state_own (Waiting q a) = refl
state_own (Holding a e q) = refl

pub client_flat : (x : Client) → IsFlat Any client_numbers client_in 4 x
client_flat x = record {
  shaped = tt;
  wide = state_width x.state;
  reads = λ l p k.
      let v = state_numbers x.state in
      let e = state_width x.state in
      let own : client_in v 0 ≡ x = ap (λ (y : State). record { state = y }) (state_own x.state) in
      rw (first k (omega arith), k.at 1 (omega arith), k.at 2 (omega arith), k.at 3 (omega arith)) own;
}

body_width : (x : Body) → length (body_numbers x) ≡ 4
body_width Empty = refl
body_width Discover = refl
body_width (Offer a) = refl
body_width (Request a t) = refl
body_width (Renew a e t) = refl
body_width (Write a v) = refl
body_width (WriteAck a v) = refl
body_width (Ack a e) = refl

body_own : (x : Body) → body_in (body_numbers x) 0 ≡ x
unfolding body_of
body_own Empty = refl
body_own Discover = refl
body_own (Offer a) = refl
body_own (Request a t) = refl
body_own (Renew a e t) = refl
body_own (Write a v) = refl
body_own (WriteAck a v) = refl
body_own (Ack a e) = refl

body_flat : (x : Body) → IsFlat Any body_numbers body_in 4 x
body_flat x = record {
  shaped = tt;
  wide = body_width x;
  reads = λ l p k.
      let e = body_width x in
      rw (first k (omega arith), k.at 1 (omega arith), k.at 2 (omega arith), k.at 3 (omega arith)) (body_own x);
}

-- Parts one behind the other.

-- a value that is part i of lists which stand from p on
module _ {A : Type 0} {P : A → Type 0} {f : A → List ℕ} {r : List ℕ → ℕ → A} {w : ℕ} {x : A} (h : IsFlat P f r w x) where
  part_reads : {l : List ℕ} {p : ℕ} (vs : List (List ℕ)) (i q : ℕ) → Holds l p (concat vs) → i < length vs → get_or vs i [] ≡ f x
      → q ≡ p + length (concat (take i vs)) → r l q ≡ x
  part_reads {l} {p} vs i q k b e at = h.reads l q (rw e at (holds_part vs i p q k b at))

pub message_flat : (m : Message) → IsFlat Any message_numbers message_in 7 m
unfolding message_numbers
message_flat m =
    let vs = message_parts m in
    let body = body_flat m.body in
    record {
      shaped = tt;
      wide = omega (arith, length-append (body_numbers m.body) []);
      reads = λ l p k.
          rw (
            first k (omega arith),
            k.at 1 (omega arith),
            k.at 2 (omega arith),
            part_reads body vs 1 (p + 3) k (omega arith) refl refl,
          );
    }

pub write_flat : (w : OpenWrite) → WriteShaped w → IsFlat WriteShaped write_numbers write_in 7 w
unfolding write_numbers write_in
write_flat w h =
    let vs = write_parts w in
    let pending = pending_flat w.pending in
    let acked = flags_flat 4 w.acked h in
    record {
      shaped = h;
      wide = omega (arith, length-append {A = ℕ});
      reads = λ l p k.
          rw (
            part_reads pending vs 0 p k (omega arith) refl (omega arith),
            part_reads acked vs 1 (p + 3) k (omega arith) refl (omega (arith, length-append {A = ℕ})),
          );
    }

pub server_flat : (s : Server) → ServerShaped s → IsFlat ServerShaped server_numbers server_in 423 s
unfolding server_numbers server_in
server_flat s h =
    let vs = server_parts s in
    let believed = flags_flat 4 s.believed h.believed in
    let leads = flags_flat 32 s.leads h.leads in
    let lent = plains_flat 32 s.lent h.lent in
    let potlease = plains_flat 32 s.potlease h.potlease in
    let reserved = array_flat 32 s.reserved h.reserved (λ k d b. reservation_flat _) in
    let writes = array_flat 32 s.writes h.writes.many (λ k d b. write_flat _ (h.writes.each k d b)) in
    record {
      shaped = h;
      wide = omega (arith, length-append {A = ℕ});
      reads = λ l p k.
          let alive : flag_in l p ≡ s.alive = rw (first k (omega arith)) (flag_own s.alive) in
          rw (
            alive,
            k.at 1 (omega arith),
            k.at 2 (omega arith),
            part_reads believed vs 1 (p + 3) k (omega arith) refl refl,
            part_reads leads vs 2 (p + 7) k (omega arith) refl (omega (arith, length-append {A = ℕ})),
            part_reads lent vs 3 (p + 39) k (omega arith) refl (omega (arith, length-append {A = ℕ})),
            part_reads potlease vs 4 (p + 71) k (omega arith) refl (omega (arith, length-append {A = ℕ})),
            part_reads reserved vs 5 (p + 103) k (omega arith) refl (omega (arith, length-append {A = ℕ})),
            part_reads writes vs 6 (p + 199) k (omega arith) refl (omega (arith, length-append {A = ℕ})),
          );
    }

pub facade_flat : (f : Facade) → FacadeShaped f → IsFlat FacadeShaped facade_numbers facade_at 2778 f
unfolding facade_numbers facade_at
facade_flat f h =
    let vs = facade_parts f in
    let config = config_flat f.config in
    let offsets = array_flat 36 f.offsets h.offsets.many (λ k d b. offset_flat _ (h.offsets.each k d b)) in
    let notices = array_flat 4 f.notices h.notices.many (λ k d b. plains_flat 4 _ (h.notices.each k d b).many) in
    let servers = array_flat 4 f.servers h.servers.many (λ k d b. server_flat _ (h.servers.each k d b)) in
    let clients = array_flat 32 f.clients h.clients (λ k d b. client_flat _) in
    let messages = array_flat 128 f.messages h.messages (λ k d b. message_flat _) in
    record {
      shaped = h;
      wide = omega (arith, length-append {A = ℕ});
      reads = λ l p k.
          rw (
            part_reads config vs 0 p k (omega arith) refl (omega arith),
            k.at 7 (omega arith),
            k.at 8 (omega arith),
            k.at 9 (omega arith),
            part_reads offsets vs 2 (p + 10) k (omega arith) refl refl,
            part_reads notices vs 3 (p + 46) k (omega arith) refl (omega (arith, length-append {A = ℕ})),
            part_reads servers vs 4 (p + 62) k (omega arith) refl (omega (arith, length-append {A = ℕ})),
            part_reads clients vs 5 (p + 1754) k (omega arith) refl (omega (arith, length-append {A = ℕ})),
            part_reads messages vs 6 (p + 1882) k (omega arith) refl (omega (arith, length-append {A = ℕ})),
          );
    }

pub outbox_flat : (o : Outbox) → OutboxShaped o → IsFlat OutboxShaped outbox_numbers outbox_in 29 o
unfolding outbox_numbers outbox_in
outbox_flat o h =
    let vs = outbox_parts o in
    let messages = array_flat 4 o.messages h (λ k d b. message_flat _) in
    record {
      shaped = h;
      wide = omega (arith, length-append {A = ℕ});
      reads = λ l p k.
          rw (
            part_reads (plain_flat o.count) vs 0 p k (omega arith) refl (omega arith),
            part_reads messages vs 1 (p + 1) k (omega arith) refl refl,
          );
    }

-- the law: what was written reads back, and codes

pub facade_back : (f : Facade) → FacadeShaped f → facade_in (facade_numbers f) ≡ f
facade_back f h = own_reads facade_numbers facade_at 2778 (facade_flat f h)

pub facade_coded : (f : Facade) → FacadeShaped f → codes_facade (facade_numbers f) ≡ true
facade_coded f h = own_coded facade_numbers facade_at 2778 (facade_flat f h)

-- The same of a server, a client and a message by itself.

pub server_coded : (s : Server) → ServerShaped s → codes_server (server_numbers s) ≡ true
server_coded s h = own_coded server_numbers server_in 423 (server_flat s h)

pub client_coded : (x : Client) → codes_client (client_numbers x) ≡ true
client_coded x = own_coded client_numbers client_in 4 (client_flat x)

pub message_coded : (m : Message) → codes_message (message_numbers m) ≡ true
message_coded m = own_coded message_numbers message_in 7 (message_flat m)
