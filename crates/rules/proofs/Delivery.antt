-- Each step that is not refused keeps every promise covered.
use mathlib.Core.Path.{◌≡◌, refl, ◌∙◌}
use mathlib.Core.Bool.{not}
use mathlib.Core.List.{List}
use Prim.Native.Nat.{ℕ, ◌+◌, ◌-◌, ◌≤◌, ◌<◌}
use native.Mathlib.Nat.{le_refl}
use native.Mathlib.Omega.{arith}
use lib.Dec.{T, eqb, ltb→lt, nltb→le}
use lib.ListN.{length}
use Rattle.types.specs.declared.Config.{Config}
use Rattle.types.specs.declared.Body.{Body}
use Rattle.types.specs.declared.Body.TheVariants.{Empty, Discover, Offer, Request, Renew, Write, WriteAck, Ack}
use Rattle.types.specs.declared.Message.{Message}
use Rattle.types.specs.declared.Outbox.{Outbox}
use Rattle.types.specs.declared.Facade.{Facade}
use Rattle.rules.specs.Parts.{server_at, message_at, client_party, parties, with_messages}
use Rattle.rules.specs.Ranges.{is_server, is_client, body_in_range, message_in_range}
use Rattle.rules.specs.Messages.{send_all, without}
use Rattle.rules.specs.Steps.{Action, pass, fail, return, notice, discover, request, renew, deliver, lose, cleanup, unknown, exists, delivered, deed_of, takes_out, position, taken_out, enacted, server_after, notices_after, client_after, next_after, effect}
use Rattle.types.specs.declared.Deed.{Deed}
use Rattle.rules.proofs.Laws.{Or, inl, inr, and_l, and_r, clash, cond_case}
use Rattle.rules.proofs.Cable.{Among, Waits, Posted, waits_sent, length_removed, waits_removed}
use Rattle.rules.proofs.Kept.{handled, taken_if, deliver_is, Ranged, Kept}
use Rattle.rules.proofs.Leadership.{OneLeader}
use Rattle.rules.proofs.Leases.{basis, holds, sent, Claim, Leased, plain}
use Rattle.rules.proofs.Serving.{leased_fail, leased_return, leased_notice, leased_cleanup}
use Rattle.rules.proofs.Clients.{leased_discover, leased_request, leased_renew, leased_pass}
use Rattle.rules.proofs.Granting as Granting
use Rattle.rules.proofs.Clients as Clients

-- a message that is not for a server is for a client
pub for_client : (c : Config) (from to : ℕ) (b : Body) → T (body_in_range c from to b) → T (not (is_server c to)) → to < parties c
unfolding body_in_range is_client
for_client c from to Empty t n = absurd t
for_client c from to Discover t n = clash (is_server c to) (and_r _ _ t) n
for_client c from to (Offer a) t n = ltb→lt to (parties c) (and_r _ _ (and_l _ _ (and_r _ _ t)))
for_client c from to (Request a w) t n = clash (is_server c to) (and_l _ _ (and_r _ _ t)) n
for_client c from to (Renew a e w) t n = clash (is_server c to) (and_l _ _ (and_r _ _ t)) n
for_client c from to (Write a v) t n = clash (is_server c to) (and_l _ _ (and_r _ _ t)) n
for_client c from to (WriteAck a v) t n = clash (is_server c to) (and_l _ _ (and_r _ _ t)) n
for_client c from to (Ack a e) t n = ltb→lt to (parties c) (and_r _ _ (and_l _ _ (and_r _ _ t)))

module _ (f : Facade) (g : Ranged f) (four : length f.servers ≡ 4) (len : length f.messages ≡ 128) (one : OneLeader f) (v : Leased (basis f)) where
  -- fewer messages wait, and message m, which waited, is handled
  module _ (ms : List Message) (n : ℕ) (long : length ms ≡ 128) (less : (m : Message) → Among ms n m → Waits f m) (m : Message) (waits : Waits f m) where
    was : (o : Outbox) → n + o.count ≤ 128 → (m' : Message) → Waits (send_all (with_messages f ms n) o) m' → Or (Waits f m') (Posted o m')
    was o room m' p = go (waits_sent (with_messages f ms n) o (omega arith) m' p)
      where
        go : Or (Among ms n m') (Posted o m') → Or (Waits f m') (Posted o m')
        go (inl y) = inl (less m' y)
        go (inr y) = inr y

    leased_handled : (handled (with_messages f ms n) m).facade.waiting ≤ 128 → Leased (basis (handled (with_messages f ms n) m).facade)
    unfolding delivered enacted server_after notices_after client_after next_after message_in_range
    leased_handled = cond_case (λ (d : Deed). (enacted (with_messages f ms n) d).facade.waiting ≤ 128 → Leased (basis (enacted (with_messages f ms n) d).facade)) (is_server f.config m.receiver) _ _
        (λ t room. Granting.keeps_receive f g four one v m.receiver (ltb→lt m.receiver _ t) _ m waits (was _ room))
        (λ t room.
        let is : m.receiver ≡ client_party f.config (m.receiver - f.config.servers) = omega (arith, nltb→le m.receiver f.config.servers t) in
        let in_range_lem : m.receiver < parties f.config = for_client f.config m.sender m.receiver m.body (and_r _ _ (g.message m waits)) t in
        Clients.keeps_receive f g v (m.receiver - f.config.servers) (omega arith) _ m waits is (was _ room))

  -- a message lost
  fewer : (p : ℕ) → p < f.waiting → (m : Message) → Waits (without f p) m → Waits f m
  fewer p h = waits_removed f p h (omega (arith, g.waiting))

  leased_lose : (p : ℕ) → p < f.waiting → Leased (basis (without f p))
  leased_lose p h = plain (basis f) v f.time f.offsets f.clients (Waits (without f p)) (le_refl _) old (λ m x. v.acks m (fewer p h m x)) v.above
    where
      old : (i a e : ℕ) → Claim (basis (without f p)) i a e → Claim (basis f) i a e
      old i a e (holds q hi x) = holds q hi x
      old i a e (sent m x c) = sent m (fewer p h m x) c

  leased_deliver : (p keep : ℕ) → p < f.waiting → (handled (taken_if f p keep) (message_at f p)).facade.waiting ≤ 128 → Leased (basis (handled (taken_if f p keep) (message_at f p)).facade)
  leased_deliver p keep h =
      let here : Waits f (message_at f p) = record { at = p; below = h; is = refl } in
      cond_case (λ k. (handled k (message_at f p)).facade.waiting ≤ 128 → Leased (basis (handled k (message_at f p)).facade)) (eqb keep 0) (without f p) f
      (λ _. leased_handled _ (f.waiting - 1) (length_removed f.messages p f.waiting h (omega (arith, g.waiting)) ∙ len) (fewer p h) (message_at f p) here)
      (λ _. leased_handled f.messages f.waiting len (λ m x. x) (message_at f p) here)

  pub leased_kept : ((k : ℕ) → k < f.config.servers → length (server_at f k).leads ≡ 32) → (x : Action) → Kept f x → Leased (basis (effect f x).facade)
  unfolding effect exists deed_of takes_out position taken_out enacted server_after notices_after client_after next_after
  leased_kept leads (pass d p e) w = leased_pass f g v d p e
  leased_kept leads (fail k) w = leased_fail f g four len v k w
  leased_kept leads (return k) w = leased_return f g four len v k w
  leased_kept leads (notice k j says) w = leased_notice f g four len v k j says (leads k (ltb→lt k _ (and_l _ _ w.names))) w
  leased_kept leads (discover i) w = leased_discover f g v i len w
  leased_kept leads (request i t) w = leased_request f g v i t len w
  leased_kept leads (renew i t) w = leased_renew f g v i t len w
  leased_kept leads (deliver p keep) w = rw (deliver_is f p keep) (leased_deliver p keep (ltb→lt p _ w.names) (rw (deliver_is f p keep) at w.room))
  leased_kept leads (lose p) w = leased_lose p (ltb→lt p _ w.names)
  leased_kept leads (cleanup k) w = leased_cleanup f g four len v one k w
  leased_kept leads unknown w = v
