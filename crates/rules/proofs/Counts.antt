-- Nobody sends more than four messages at once, as many as an outbox holds.
use mathlib.Core.Bool.{false}
use Prim.Native.Nat.{ℕ, ◌≤◌, ◌<◌}
use native.Mathlib.Omega.{arith}
use lib.Dec.{leb}
use Rattle.types.specs.declared.Config.{Config}
use Rattle.types.specs.declared.Server.{Server}
use Rattle.types.specs.declared.Binding.{Binding}
use Rattle.types.specs.declared.State.{State}
use Rattle.types.specs.declared.State.TheVariants.{Idle, Asking, Offered, Waiting, Holding}
use Rattle.types.specs.declared.Body.{Body}
use Rattle.types.specs.declared.Body.TheVariants.{Empty, Discover, Offer, Request, Renew, Write, WriteAck, Ack}
use Rattle.types.specs.declared.Message.{Message}
use Rattle.types.specs.declared.Reaction.{Reaction}
use Rattle.rules.specs.Conditions.{◌and◌}
use Rattle.rules.specs.Parts.{message, client_party}
use Rattle.rules.specs.Messages.{nothing, post}
use Rattle.rules.specs.Server.{written_end, ack_end, offerable, offered, on_discover, granted, grantable, on_request, on_renew, on_write, matches_write, on_write_ack, handled_at, server_handles, server_receives}
use Rattle.rules.specs.Client.{is_holding, broadcast, discovers, requests, renews, asks_with, on_offer, takes_ack, on_ack, client_handles, client_receives}
use Rattle.rules.proofs.Laws.{cond_case}
use Rattle.rules.proofs.Cable.{servers_count, others_count}

abbrev Few : {T : Type 0} → Reaction T → Type 0
Few x = x.outbox.count ≤ 4

module _ (c : Config) (k : ℕ) (few : c.servers ≤ 4) (hk : k < c.servers) where
  few_granted : (b : Binding) (p q a t l : ℕ) → Few (granted c k b p q a t l)
  unfolding granted
  few_granted b p q a t l =
      omega (arith, others_count k (λ j. message k j q (Write a (written_end t l))) (post nothing (message k p q (Ack a (ack_end t l)))) c.servers hk)

  few_at : (r : ℕ) (b : Binding) (p q a : ℕ) (x : Body) → Few (handled_at c k r b p q a x)
  unfolding handled_at on_discover offered on_request on_renew on_write on_write_ack
  few_at r b p q a Empty = omega arith
  few_at r b p q a Discover = cond_case Few (offerable c r b) _ _ (λ _. omega arith) (λ _. omega arith)
  few_at r b p q a (Offer _) = omega arith
  few_at r b p q a (Request _ t) = cond_case Few (grantable c r b) _ _ (λ _. few_granted _ p q a t _) (λ _. omega arith)
  few_at r b p q a (Renew _ e t) = cond_case Few (b.leads and leb r e) _ _ (λ _. few_granted _ p q a t _) (λ _. omega arith)
  few_at r b p q a (Write _ v) = omega arith
  few_at r b p q a (WriteAck _ v) = cond_case Few (b.leads and matches_write q v b.write.pending) _ _ (λ _. omega arith) (λ _. omega arith)
  few_at r b p q a (Ack _ e) = omega arith

  pub few_received : (r : ℕ) (s : Server) (m : Message) → (server_receives c k r s m).outbox.count ≤ 4
  unfolding server_receives server_handles
  few_received r s m = cond_case Few s.alive _ _ (λ _. few_at r _ m.sender m.interaction _ m.body) (λ _. omega arith)

module _ (c : Config) (i : ℕ) (few : c.servers ≤ 4) where
  few_broadcast : (q : ℕ) (b : Body) → (broadcast c i q b).count ≤ 4
  few_broadcast q b = omega (arith, servers_count (λ j. false) (λ j. message (client_party c i) j q b) nothing c.servers)

  pub few_discovers : (x : State) (q : ℕ) → (discovers c i x q).outbox.count ≤ 4
  unfolding discovers
  few_discovers x q = cond_case Few (is_holding x) _ _ (λ _. omega arith) (λ _. few_broadcast q Discover)

  pub few_requests : (x : State) (t : ℕ) → (requests c i x t).outbox.count ≤ 4
  unfolding requests
  few_requests Idle t = omega arith
  few_requests (Asking q) t = omega arith
  few_requests (Offered q a) t = few_broadcast q (Request a t)
  few_requests (Waiting q a) t = omega arith
  few_requests (Holding a e q) t = omega arith

  pub few_renews : (x : State) (t n : ℕ) → (renews c i x t n).outbox.count ≤ 4
  unfolding renews
  few_renews Idle t n = omega arith
  few_renews (Asking q) t n = omega arith
  few_renews (Offered q a) t n = omega arith
  few_renews (Waiting q a) t n = omega arith
  few_renews (Holding a e q) t n = few_broadcast n (Renew a e t)

pub few_replied : (r : ℕ) (x : State) (m : Message) → (client_receives r x m).outbox.count ≤ 4
unfolding client_handles on_offer on_ack
few_replied r x m = go m.body
  where
    go : (b : Body) → Few (client_handles r x m.interaction b)
    go Empty = omega arith
    go Discover = omega arith
    go (Offer a) = cond_case Few (asks_with x m.interaction) _ _ (λ _. omega arith) (λ _. omega arith)
    go (Request a t) = omega arith
    go (Renew a e t) = omega arith
    go (Write a v) = omega arith
    go (WriteAck a v) = omega arith
    go (Ack a e) = cond_case Few (takes_ack r x m.interaction a e) _ _ (λ _. omega arith) (λ _. omega arith)
