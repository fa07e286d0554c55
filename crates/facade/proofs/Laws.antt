-- What a step of a facade in range leaves, by what happens in it.
use mathlib.Core.Path.{◌≡◌, refl, sym, ◌∙◌}
use mathlib.Core.Bool.{true, false}
use Prim.Native.Nat.{ℕ, ◌+◌, ◌≤◌, ◌<◌}
use native.Mathlib.Omega.{arith}
use Rattle.std.specs.Prelude.{Option, Some, None}
use Rattle.std.specs.Option.{is_some}
use Rattle.types.specs.declared.Config.{Config}
use Rattle.types.specs.declared.Server.{Server}
use Rattle.types.specs.declared.State.{State}
use Rattle.types.specs.declared.Client.{Client}
use Rattle.types.specs.declared.Outbox.{Outbox}
use Rattle.types.specs.declared.Outcome.{Outcome}
use Rattle.types.specs.declared.Facade.{Facade}
use Rattle.rules.specs.Answers.{Answer}
use Rattle.types.specs.declared.Reaction.{Reaction}
use Rattle.types.specs.declared.ServerEvent.{ServerEvent}
use Rattle.types.specs.declared.ServerEvent.TheVariants.{Fails, Returns, Notices, Receives, CleansUp}
use Rattle.types.specs.declared.ClientEvent.{ClientEvent}
use Rattle.types.specs.declared.ClientEvent.TheVariants.{Discovers, Requests, Renews, Hears}
use Rattle.types.specs.declared.Deed.TheVariants.{Serves, Asks}
use Rattle.types.specs.Numbers.{outcome_number}
use Rattle.rules.specs.Conditions.{unless}
use Rattle.rules.specs.Parts.{server_at, with_server, with_notices, with_client, with_next}
use Rattle.rules.specs.Messages.{answer, send_all}
use Rattle.rules.specs.Server.{noticed, cleaned}
use Rattle.rules.specs.Steps.{server_after, notices_after, client_after, next_after, has_room, accepted, refused, served, asked, enacted}
use Rattle.rules.proofs.Counts.{few_received, few_discovers, few_requests, few_renews, few_replied}
use Rattle.cable.specs.Exchange.{rest_of, room_for, taken_from}
use Rattle.cable.proofs.Laws.{rest_high}
use Rattle.facade.specs.Full.{unless_full}

-- no party sends more than an outbox holds
pub few_served : (c : Config) → c.servers ≤ 4 → (t k r : ℕ) → k < c.servers → (s : Server) (e : ServerEvent) → (server_after c t k r s e).outbox.count ≤ 4
unfolding server_after noticed cleaned
few_served c few t k r low s Fails = omega arith
few_served c few t k r low s Returns = omega arith
few_served c few t k r low s (Notices j says) = omega arith
few_served c few t k r low s (Receives m) = few_received c k few low r s m
few_served c few t k r low s CleansUp = omega arith

pub few_asked : (c : Config) → c.servers ≤ 4 → (n i r : ℕ) (x : State) (e : ClientEvent) → (client_after c n i r x e).outbox.count ≤ 4
unfolding client_after
few_asked c few n i r x Discovers = few_discovers c i few x n
few_asked c few n i r x (Requests t) = few_requests c i few x t
few_asked c few n i r x (Renews t) = few_renews c i few x t n
few_asked c few n i r x (Hears m) = few_replied r x m

-- What a party is told, where the message at a position is taken out first, if one is named.
module _ (f : Facade) where
  pub serves_is : (taken : Option ℕ) (k : ℕ) (e : ServerEvent) {s : Server} {n : Outcome} {o : Outbox} → answer s n o ≡ served f k (server_at f k) e
      → enacted (taken_from f taken) (Serves k e)
      ≡ accepted (send_all (taken_from (with_server (with_notices f (notices_after f.notices f.time k e)) k s) taken) o) (outcome_number n)
  unfolding enacted taken_from
  serves_is None k e h = rw (sym h)
  serves_is (Some p) k e h = rw (sym h)

  pub asks_is : (taken : Option ℕ) (i : ℕ) (e : ClientEvent) {x : Reaction Client} → x ≡ asked f i e
      → enacted (taken_from f taken) (Asks i e)
      ≡ accepted (send_all (taken_from (with_client (with_next f (next_after f.next e)) i x.after) taken) x.outbox) (outcome_number x.outcome)
  unfolding enacted taken_from
  asks_is None i e h = rw h
  asks_is (Some p) i e h = rw h

-- how many wait then
rest_is : (g : Facade) (taken : Option ℕ) → (taken_from g taken).waiting ≡ rest_of g.waiting (is_some taken)
unfolding taken_from
rest_is g None = refl
rest_is g (Some p) = refl

pub taken_high : (g : Facade) (taken : Option ℕ) → g.waiting ≤ 128 → (taken_from g taken).waiting ≤ 128
taken_high g taken h = rw (rest_is g taken) (omega (arith, rest_high g.waiting (is_some taken), h))

-- Refusal 13: the answer a leaves a facade in which what o holds waits behind the rest, and as many messages wait in g as in f.
module _ (f g : Facade) (taken : Option ℕ) (o : Outbox) (n : ℕ) {a : Answer} (is : a ≡ accepted (send_all (taken_from g taken) o) n) (same : g.waiting ≡ f.waiting) where
  room_is : has_room ((taken_from g taken).waiting + o.count) ≡ room_for f.waiting (is_some taken) o.count
  room_is = rw (rest_is g taken, same)

  pub has_room_left : room_for f.waiting (is_some taken) o.count ≡ true → accepted (send_all (taken_from g taken) o) n ≡ unless_full f a
  unfolding unless_full unless
  has_room_left h = rw (is, room_is ∙ h)

  pub is_full : room_for f.waiting (is_some taken) o.count ≡ false → refused f 13 ≡ unless_full f a
  unfolding unless_full unless
  is_full h = rw (is, room_is ∙ h)
