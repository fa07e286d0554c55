-- What a client does, and the passing of time, keep every promise covered: a client's hold is a promise that was in a message.
use mathlib.Core.Path.{◌≡◌, refl}
use mathlib.Core.Bool.{Bool, true, false, not, cond}
use mathlib.Core.List.{List}
use Prim.Native.Nat.{ℕ, ◌+◌, ◌≤◌, ◌<◌, max}
use native.Mathlib.Nat.{le_refl}
use native.Mathlib.Omega.{arith}
use native.Mathlib.Decide.{dec_lt}
use lib.Dec.{T, ltb, ltb→lt, eqb→eq}
use lib.ListN.{length, get_or, set, get_or-eq_default}
use lib.IntN.{ℤ, ◌+ℤ◌}
use Rattle.types.specs.declared.State.{State}
use Rattle.types.specs.declared.State.TheVariants.{Idle, Asking, Offered, Waiting, Holding}
use Rattle.types.specs.declared.Client.{Client}
use Rattle.types.specs.declared.Body.{Body}
use Rattle.types.specs.declared.Body.TheVariants.{Empty, Discover, Offer, Request, Renew, Write, WriteAck, Ack}
use Rattle.types.specs.declared.Message.{Message}
use Rattle.types.specs.declared.Facade.{Facade}
use Rattle.types.specs.declared.Outcome.{Outcome}
use Rattle.types.specs.declared.Outcome.TheVariants.{Done, Unmet}
use Rattle.types.specs.declared.Reaction.{Reaction}
use Rattle.rules.specs.Conditions.{filled}
use Rattle.rules.specs.Parts.{no_client, in_state, state_at, offset_at, clock, client_party, message, with_next}
use Rattle.rules.specs.Messages.{nothing}
use Rattle.rules.specs.Client.{is_offered, is_holding, reply, broadcast, lapsed, discovers, requests, renews, asks_with, on_offer, expects, kept_end, takes_ack, on_ack, client_handles, client_receives}
use Rattle.rules.specs.Steps.{pass, discover, request, renew, state_allows, exists, client_acts, moved, lapse, deed_of, takes_out, taken_out, enacted, client_after, next_after, effect, holds_ended, lapsed_at}
use Rattle.rules.proofs.Laws.{Or, inl, inr, and_l, and_r, cond_case, set_any, length_filled, filled_at}
use Rattle.rules.proofs.Cable.{Waits, Posted, ToServer, waits_sent, posted_nothing, posted_each}
use Rattle.rules.proofs.Kept.{Configured, configured, Ranged, Kept}
use Rattle.rules.proofs.Leases.{basis, Says, Promises, Claim, holds, sent, BodyOk, Leased, passed_by, plain}

no_holder : {X : Type 0} (a e q : ℕ) → Idle ≡ Holding a e q → X
no_holder a e q p = let z : ◌≡◌ {A = ℕ} 0 1 = cc in absurd (omega arith)

-- a state that does not hold
unheld : (x : State) (a e q : ℕ) → T (not (is_holding x)) → x ≡ Holding a e q → ⊥
unfolding is_holding
unheld x a e q t p = rw p at t

module _ (f : Facade) (g : Ranged f) (v : Leased (basis f)) where
  ok : Configured f.config
  ok = configured f.config g.config

  -- Client i comes to state x; what it holds then was promised to it, and is above its clock.

  abbrev Becomes : ℕ → State → Type 0
  Becomes i x = (a e q : ℕ) → x ≡ Holding a e q → Claim (basis f) i a e × (clock f (client_party f.config i) < e)

  becomes_unheld : (i : ℕ) (x : State) → T (not (is_holding x)) → Becomes i x
  becomes_unheld i x t a e q p = absurd (unheld x a e q t p)

  stays : (i : ℕ) → i < f.config.clients → Becomes i (state_at f i)
  stays i hi a e q p = (holds q hi p, v.above i a e q hi p)

  module _ (i : ℕ) (x : State) (out : Message → Type 0) (new : Becomes i x)
      (mok : (m : Message) → out m → BodyOk (basis f) m.sender m.body)
      (sub : (m : Message) → out m → (i' a e : ℕ) → Promises f.config m i' a e → Claim (basis f) i' a e) where
    old_claim : (i' a e : ℕ) → Claim (passed_by (basis f) f.time f.offsets (set f.clients i (in_state x)) out) i' a e → Claim (basis f) i' a e
    old_claim i' a e (holds q h p) =
        set_any (λ y. y.state ≡ Holding a e q → Claim (basis f) i' a e) f.clients i (in_state x) no_client i' (λ is y. rw is (new a e q y).0) (λ y. holds q h y) p
    old_claim i' a e (sent m p c) = sub m p i' a e c

    client_leased : Leased (passed_by (basis f) f.time f.offsets (set f.clients i (in_state x)) out)
    client_leased = plain (basis f) v f.time f.offsets (set f.clients i (in_state x)) out (le_refl _) old_claim mok
        (λ i' a e q h. set_any (λ y. y.state ≡ Holding a e q → clock f (client_party f.config i') < e) f.clients i (in_state x) no_client i'
        (λ is y. rw is (new a e q y).1) (v.above i' a e q h))

  -- Steps of a client: a broadcast of body b, which promises nothing that was not promised.

  module _ (i : ℕ) (x : State) (n q : ℕ) (b : Body) (new : Becomes i x) (bok : (from : ℕ) → BodyOk (basis f) from b)
      (says : (to i' a e : ℕ) → Says f.config (client_party f.config i) to b i' a e → Claim (basis f) i' a e)
      (len : length f.messages ≡ 128) where
    after : Facade
    after = (client_acts (with_next f n) i (reply x Done (broadcast f.config i q b))).facade

    module _ (room : after.waiting ≤ 128) where
      from_where : (m : Message) → Waits after m → Or (Waits f m) (ToServer (λ j. message (client_party f.config i) j q b) f.config.servers m)
      unfolding after
      from_where m y = go (waits_sent f (broadcast f.config i q b) (omega arith) m y)
        where
          go : Or (Waits f m) (Posted (broadcast f.config i q b) m) → Or (Waits f m) (ToServer (λ j. message (client_party f.config i) j q b) f.config.servers m)
          go (inl z) = inl z
          go (inr z) = inr (posted_each _ f.config.servers ok.servers_high m z)

      body_ok : (m : Message) → Or (Waits f m) (ToServer (λ j. message (client_party f.config i) j q b) f.config.servers m) → BodyOk (basis f) m.sender m.body
      body_ok m (inl y) = v.acks m y
      body_ok m (inr y) = rw (← y.is) (bok _)

      old : (m : Message) (i' a e : ℕ) → Promises f.config m i' a e
          → Or (Waits f m) (ToServer (λ j. message (client_party f.config i) j q b) f.config.servers m) → Claim (basis f) i' a e
      old m i' a e c (inl y) = sent m y c
      old m i' a e c (inr y) = says y.to i' a e (rw (← y.is) at c)

      broadcast_leased : Leased (basis after)
      unfolding after
      broadcast_leased = client_leased i x (Waits after) new (λ m y. body_ok m (from_where m y)) (λ m y i' a e c. old m i' a e c (from_where m y))

  -- a client that does not hold discovers
  discover_go : (i : ℕ) → length f.messages ≡ 128 → (b : Bool) → T (not b)
      → (client_acts (with_next f (f.next + 1)) i (cond b (reply (state_at f i) Unmet nothing) (reply (Asking f.next) Done (broadcast f.config i f.next Discover)))).facade.waiting ≤ 128
      → Leased (basis (client_acts (with_next f (f.next + 1)) i (cond b (reply (state_at f i) Unmet nothing) (reply (Asking f.next) Done (broadcast f.config i f.next Discover)))).facade)
  unfolding after is_holding
  discover_go i len true n room = absurd n
  discover_go i len false n room =
      broadcast_leased i (Asking f.next) (f.next + 1) f.next Discover (becomes_unheld i (Asking f.next) tt) (λ from. tt) (λ to i' a e c. absurd c) len room

  pub leased_discover : (i : ℕ) → length f.messages ≡ 128 → Kept f (discover i) → Leased (basis (effect f (discover i)).facade)
  unfolding effect deed_of takes_out taken_out enacted client_after next_after discovers state_allows
  leased_discover i len w = discover_go i len (is_holding (state_at f i)) w.state w.room

  -- only an offered client requests
  request_go : (i t : ℕ) → length f.messages ≡ 128 → (x : State) → T (is_offered x)
      → (client_acts f i (requests f.config i x t)).facade.waiting ≤ 128 → Leased (basis (client_acts f i (requests f.config i x t)).facade)
  unfolding requests is_offered is_holding after
  request_go i t len Idle o room = absurd o
  request_go i t len (Asking q) o room = absurd o
  request_go i t len (Offered q a) o room =
      broadcast_leased i (Waiting q a) f.next q (Request a t) (becomes_unheld i (Waiting q a) tt) (λ from. tt) (λ to i' a e c. absurd c) len room
  request_go i t len (Waiting q a) o room = absurd o
  request_go i t len (Holding a e q) o room = absurd o

  pub leased_request : (i t : ℕ) → length f.messages ≡ 128 → Kept f (request i t) → Leased (basis (effect f (request i t)).facade)
  unfolding effect deed_of takes_out taken_out enacted client_after next_after state_allows
  leased_request i t len w = request_go i t len (state_at f i) w.state w.room

  -- only a holding client renews, and its messages quote the end that it holds
  renew_go : (i t : ℕ) → i < f.config.clients → length f.messages ≡ 128 → (x : State) → state_at f i ≡ x → T (is_holding x)
      → (client_acts (with_next f (f.next + 1)) i (renews f.config i x t f.next)).facade.waiting ≤ 128
      → Leased (basis (client_acts (with_next f (f.next + 1)) i (renews f.config i x t f.next)).facade)
  unfolding renews is_holding after
  renew_go i t hi len Idle is h room = absurd h
  renew_go i t hi len (Asking q) is h room = absurd h
  renew_go i t hi len (Offered q a) is h room = absurd h
  renew_go i t hi len (Waiting q a) is h room = absurd h
  renew_go i t hi len (Holding a e q) is h room =
      broadcast_leased i (Holding a e f.next) (f.next + 1) f.next (Renew a e t) new (λ from. tt) says len room
    where
      new : Becomes i (Holding a e f.next)
      new a' e' q' y = let p : a ≡ a' = cc in let p' : e ≡ e' = cc in stays i hi a' e' q (rw (← p, ← p') is)

      says : (to i' a' e' : ℕ) → (client_party f.config i ≡ client_party f.config i') × (a ≡ a') × (e ≡ e') → Claim (basis f) i' a' e'
      says to i' a' e' c = let j : i ≡ i' = omega (arith, c.0) in rw (← j, ← c.1, ← c.2) (holds q hi is)

  pub leased_renew : (i t : ℕ) → length f.messages ≡ 128 → Kept f (renew i t) → Leased (basis (effect f (renew i t)).facade)
  unfolding effect deed_of takes_out taken_out enacted client_after next_after state_allows exists
  leased_renew i t len w = renew_go i t (ltb→lt i _ w.names) len (state_at f i) refl w.state w.room

  -- Pass: a hold that is left is as it was, and above the clock.

  lapsed_go : (r : ℕ) (b : Bool) (a' e' q' a e q : ℕ) → (T b → r < e') → cond b (Holding a' e' q') Idle ≡ Holding a e q → (Holding a' e' q' ≡ Holding a e q) × (r < e)
  lapsed_go r true a' e' q' a e q h p = let is : e' ≡ e = cc in (p, rw (← is) (h tt))
  lapsed_go r false a' e' q' a e q h p = no_holder a e q p

  lapsed_held : (r : ℕ) (x : State) (a e q : ℕ) → lapsed r x ≡ Holding a e q → (x ≡ Holding a e q) × (r < e)
  unfolding lapsed
  lapsed_held r Idle a e q p = no_holder a e q p
  lapsed_held r (Asking q') a e q p = let z : ◌≡◌ {A = ℕ} 0 1 = cc in absurd (omega arith)
  lapsed_held r (Offered q' a') a e q p = let z : ◌≡◌ {A = ℕ} 0 1 = cc in absurd (omega arith)
  lapsed_held r (Waiting q' a') a e q p = let z : ◌≡◌ {A = ℕ} 0 1 = cc in absurd (omega arith)
  lapsed_held r (Holding a' e' q') a e q p = lapsed_go r (ltb r e') a' e' q' a e q (ltb→lt r e') p

  module _ (d p : ℕ) (z : ℤ) where
    later : Facade
    later = moved f d p z

    state_left : ℕ → Client
    state_left i = in_state (lapsed (clock later (client_party f.config i)) (state_at f i))

    left : (i a e q : ℕ) → i < f.config.clients → (get_or (filled state_left f.config.clients f.clients) i no_client).state ≡ Holding a e q
        → (state_at f i ≡ Holding a e q) × (clock later (client_party f.config i) < e)
    unfolding state_left
    left i a e q hi y = go (dec_lt i (length f.clients))
      where
        go : Dec (i < length f.clients) → (state_at f i ≡ Holding a e q) × (clock later (client_party f.config i) < e)
        go (yes h) = lapsed_held _ (state_at f i) a e q (rw (filled_at state_left f.config.clients f.clients no_client i hi h) at y)
        go (no nh) =
            let short : length (filled state_left f.config.clients f.clients) ≤ i = omega (arith, length_filled state_left f.config.clients f.clients) in
            no_holder a e q (rw (get_or-eq_default (filled state_left f.config.clients f.clients) no_client short) at y)

    old_promise : (out : Message → Type 0) (xs : List Client)
        → ((i a e q : ℕ) → i < f.config.clients → (get_or xs i no_client).state ≡ Holding a e q → state_at f i ≡ Holding a e q)
        → ((m : Message) → out m → Waits f m)
        → (i a e : ℕ) → Claim (passed_by (basis f) (f.time + d) (set f.offsets p (offset_at f p +ℤ z)) xs out) i a e → Claim (basis f) i a e
    old_promise out xs was sub i a e (holds q h y) = holds q h (was i a e q h y)
    old_promise out xs was sub i a e (sent m y c) = sent m (sub m y) c

    pub leased_pass : Leased (basis (effect f (pass d p z)).facade)
    unfolding effect deed_of takes_out taken_out enacted lapse lapsed_at holds_ended later state_left
    leased_pass = plain (basis f) v (f.time + d) (set f.offsets p (offset_at f p +ℤ z)) (filled state_left f.config.clients f.clients) (Waits f) (omega arith)
        (old_promise (Waits f) (filled state_left f.config.clients f.clients) (λ i a e q h y. (left i a e q h y).0) (λ m y. y))
        v.acks
        (λ i a e q h y. (left i a e q h y).1)

  -- Messages to client i, which sends nothing then.

  module _ (i : ℕ) (hi : i < f.config.clients) (out : Message → Type 0) where
    abbrev pub Keeps : Reaction Client → Type 0
    Keeps x = ((m : Message) → out m → Or (Waits f m) (Posted x.outbox m)) → Leased (passed_by (basis f) f.time f.offsets (set f.clients i x.after) out)

    waited : (m : Message) → Or (Waits f m) (Posted nothing m) → Waits f m
    waited m (inl y) = y
    waited m (inr y) = posted_nothing m y

    comes_to : (x : State) (n : Outcome) → Becomes i x → Keeps (reply x n nothing)
    comes_to x n new sub = client_leased i x out new (λ m y. v.acks m (waited m (sub m y))) (λ m y i' a e c. sent m (waited m (sub m y)) c)

    unmoved : Keeps (reply (state_at f i) Unmet nothing)
    unmoved = comes_to (state_at f i) Unmet (stays i hi)

    keeps_offer : (q a : ℕ) → Keeps (on_offer (state_at f i) q a)
    unfolding on_offer is_holding
    keeps_offer q a =
        cond_case Keeps (asks_with (state_at f i) q) (reply (Offered q a) Done nothing) _ (λ _. comes_to (Offered q a) Done (becomes_unheld i (Offered q a) tt)) (λ _. unmoved)

    -- the later of two ends that were promised was promised
    later_claim : (a e e' : ℕ) → Claim (basis f) i a e → Claim (basis f) i a e' → Dec (e' < e) → Claim (basis f) i a (max e' e)
    later_claim a e e' c c' (yes h) = let is : max e' e ≡ e = omega arith in rw is c
    later_claim a e e' c c' (no nh) = let is : max e' e ≡ e' = omega arith in rw is c'

    -- the kept end was promised
    kept_claim : (x : State) (q a e : ℕ) → state_at f i ≡ x → T (expects x q a) → Claim (basis f) i a e → Claim (basis f) i a (kept_end x e)
    unfolding expects kept_end
    kept_claim Idle q a e is t c = absurd t
    kept_claim (Asking q') q a e is t c = absurd t
    kept_claim (Offered q' a') q a e is t c = absurd t
    kept_claim (Waiting q' a') q a e is t c = c
    kept_claim (Holding a' e' q') q a e is t c =
        let same : a' ≡ a = eqb→eq a' a (and_r _ _ t) in
        later_claim a e e' c (rw (← same) (holds q' hi is)) (dec_lt e' e)

    -- and it is above the clock, as that of the ack is
    kept_high : (x : State) {r e : ℕ} → r < e → r < kept_end x e
    unfolding kept_end
    kept_high Idle h = h
    kept_high (Asking q') h = h
    kept_high (Offered q' a') h = h
    kept_high (Waiting q' a') h = h
    kept_high (Holding a' e' q') h = omega (arith, h)

    keeps_ack : (q a e : ℕ) → Claim (basis f) i a e → Keeps (on_ack (clock f (client_party f.config i)) (state_at f i) q a e)
    unfolding on_ack
    keeps_ack q a e c =
        cond_case Keeps (takes_ack (clock f (client_party f.config i)) (state_at f i) q a e) (reply (Holding a (kept_end (state_at f i) e) q) Done nothing) _
        (λ t. comes_to (Holding a (kept_end (state_at f i) e) q) Done (λ a' e' q' y. let p : a ≡ a' = cc in let p' : kept_end (state_at f i) e ≡ e' = cc in (
          rw (← p, ← p') (kept_claim (state_at f i) q a e refl (and_l _ _ t) c),
          rw (← p') (kept_high (state_at f i) (ltb→lt (clock f (client_party f.config i)) e (and_r (expects (state_at f i) q a) _ t))),
        )))
        (λ _. unmoved)

    keeps_body : (from to q : ℕ) (b : Body) → to ≡ client_party f.config i → ((i' a e : ℕ) → Says f.config from to b i' a e → Claim (basis f) i' a e)
        → Keeps (client_handles (clock f (client_party f.config i)) (state_at f i) q b)
    unfolding client_handles
    keeps_body from to q Empty is cl = unmoved
    keeps_body from to q Discover is cl = unmoved
    keeps_body from to q (Offer a) is cl = keeps_offer q a
    keeps_body from to q (Request a t) is cl = unmoved
    keeps_body from to q (Renew a e t) is cl = unmoved
    keeps_body from to q (Write a e) is cl = unmoved
    keeps_body from to q (WriteAck a e) is cl = unmoved
    keeps_body from to q (Ack a e) is cl = keeps_ack q a e (cl i a e (is, refl, refl))

    pub keeps_receive : (m : Message) → Waits f m → m.receiver ≡ client_party f.config i → Keeps (client_receives (clock f (client_party f.config i)) (state_at f i) m)
    keeps_receive m y is = keeps_body m.sender m.receiver m.interaction m.body is (λ i' a e c. sent m y c)
