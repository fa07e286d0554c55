-- What a server does with a message keeps every promise covered.
use mathlib.Core.Path.{◌≡◌, refl, ap, ◌∙◌}
use mathlib.Core.Logic.{◌≢◌}
use mathlib.Core.Bool.{Bool, true, false}
use mathlib.Core.List.{List}
use Prim.Native.Nat.{ℕ, ◌+◌, ◌-◌, ◌≤◌, ◌<◌, max, min}
use native.Mathlib.Nat.{le_refl}
use native.Mathlib.Omega.{arith}
use lib.Dec.{T, leb, leb→le, ltb→lt, eqb→eq}
use lib.ListN.{length, get_or, set, replicate, length-set}
use lib.Seq.{get_or-set_same, set-get_or}
use Rattle.std.specs.Prelude.{Option, Some, None}
use Rattle.types.specs.declared.Reservation.{Reservation}
use Rattle.types.specs.declared.Pending.{Pending}
use Rattle.types.specs.declared.OpenWrite.{OpenWrite}
use Rattle.types.specs.declared.Server.{Server}
use Rattle.types.specs.declared.Binding.{Binding}
use Rattle.types.specs.declared.Body.{Body}
use Rattle.types.specs.declared.Body.TheVariants.{Empty, Discover, Offer, Request, Renew, Write, WriteAck, Ack}
use Rattle.types.specs.declared.Message.{Message}
use Rattle.types.specs.declared.Facade.{Facade}
use Rattle.types.specs.declared.Outbox.{Outbox}
use Rattle.types.specs.declared.Outcome.{Outcome}
use Rattle.types.specs.declared.Outcome.TheVariants.{Done, Unmet, Dead}
use Rattle.types.specs.declared.Reaction.{Reaction}
use Rattle.rules.specs.Conditions.{◌and◌, all}
use Rattle.rules.specs.Parts.{taken, no_server, no_write, server_at, clock, client_party, message, leads_at, lent_at, potlease_at, write_at, binding_at, with_reserved, with_binding, with_reservation, with_lease}
use Rattle.rules.specs.Ranges.{is_client, body_in_range, message_in_range}
use Rattle.rules.specs.Messages.{answer, nothing}
use Rattle.rules.specs.Server.{at_address, closed, opened, reservations_by, expiry_slack, has_passed, offerable, offered, on_discover, address_for, handled_at, is_request, written_end, ack_end, granted, freed_if_of, dropped, grantable, on_request, on_renew, on_write, matches_write, acknowledged, on_write_ack, server_handles, server_receives}
use Rattle.rules.proofs.Laws.{Or, inl, inr, and_l, and_r, cond_case, all_at, set_case, set_any, rep_ind}
use Rattle.rules.proofs.Cable.{Waits, Posted, ToServer, posted_nothing, posted_one, posted_others}
use Rattle.rules.proofs.Kept.{address_low, Configured, configured, Ranged}
use Rattle.rules.proofs.Leadership.{OneLeader, clock_low, clock_high}
use Rattle.rules.proofs.Leases.{Basis, basis, srv, Cov, Says, Promises, Claim, holds, sent, CountOk, OpenOk, BodyOk, Leased, Grows, cov_grows, count_grows, body_grows, served_by, Raised, served_grows, served, quiet, still}

-- server k of f answers, and the messages out afterwards are those that waited and those that it posts
module _ (f : Facade) (g : Ranged f) (four : length f.servers ≡ 4) (one : OneLeader f) (v : Leased (basis f))
    (k : ℕ) (hk : k < f.config.servers) (out : Message → Type 0) where
  ok : Configured f.config
  ok = configured f.config g.config

  place : k < length f.servers
  place = omega (arith, ok.servers_high)

  low : f.time ≤ clock f k + f.config.skew
  low = clock_low f g k (omega arith)

  high : clock f k ≤ f.time + f.config.skew
  high = clock_high f g k (omega arith)

  -- what is to be shown of an answer
  abbrev pub Keeps : Reaction Server → Type 0
  Keeps x = ((m : Message) → out m → Or (Waits f m) (Posted x.outbox m)) → Leased (served_by (basis f) k x.after out)

  -- Answers that lend nothing: lent ends, records and open writes as they were, and no message that matters.

  by : {X : Type 0} (o : Outbox) (m : Message) → Or (Waits f m) (Posted o m) → (Waits f m → X) → (Posted o m → X) → X
  by o m (inl p) old new = old p
  by o m (inr p) old new = new p

  same : (rs : List (Option Reservation)) → Raised (basis f) k (with_reserved (server_at f k) rs)
  same rs = record { place = place; row = v.rows k hk; up = λ a. le_refl _; lead = λ a e ha al le c. c.led k hk al le }

  pub silent : (rs : List (Option Reservation)) (n : Outcome) → Keeps (answer (with_reserved (server_at f k) rs) n nothing)
  silent rs n sub = still (basis f) v k (with_reserved (server_at f k) rs) out (same rs) hk (λ a. refl) (λ a. refl)
      (λ m p. by nothing m (sub m p) (v.acks m) (λ x. posted_nothing m x))
      (λ m p i a e c. by nothing m (sub m p) (λ x. sent m x c) (λ x. posted_nothing m x))

  -- What is kept for address a replaced by b, which leads as before and records no less.

  module _ (a : ℕ) (ha : a < f.config.addresses) (rs : List (Option Reservation)) (b : Binding) (leads : b.leads ≡ leads_at (server_at f k) a)
      (more : potlease_at (server_at f k) a ≤ b.potlease) where
    lender : Server
    lender = with_binding (with_reserved (server_at f k) rs) a b

    lender_leads : lender.leads ≡ (server_at f k).leads
    unfolding lender
    lender_leads = rw (leads, set-get_or (server_at f k).leads a false)

    lender_led : (a' : ℕ) → T (leads_at lender a') → T (leads_at (server_at f k) a')
    lender_led a' t = rw lender_leads at t

    lender_up : (a' : ℕ) → potlease_at (server_at f k) a' ≤ potlease_at lender a'
    unfolding lender
    lender_up a' = set_any (λ x. potlease_at (server_at f k) a' ≤ x) (server_at f k).potlease a b.potlease 0 a' (λ q. rw q more) (le_refl _)

    lender_raised : Raised (basis f) k lender
    unfolding lender
    lender_raised = record {
      place = place;
      row = length-set (server_at f k).potlease a b.potlease ∙ v.rows k hk;
      up = lender_up;
      lead = λ a' e ha' al le c. omega (arith, c.led k hk al (lender_led a' le), lender_up a');
    }

    lender_grows : Grows (basis f) (served_by (basis f) k lender out)
    lender_grows = served_grows (basis f) v k lender out lender_raised

    lender_record : potlease_at (get_or (set f.servers k lender) k no_server) a ≡ b.potlease
    unfolding lender
    lender_record =
        rw (get_or-set_same f.servers k lender no_server place) (get_or-set_same (server_at f k).potlease a b.potlease 0 (omega (arith, v.rows k hk, ok.addresses_high)))

    lender_lent : Cov (served_by (basis f) k lender out) a b.lent → (a' : ℕ) → a' < f.config.addresses → Cov (served_by (basis f) k lender out) a' (lent_at lender a')
    unfolding lender
    lender_lent c a' ha' =
        set_any (λ x. Cov (served_by (basis f) k lender out) a' x) (server_at f k).lent a b.lent 0 a' (λ q. rw q c)
        (cov_grows (basis f) _ lender_grows a' _ ha' (v.lents k a' hk ha'))

    lender_open : OpenOk (served_by (basis f) k lender out) a b.write → (a' : ℕ) → a' < f.config.addresses → OpenOk (served_by (basis f) k lender out) a' (write_at lender a')
    unfolding lender
    lender_open c a' ha' =
        set_any (λ x. OpenOk (served_by (basis f) k lender out) a' x) (server_at f k).writes a b.write no_write a' (λ q. rw q c)
        (count_grows (basis f) _ lender_grows a' _ (write_at (server_at f k) a').pending (v.opens k a' hk ha'))

    -- nothing is promised: the lent end is covered, the open write counts right, and what is sent promises nothing
    unpromised : (n : Outcome) (o : Outbox) → Cov (basis f) a b.lent → OpenOk (basis f) a b.write
        → ((m : Message) → Posted o m → BodyOk (served_by (basis f) k lender out) m.sender m.body × ((i a e : ℕ) → Promises f.config m i a e → ⊥))
        → Keeps (answer lender n o)
    unpromised n o cov opn new sub = quiet (basis f) v k lender out lender_raised
        (lender_lent (cov_grows (basis f) _ lender_grows a b.lent ha cov))
        (lender_open (count_grows (basis f) _ lender_grows a b.write.acked b.write.pending opn))
        (λ m x. by o m (sub m x) (λ y. body_grows (basis f) _ lender_grows m.sender m.body (v.acks m y)) (λ y. (new m y).0))
        (λ m x i a' e c. by o m (sub m x) (λ y. sent m y c) (λ y. absurd ((new m y).1 i a' e c)))

  unchanged : (a : ℕ) → a < f.config.addresses → (rs : List (Option Reservation)) (n : Outcome)
      → Keeps (at_address (with_reserved (server_at f k) rs) a (answer (binding_at (with_reserved (server_at f k) rs) a) n nothing))
  unfolding lender
  unchanged a ha rs n = unpromised a ha rs (binding_at (with_reserved (server_at f k) rs) a) refl (le_refl _) n nothing (v.lents k a hk ha) (v.opens k a hk ha) (λ m y. posted_nothing m y)

  -- Discover: the address is reserved, and an offer promises nothing.

  pub keeps_discover : (p q a : ℕ) → a < f.config.addresses → Keeps (at_address (server_at f k) a (on_discover f.config k (clock f k) (binding_at (server_at f k) a) p q a))
  unfolding on_discover offered lender
  keeps_discover p q a ha =
      cond_case (λ x. Keeps (at_address (server_at f k) a x)) (offerable f.config (clock f k) (binding_at (server_at f k) a)) _ _
      (λ _. unpromised a ha (server_at f k).reserved (with_reservation (binding_at (server_at f k) a) (taken q (clock f k))) refl (le_refl _) Done _ (v.lents k a hk ha) (v.opens k a hk ha)
      (λ m x. rw (← posted_one (message k p q (Offer a)) m x) (tt, λ i a e c. c)))
      (λ _. unchanged a ha (server_at f k).reserved Unmet)

  -- A grant to party p: k leads a, the lent end l is covered, and every promise of a to another client is over.

  module _ (al : T (server_at f k).alive) (rs : List (Option Reservation)) (p q a t l : ℕ) (ha : a < f.config.addresses) (lead : T (leads_at (server_at f k) a))
      (fits : (j : ℕ) → j < f.config.servers → l ≤ max (potlease_at (server_at f j) a) (f.time + f.config.skew + f.config.mclt))
      (over : (i e : ℕ) → Claim (basis f) i a e → p ≢ client_party f.config i → e + f.config.skew < f.time) where
    new_record : ℕ
    new_record = max (potlease_at (server_at f k) a) (written_end t l)

    new_write : OpenWrite
    new_write = opened q (written_end t l) (set (replicate 4 false) k true)

    new_binding : Binding
    new_binding = with_lease (binding_at (with_reserved (server_at f k) rs) a) l new_record new_write

    leads : new_binding.leads ≡ leads_at (server_at f k) a
    unfolding new_binding
    leads = refl

    more : potlease_at (server_at f k) a ≤ new_binding.potlease
    unfolding new_binding new_record
    more = omega arith

    grantor : Server
    grantor = lender a ha rs new_binding leads more

    after : Basis
    after = served_by (basis f) k grantor out

    grows : Grows (basis f) after
    unfolding after grantor
    grows = lender_grows a ha rs new_binding leads more

    grant_record : potlease_at (srv after k) a ≡ new_record
    unfolding after grantor new_binding
    grant_record = lender_record a ha rs new_binding leads more

    grant_cov : Cov after a l
    unfolding after grantor new_binding new_record lender
    grant_cov = record {
      led = λ j hj. set_case (λ x. T x.alive → T (leads_at x a) → l ≤ potlease_at x a) f.servers k grantor no_server j place
          (λ e al le. omega (arith, get_or-set_same (server_at f k).potlease a new_record 0 (omega (arith, v.rows k hk, ok.addresses_high))))
          (λ ne al' le. absurd (ne (one j k a hj hk ha al' al le lead)));
      every = λ j hj. omega (arith, fits j hj, grows.records j a);
    }

    grant_open : OpenOk after a new_write
    unfolding new_write
    grant_open = λ j hj. set_any (λ x. T x → written_end t l ≤ potlease_at (srv after j) a) (replicate 4 false) k true false j
        (λ e _. rw e (unfold new_record in omega (arith, grant_record)))
        (rep_ind (λ x. T x → written_end t l ≤ potlease_at (srv after j) a) 4 false false j (λ x. absurd x) (λ x. absurd x))

    Granted : Message → Type 0
    Granted m = Or (message k p q (Ack a (ack_end t l)) ≡ m) (ToServer (λ j. message k j q (Write a (written_end t l))) f.config.servers m)

    module _ (sub : (m : Message) → out m → Or (Waits f m) (Posted (granted f.config k (binding_at (with_reserved (server_at f k) rs) a) p q a t l).outbox m)) where
      says : (m : Message) → out m → Or (Waits f m) (Granted m)
      unfolding granted Granted
      says m x = by _ m (sub m x) (λ y. inl y) (λ y. inr (posted_others k _ _ f.config.servers ok.servers_high (omega (arith, ok.servers_high)) m y))

      grant_body : (m : Message) → Or (Waits f m) (Granted m) → BodyOk after m.sender m.body
      unfolding Granted
      grant_body m (inl x) = body_grows (basis f) after grows m.sender m.body (v.acks m x)
      grant_body m (inr (inl e)) = rw (← e) tt
      grant_body m (inr (inr x)) = rw (← x.is) tt

      NewOrOld : ℕ → ℕ → ℕ → Type 0
      NewOrOld i a' e = Or (Claim (basis f) i a' e) ((p ≡ client_party f.config i) × (a ≡ a') × (l ≡ e))

      sent_claim : (m : Message) (i a' e : ℕ) → Promises f.config m i a' e → Or (Waits f m) (Granted m) → NewOrOld i a' e
      unfolding Granted NewOrOld
      sent_claim m i a' e c (inl x) = inl (sent m x c)
      sent_claim m i a' e c (inr (inl y)) = let z = rw (← y) at c in inr (z.0, z.1, omega (arith, z.2))
      sent_claim m i a' e c (inr (inr x)) = absurd (rw (← x.is) at c)

      new_claim : (i a' e : ℕ) → Claim after i a' e → NewOrOld i a' e
      unfolding after NewOrOld
      new_claim i a' e (holds q' h x) = inl (holds q' h x)
      new_claim i a' e (sent m x c) = sent_claim m i a' e c (says m x)

      covered : (i a' e : ℕ) → a' < f.config.addresses → NewOrOld i a' e → Cov after a' e
      unfolding NewOrOld
      covered i a' e ha' (inl c) = cov_grows (basis f) after grows a' e ha' (v.claims i a' e ha' c)
      covered i a' e ha' (inr x) = rw (← x.1, ← x.2) grant_cov

      apart : (i a' e i' e' : ℕ) → a' < f.config.addresses → NewOrOld i a' e → NewOrOld i' a' e' → i ≢ i' → min e e' + f.config.skew < f.time
      unfolding NewOrOld
      apart i a' e i' e' ha' (inl c) (inl c') ne = v.pair i a' e i' e' ha' c c' ne
      apart i a' e i' e' ha' (inl c) (inr x) ne = omega (arith, over i e (rw x.1 c) (λ y. ne (omega (arith, x.0))))
      apart i a' e i' e' ha' (inr x) (inl c) ne = omega (arith, over i' e' (rw x.1 c) (λ y. ne (omega (arith, x.0))))
      apart i a' e i' e' ha' (inr x) (inr x') ne = absurd (ne (omega (arith, x.0, x'.0)))

      granted_leased : Leased after
      unfolding after grantor new_binding
      granted_leased = served (basis f) v k grantor out (lender_raised a ha rs new_binding leads more)
          (lender_lent a ha rs new_binding leads more grant_cov)
          (lender_open a ha rs new_binding leads more grant_open)
          (λ m x. grant_body m (says m x))
          (λ i a' e ha' c. covered i a' e ha' (new_claim i a' e c))
          (λ i a' e i' e' ha' c c' ne. apart i a' e i' e' ha' (new_claim i a' e c) (new_claim i' a' e' c') ne)

    keeps_grant : Keeps (at_address (with_reserved (server_at f k) rs) a (granted f.config k (binding_at (with_reserved (server_at f k) rs) a) p q a t l))
    unfolding granted after grantor lender new_binding new_record new_write
    keeps_grant sub = granted_leased sub

  pub keeps_request : T (server_at f k).alive → (p q a t : ℕ) → a < f.config.addresses
      → Keeps (at_address (dropped f.config q (server_at f k)) a (on_request f.config k (clock f k) (binding_at (dropped f.config q (server_at f k)) a) p q a t))
  unfolding on_request dropped grantable
  keeps_request al p q a t ha =
      let rs : List (Option Reservation) = reservations_by (freed_if_of q) f.config.addresses (server_at f k).reserved in
      cond_case (λ x. Keeps (at_address (dropped f.config q (server_at f k)) a x)) (leads_at (server_at f k) a and has_passed f.config (clock f k) (potlease_at (server_at f k) a)) _ _
      (λ y. let past : potlease_at (server_at f k) a + expiry_slack f.config < clock f k = ltb→lt _ _ (and_r (leads_at (server_at f k) a) _ y) in
      keeps_grant al rs p q a t (clock f k + f.config.mclt) ha (and_l _ _ y)
      (λ j hj. omega (arith, high))
      (λ i e c _. omega (arith, high, (v.claims i a e ha c).led k hk al (and_l _ _ y))))
      (λ _. unchanged a ha rs Unmet)

  pub keeps_renew : T (server_at f k).alive → (i q a e t : ℕ) → a < f.config.addresses → Claim (basis f) i a e
      → Keeps (at_address (server_at f k) a (on_renew f.config k (clock f k) (binding_at (server_at f k) a) (client_party f.config i) q a e t))
  unfolding on_renew
  keeps_renew al i q a e t ha claim =
      cond_case (λ x. Keeps (at_address (server_at f k) a x)) (leads_at (server_at f k) a and leb (clock f k) e) _ _
      (λ y. let due : clock f k ≤ e = leb→le _ _ (and_r (leads_at (server_at f k) a) _ y) in
      keeps_grant al (server_at f k).reserved (client_party f.config i) q a t (max (clock f k + f.config.mclt) (lent_at (server_at f k) a)) ha (and_l _ _ y)
      (λ j hj. omega (arith, high, (v.lents k a hk ha).every j hj))
      (λ i' e' c ne. omega (arith, low, v.pair i a e i' e' ha claim c (λ x. ne (ap (client_party f.config) x)))))
      (λ _. unchanged a ha (server_at f k).reserved Unmet)

  -- Write: the record rises, and the write ack may say so.

  pub keeps_write : (p q a e : ℕ) → a < f.config.addresses → Keeps (at_address (server_at f k) a (on_write k (binding_at (server_at f k) a) p q a e))
  unfolding on_write lender
  keeps_write p q a e ha =
      let b : Binding = with_lease (binding_at (server_at f k) a) (lent_at (server_at f k) a) (max (potlease_at (server_at f k) a) e) (write_at (server_at f k) a) in
      let more : potlease_at (server_at f k) a ≤ b.potlease = omega arith in
      unpromised a ha (server_at f k).reserved b refl more Done _ (v.lents k a hk ha) (v.opens k a hk ha)
      (λ m x. rw (← posted_one (message k p q (WriteAck a e)) m x) (omega (arith, lender_record a ha (server_at f k).reserved b refl more), λ i a e c. c))

  -- Write ack: it counts a server whose record has the end; when all are in, every record has it.

  -- the open write that an ack answers counts only servers whose record has its end
  counted : (q e a : ℕ) (acked : List Bool) (o : Option Pending) → T (matches_write q e o) → CountOk (basis f) a acked o
      → (j : ℕ) → j < f.config.servers → T (get_or acked j false) → e ≤ potlease_at (server_at f j) a
  unfolding matches_write
  counted q e a acked None t c j hj x = absurd t
  counted q e a acked (Some w) t c j hj x = let z = and_r _ _ t in omega (arith, c j hj x, eqb→eq)

  module _ (p q a e : ℕ) (ha : a < f.config.addresses) (from : e ≤ potlease_at (server_at f p) a) where
    acked_now : List Bool
    acked_now = set (write_at (server_at f k) a).acked p true

    counted_now : T (matches_write q e (write_at (server_at f k) a).pending) → (j : ℕ) → j < f.config.servers → T (get_or acked_now j false) → e ≤ potlease_at (server_at f j) a
    unfolding acked_now
    counted_now t j hj =
        set_any (λ x. T x → e ≤ potlease_at (server_at f j) a) (write_at (server_at f k) a).acked p true false j
        (λ is _. rw is from)
        (counted q e a (write_at (server_at f k) a).acked (write_at (server_at f k) a).pending t (v.opens k a hk ha) j hj)

    -- every record has it, so it is covered with the lent end
    all_have : ((j : ℕ) → j < f.config.servers → e ≤ potlease_at (server_at f j) a) → Cov (basis f) a (max (lent_at (server_at f k) a) e)
    all_have every = record {
      led = λ j hj al le. omega (arith, (v.lents k a hk ha).led j hj al le, every j hj);
      every = λ j hj. omega (arith, (v.lents k a hk ha).every j hj, every j hj);
    }

    -- another lent end and open write for a, the record as it was
    rewritten : (l : ℕ) (o : OpenWrite) → Cov (basis f) a l → OpenOk (basis f) a o
        → Keeps (at_address (server_at f k) a (answer (with_lease (binding_at (server_at f k) a) l (potlease_at (server_at f k) a) o) Done nothing))
    unfolding lender
    rewritten l o cov opn = unpromised a ha (server_at f k).reserved (with_lease (binding_at (server_at f k) a) l (potlease_at (server_at f k) a) o) refl (le_refl _) Done nothing cov opn
        (λ m y. posted_nothing m y)

    pub keeps_write_ack : Keeps (at_address (server_at f k) a (on_write_ack f.config (binding_at (server_at f k) a) p q e))
    unfolding on_write_ack acknowledged acked_now
    keeps_write_ack =
        cond_case (λ x. Keeps (at_address (server_at f k) a x)) (leads_at (server_at f k) a and matches_write q e (write_at (server_at f k) a).pending) _ _
        (λ y. cond_case (λ b. Keeps (at_address (server_at f k) a (answer b Done nothing))) (all (λ j. get_or acked_now j false) f.config.servers) _ _
        (λ full. rewritten _ closed (all_have (λ j hj. counted_now (and_r _ _ y) j hj (all_at (λ j. get_or acked_now j false) f.config.servers full j hj))) tt)
        (λ _. rewritten _ (opened q e acked_now) (v.lents k a hk ha) (counted_now (and_r _ _ y))))
        (λ _. unchanged a ha (server_at f k).reserved Unmet)

  -- A message, by its body.

  module _ (al : T (server_at f k).alive) (from to q : ℕ) where
    keeps_body : (b : Body) → T (body_in_range f.config from to b) → ((i a e : ℕ) → Says f.config from to b i a e → Claim (basis f) i a e) → BodyOk (basis f) from b
        → Keeps (server_handles f.config k (clock f k) (server_at f k) from q b)
    unfolding server_handles handled_at is_request address_for body_in_range is_client
    keeps_body Empty t cl ok = absurd t
    keeps_body Discover t cl ok = keeps_discover from q _ (address_low f.config (configured f.config g.config) from to _ _ _ _ Discover t)
    keeps_body (Offer a) t cl ok = unchanged a (ltb→lt a _ (and_r _ _ (and_r _ _ t))) (server_at f k).reserved Unmet
    keeps_body (Request a w) t cl ok = keeps_request al from q a w (ltb→lt a _ (and_l _ _ (and_r _ _ (and_r _ _ t))))
    keeps_body (Renew a e w) t cl ok =
        let is : from ≡ client_party f.config (from - f.config.servers) = omega (arith, leb→le f.config.servers from (and_l _ _ (and_l _ _ t))) in
        rw is (keeps_renew al (from - f.config.servers) q a e w (ltb→lt a _ (and_l _ _ (and_r _ _ (and_r _ _ t)))) (cl (from - f.config.servers) a e (is, refl, refl)))
    keeps_body (Write a e) t cl ok = keeps_write from q a e (ltb→lt a _ (and_l _ _ (and_r _ _ (and_r _ _ t))))
    keeps_body (WriteAck a e) t cl ok = keeps_write_ack from q a e (ltb→lt a _ (and_l _ _ (and_r _ _ (and_r _ _ t)))) ok
    keeps_body (Ack a e) t cl ok = unchanged a (ltb→lt a _ (and_l _ _ (and_r _ _ (and_r _ _ t)))) (server_at f k).reserved Unmet

  pub keeps_receive : (m : Message) → Waits f m → Keeps (server_receives f.config k (clock f k) (server_at f k) m)
  unfolding server_receives message_in_range
  keeps_receive m x =
      cond_case Keeps (server_at f k).alive _ _
      (λ al. keeps_body al m.sender m.receiver m.interaction m.body (and_r _ _ (g.message m x)) (λ i a e c. sent m x c) (v.acks m x))
      (λ _. silent (server_at f k).reserved Dead)
