-- A step of a facade in range, by the rules that it breaks and by what happens in it.
use mathlib.Core.Path.{◌≡◌, refl, sym, ◌∙◌}
use mathlib.Core.Bool.{Bool, true, false, cond}
use Prim.Native.Nat.{ℕ, zero, suc, ◌+◌, ◌≤◌, ◌<◌}
use native.Mathlib.Omega.{arith}
use borrow.Author.Tests.{le-leb, lt-leb, ne_eqb}
use lib.Dec.{T, ltb, leb→le, ltb→lt, nltb→le}
use lib.IntN.{ℤ, nat_abs}
use Rattle.std.specs.Prelude.{Option, Some, None, IfSome}
use Rattle.types.specs.declared.Config.{Config}
use Rattle.types.specs.declared.Message.{Message}
use Rattle.types.specs.declared.Facade.{Facade}
use Rattle.rules.specs.Answers.{Answer}
use Rattle.types.specs.declared.ServerEvent.{ServerEvent}
use Rattle.types.specs.declared.ClientEvent.{ClientEvent}
use Rattle.types.specs.declared.Deed.{Deed}
use Rattle.types.specs.declared.Deed.TheVariants.{Rests, Passes, Serves, Asks}
use Rattle.rules.specs.Conditions.{is_within, unless}
use Rattle.rules.specs.Parts.{message_at, offset_at}
use Rattle.rules.specs.Messages.{without}
use Rattle.rules.specs.Ranges.{in_range, is_server, message_in_range, last_time}
use Rattle.rules.specs.Views.{View, whole}
use Rattle.rules.specs.Steps.{Action, pass, fail, return, notice, discover, request, renew, deliver, lose, cleanup, unknown, fields_in_range, exists, of_pass, time_left, malformed, barred, broken, accepted, refused, delivered, deed_of, position, takes_out, taken_out, moved, lapse, enacted, effect, answer_to, unless_refused, full}
use Rattle.rules.proofs.Laws.{and_l, and_r, cond_case, unless_ok}
use Rattle.rules.proofs.Kept.{ranged}
use Rattle.rules.proofs.Refusals.{refused_first, first_malformed, then_barred, unless_full_lem}
use Rattle.rules.proofs.Delivery.{for_client}
use Rattle.rules.proofs.Sizes.{sizes, waiting_high, offset_high}
use Rattle.cable.specs.Exchange.{taken_from}
use Rattle.deeds.specs.Deeds.{event_in_range, DeedInRange}
use Rattle.facade.specs.Full.{unless_full}
use Rattle.facade.proofs.Laws.{taken_high}

-- the rules that are kept where none is broken
module _ (v : View) (x : Action) (e : broken v x 0 ≡ 0) where
  kept_fields : T (fields_in_range x)
  unfolding broken malformed
  kept_fields = (unless_ok _ _ _ (omega arith) (unless_ok _ _ _ (omega arith) e).1).0

  under : barred v x 0 ≡ 0
  unfolding broken malformed
  under = (unless_ok _ _ _ (omega arith) (unless_ok _ _ _ (omega arith) e).1).1

  kept_names : T (exists v x)
  unfolding barred
  kept_names = (unless_ok _ _ _ (omega arith) under).0

  kept_time : T (of_pass (time_left v) x)
  unfolding barred
  kept_time = (unless_ok _ _ _ (omega arith) (unless_ok _ _ _ (omega arith) (unless_ok _ _ _ (omega arith) under).1).1).0

module _ (f : Facade) (t : T (in_range f)) where
  -- the receiver of a waiting message is there
  delivered_fits : (p : ℕ) → p < f.waiting → DeedInRange f (delivered f.config (message_at f p))
  unfolding delivered DeedInRange event_in_range message_in_range
  delivered_fits p low =
      let m = message_at f p in
      let good : T (message_in_range f.config f.next m) = (ranged f t).message m (record { at = p; below = low; is = refl }) in
      cond_case (DeedInRange f) (is_server f.config m.receiver) _ _
      (λ b. (ltb→lt m.receiver f.config.servers b, and_r _ _ good))
      (λ b. omega (arith, nltb→le m.receiver f.config.servers b, for_client f.config m.sender m.receiver m.body (and_r _ _ good) b))

  -- what happens is in range
  happens_in_range : (a : Action) → broken (whole f) a 0 ≡ 0 → DeedInRange f (deed_of f.config (message_at f (position a)) a)
  unfolding deed_of position DeedInRange event_in_range exists of_pass time_left fields_in_range
  happens_in_range (pass d p z) q = let a = pass d p z in
      (leb→le _ _ (kept_time (whole f) a q), ltb→lt _ _ (kept_names (whole f) a q), leb→le _ _ (and_r (is_within 1 100000 d) _ (kept_fields (whole f) a q)))
  happens_in_range (fail k) q = (ltb→lt _ _ (kept_names (whole f) (fail k) q), tt)
  happens_in_range (return k) q = (ltb→lt _ _ (kept_names (whole f) (return k) q), tt)
  happens_in_range (notice k j says) q =
      let b = kept_names (whole f) (notice k j says) q in (ltb→lt _ _ (and_l _ _ b), and_l _ _ (and_r (ltb k f.config.servers) _ b))
  happens_in_range (discover i) q = ltb→lt _ _ (kept_names (whole f) (discover i) q)
  happens_in_range (request i w) q = ltb→lt _ _ (kept_names (whole f) (request i w) q)
  happens_in_range (renew i w) q = ltb→lt _ _ (kept_names (whole f) (renew i w) q)
  happens_in_range (deliver p keep) q = delivered_fits p (ltb→lt _ _ (kept_names (whole f) (deliver p keep) q))
  happens_in_range (lose p) q = tt
  happens_in_range (cleanup k) q = (ltb→lt _ _ (kept_names (whole f) (cleanup k) q), tt)
  happens_in_range unknown q = tt

  -- what is taken out is there
  taken_low : (a : Action) → broken (whole f) a 0 ≡ 0 → T (takes_out a) → position a < f.waiting
  unfolding takes_out position exists
  taken_low (pass d p z) q b = absurd b
  taken_low (fail k) q b = absurd b
  taken_low (return k) q b = absurd b
  taken_low (notice k j says) q b = absurd b
  taken_low (discover i) q b = absurd b
  taken_low (request i w) q b = absurd b
  taken_low (renew i w) q b = absurd b
  taken_low (deliver p keep) q b = ltb→lt _ _ (kept_names (whole f) (deliver p keep) q)
  taken_low (lose p) q b = ltb→lt _ _ (kept_names (whole f) (lose p) q)
  taken_low (cleanup k) q b = absurd b
  taken_low unknown q b = absurd b

is_pass : Deed → Bool
is_pass Rests = false
is_pass (Passes d p e) = true
is_pass (Serves k e) = false
is_pass (Asks i e) = false

-- a pass takes no message out
pass_takes_none : (c : Config) (m : Message) (a : Action) → T (is_pass (deed_of c m a)) → takes_out a ≡ false
unfolding deed_of delivered takes_out is_pass
pass_takes_none c m (pass d p z) h = refl
pass_takes_none c m (fail k) h = absurd h
pass_takes_none c m (return k) h = absurd h
pass_takes_none c m (notice k j says) h = absurd h
pass_takes_none c m (discover i) h = absurd h
pass_takes_none c m (request i w) h = absurd h
pass_takes_none c m (renew i w) h = absurd h
pass_takes_none c m (deliver p keep) h = cond_case (λ d. T (is_pass d) → takes_out (deliver p keep) ≡ false) (is_server c m.receiver) _ _ (λ _ u. absurd u) (λ _ u. absurd u) h
pass_takes_none c m (lose p) h = absurd h
pass_takes_none c m (cleanup k) h = absurd h
pass_takes_none c m unknown h = absurd h

-- the position of the message that a step takes out
out_of : (f : Facade) (b : Bool) (p : ℕ) → taken_from f (cond b (Some p) None) ≡ cond b (without f p) f
unfolding taken_from
out_of f true p = refl
out_of f false p = refl

low_if : (b : Bool) (p n : ℕ) → (T b → p < n) → IfSome (cond b (Some p) None) (λ q. q < n)
low_if true p n h = h tt
low_if false p n h = tt

-- the answer is the refusal of the first of the rules 4 to 12 that is broken, or what happens unless the cable is full
pub is_decided : (f : Facade) → T (in_range f) → (a : Action) → unless_refused f (broken (whole f) a 0) (unless_full f (effect f a)) ≡ answer_to f a
unfolding unless_full
is_decided f t a = go (broken (whole f) a 0) refl where
  go : (n : ℕ) → broken (whole f) a 0 ≡ n → unless_refused f n (unless_refused f (full (effect f a).facade) (effect f a)) ≡ answer_to f a
  go zero e = unless_full_lem f a t e
  go (suc n) e = let some : suc n ≡ 0 → ⊥ = λ z. omega (arith, z) in rw (ne_eqb (suc n) 0 some) (refused_first f a t (suc n) (sym e) some)

-- so of a step that breaks none of the rules 4 to 12, and whose effect is b, by whether it finds room
module _ (f : Facade) (t : T (in_range f)) (a : Action) (e : broken (whole f) a 0 ≡ 0) {b : Answer} (is : effect f a ≡ b) where
  pub put_in : b.facade.waiting ≤ 128 → b ≡ answer_to f a
  unfolding unless_full unless
  put_in h = rw (e, is, le-leb b.facade.waiting 128 h) at (is_decided f t a)

  pub left_out : 128 < b.facade.waiting → refused f 13 ≡ answer_to f a
  unfolding unless_full unless
  left_out h = rw (e, is, lt-leb b.facade.waiting 128 h) at (is_decided f t a)

-- step a breaks rule 4 or 5
pub is_malformed : (f : Facade) → T (in_range f) → (a : Action) (n : ℕ) → n ≡ malformed a 0 → (n ≡ 0 → ⊥) → refused f n ≡ answer_to f a
is_malformed f t a n e h = refused_first f a t n (first_malformed (whole f) a n e h) h

-- Step a breaks none of the rules 4 and 5.
module _ (f : Facade) (t : T (in_range f)) (a : Action) (form : malformed a 0 ≡ 0) where
  -- it breaks one of the rules 6 to 12
  pub is_barred : (n : ℕ) → n ≡ barred (whole f) a 0 → (n ≡ 0 → ⊥) → refused f n ≡ answer_to f a
  is_barred n e h = refused_first f a t n (then_barred (whole f) a a refl form n e) h

  -- it breaks none of them: d happens, and a message is taken out
  module _ (e : 0 ≡ barred (whole f) a 0) {d : Deed} (i : d ≡ deed_of f.config (message_at f (position a)) a)
      {taken : Option ℕ} (j : taken ≡ cond (takes_out a) (Some (position a)) None) where
    none : broken (whole f) a 0 ≡ 0
    none = sym (then_barred (whole f) a a refl form 0 e)

    pub decided_fits : DeedInRange f d
    decided_fits = rw i (happens_in_range f t a none)

    pub decided_there : (f.waiting ≤ 128) × IfSome taken (λ p. p < f.waiting)
    decided_there = (waiting_high f t, rw j (low_if (takes_out a) (position a) f.waiting (taken_low f t a none)))

    pub is_done : unless_full f (enacted (taken_from f taken) d) ≡ answer_to f a
    unfolding effect taken_out
    is_done = rw (j, i, out_of f (takes_out a) (position a)) (rw none at (is_decided f t a))

    -- where no message more waits than may
    room : (g : Facade) (n : ℕ) → g.waiting ≤ 128 → accepted g n ≡ unless_full f (accepted g n)
    unfolding unless_full unless
    room g n h = rw (le-leb g.waiting 128 h)

    pub rests_is : d ≡ Rests → accepted (taken_from f taken) 0 ≡ answer_to f a
    unfolding enacted
    rests_is k = room (taken_from f taken) 0 (taken_high f taken decided_there.0) ∙ rw k at is_done

    module _ (n p : ℕ) (z : ℤ) (k : d ≡ Passes n p z) where
      pub pass_fits : (f.time + n ≤ last_time) × (p < 36) × (nat_abs (offset_at f p) ≤ 1000) × (nat_abs z ≤ 2000)
      unfolding DeedInRange
      pass_fits = let r = rw k at decided_fits in (r.0, omega (arith, r.1, sizes f t), offset_high f t p r.1, r.2)

      takes_none : takes_out a ≡ false
      unfolding is_pass
      takes_none = pass_takes_none f.config (message_at f (position a)) a (rw (sym i ∙ k) tt)

      pub passes_is : accepted (lapse (moved f n p z)) 0 ≡ answer_to f a
      unfolding enacted lapse taken_from
      passes_is = room (lapse (moved f n p z)) 0 decided_there.0 ∙ rw (k, j, takes_none) at is_done

    pub serves_fits : (k : ℕ) (v : ServerEvent) → d ≡ Serves k v → T (in_range f) × (k < f.config.servers) × T (event_in_range f.config k v) × IfSome taken (λ p. p < f.waiting)
    unfolding DeedInRange
    serves_fits k v h = let r = rw h at decided_fits in (t, r.0, r.1, decided_there.1)

    pub asks_fits : (k : ℕ) (v : ClientEvent) → d ≡ Asks k v → T (in_range f) × (k < f.config.clients) × IfSome taken (λ p. p < f.waiting)
    unfolding DeedInRange
    asks_fits k v h = (t, rw h at decided_fits, decided_there.1)
