-- One leader for each address: the half of demand 3 that is about leading.
-- It is proved over any order of the servers in which no two have one rank; the round order is the instance.
use mathlib.Core.Path.{◌≡◌, refl, sym, ◌∙◌, fun_ext}
use mathlib.Core.Logic.{◌≢◌}
use mathlib.Core.Bool.{Bool, true, false, not, cond}
use mathlib.Core.List.{List, []}
use Prim.Native.Nat.{ℕ, zero, suc, ◌+◌, ◌-◌, ◌≤◌, ◌<◌}
use native.Mathlib.Omega.{arith}
use native.Mathlib.Decide.{dec_lt}
use lib.Dec.{T, leb, eqb, leb→le, ltb→lt, eqb→eq}
use lib.ListN.{length, get_or, set, replicate, length-set, get_or-replicate}
use lib.Seq.{get_or-set_same, get_or-set_other, set-get_or}
use lib.IntN.{ℤ, pos, nat_abs, ◌+ℤ◌}
use Rattle.types.specs.declared.Config.{Config}
use Rattle.types.specs.declared.Server.{Server}
use Rattle.types.specs.declared.Binding.{Binding}
use Rattle.types.specs.declared.Body.{Body}
use Rattle.types.specs.declared.Body.TheVariants.{Empty, Discover, Offer, Request, Renew, Write, WriteAck, Ack}
use Rattle.types.specs.declared.Message.{Message}
use Rattle.types.specs.declared.Facade.{Facade}
use Rattle.types.specs.declared.Reaction.{Reaction}
use Rattle.rules.specs.Conditions.{◌and◌, all}
use Rattle.rules.specs.Clock.{clock_reading}
use Rattle.rules.specs.Parts.{no_server, believes, leads_at, server_at, message_at, offset_at, clock, notices_of, notice_in, notice_at, parties, binding_at, with_life, with_leading, with_messages}
use Rattle.rules.specs.Ranges.{offset_in_range, is_server}
use Rattle.rules.specs.Messages.{removed, without}
use Rattle.rules.specs.Order.{rank, is_first}
use Rattle.rules.specs.Server.{at_address, lead_delay, leads_after, leading_with, noticed, after_return, cleaned, offerable, offered, on_discover, granted, dropped, grantable, on_request, on_renew, on_write, matches_write, acknowledged, on_write_ack, handled_at, is_request, address_of, server_handles, server_receives}
use Rattle.rules.specs.Steps.{Action, pass, fail, return, notice, discover, request, renew, deliver, lose, cleanup, unknown, fresh, exists, of_pass, clock_allows, in_touch, of_notice, is_credible, lapse, delivered, deed_of, takes_out, taken_out, enacted, server_after, notices_after, client_after, next_after, effect, holds_ended, lapsed_at}
use Rattle.types.specs.declared.Deed.{Deed}
use Rattle.rules.proofs.Laws.{and_l, and_r, or_elim, clash, cond_case, all_at, set_case, set_any, rep_true, rep_false, length_filled, filled_at}
use Rattle.rules.proofs.Clocks.{plus_low, plus_high, plus_later, plus_mono}
use Rattle.rules.proofs.Kept.{handled, deliver_is, of_fresh, none_heard, Configured, configured, Ranged, Kept}

-- Orders.

-- an order: no two servers have one rank for an address, and whoever is first believes none of lower rank live
pub record Orders (c : Config) (order : ℕ → ℕ → ℕ) : Type 0 where
  pub one : (a j k : ℕ) → j < c.servers → k < c.servers → order a j ≡ order a k → j ≡ k
  pub first : (a k : ℕ) (b : List Bool) → T (is_first c.servers a k b) → (j : ℕ) → j < c.servers → order a j < order a k → T (not (believes b j))

two_to_four : (P : ℕ → Type 0) (n : ℕ) → 2 ≤ n → n ≤ 4 → P 2 → P 3 → P 4 → P n
two_to_four P zero lo hi p q r = absurd (omega arith)
two_to_four P (suc zero) lo hi p q r = absurd (omega arith)
two_to_four P (suc (suc zero)) lo hi p q r = p
two_to_four P (suc (suc (suc zero))) lo hi p q r = q
two_to_four P (suc (suc (suc (suc zero)))) lo hi p q r = r
two_to_four P (suc (suc (suc (suc (suc n))))) lo hi p q r = absurd (omega arith)

-- the ranks of the round order are different
pub rank_one : (n a j k : ℕ) → 2 ≤ n → n ≤ 4 → j < n → k < n → rank n a j ≡ rank n a k → j ≡ k
unfolding rank
rank_one n a j k lo hi =
    two_to_four (λ n. j < n → k < n → rank n a j ≡ rank n a k → j ≡ k) n lo hi (λ h h' e. omega arith) (λ h h' e. omega arith) (λ h h' e. omega arith)

pub round : (c : Config) → Configured c → Orders c (rank c.servers)
unfolding is_first
round c ok = record {
  one = λ a j k. rank_one c.servers a j k ok.servers_low ok.servers_high;
  first = λ a k b t j h lower. or_elim (not (believes b j)) _ (all_at _ c.servers (and_r (believes b k) _ t) j h) (λ x. x) (λ x. absurd (omega (arith, leb→le)));
}

-- The invariant. It speaks of the part of a server that leading is about.

pub record Core : Type 0 where
  pub alive : Bool
  pub changed : ℕ
  pub returned : ℕ
  pub believed : List Bool
  pub leads : List Bool

abbrev pub core_of : Server → Core
core_of s = record { alive = s.alive; changed = s.changed; returned = s.returned; believed = s.believed; leads = s.leads }

-- a server that another, with notice time h about it, does not believe live though it is, changed less than ν before h
abbrev L1 : ℕ → ℕ → ℕ → Core → Core → Type 0
L1 ν h j sk sj = T sk.alive → T sj.alive → T (not (believes sk.believed j)) → h < sj.changed + ν

-- no notice of a live server is more than ν old
abbrev L2 : ℕ → ℕ → ℕ → Core → Type 0
L2 ν now h s = T s.alive → now ≤ h + ν

-- whoever leads has waited since its return
abbrev L3 : ℕ → ℕ → ℕ → Core → Type 0
L3 w r a s = T s.alive → T (get_or s.leads a false) → s.returned + w ≤ r

-- a return reading is at most Δ below the true time of the return
abbrev L4 : ℕ → Core → Type 0
L4 Δ s = T s.alive → s.changed ≤ s.returned + Δ

-- whoever leads believes no server of lower rank live
abbrev L5 : (ℕ → ℕ → ℕ) → ℕ → ℕ → ℕ → Core → Type 0
L5 order k j a s = T s.alive → T (get_or s.leads a false) → order a j < order a k → T (not (believes s.believed j))

pub record LedBy (order : ℕ → ℕ → ℕ) (c : Config) (t : ℕ) (os : List ℤ) (ts : List (List ℕ)) (n : ℕ) (core : ℕ → Core) : Type 0 where
  pub servers : n ≡ 4
  pub notices : length ts ≡ 4
  pub rows : (k : ℕ) → k < c.servers → length (notices_of ts k) ≡ 4
  pub believed : (k : ℕ) → k < c.servers → length (core k).believed ≡ 4
  pub leads : (k : ℕ) → k < c.servers → length (core k).leads ≡ 32
  pub l1 : (k j : ℕ) → k < c.servers → j < c.servers → j ≢ k → L1 c.detection (notice_in ts k j) j (core k) (core j)
  pub l2 : (k j : ℕ) → k < c.servers → j < c.servers → j ≢ k → L2 c.detection t (notice_in ts k j) (core k)
  pub l3 : (j a : ℕ) → j < c.servers → a < c.addresses → L3 (lead_delay c) (clock_reading t (get_or os j (pos 0))) a (core j)
  pub l4 : (j : ℕ) → j < c.servers → L4 c.skew (core j)
  pub l5 : (k j a : ℕ) → k < c.servers → j < c.servers → a < c.addresses → L5 order k j a (core k)

abbrev pub Led : (ℕ → ℕ → ℕ) → Facade → Type 0
Led order f = LedBy order f.config f.time f.offsets f.notices (length f.servers) (λ k. core_of (server_at f k))

-- no two live servers lead one address
abbrev pub OneLeader : Facade → Type 0
OneLeader f =
    (j k a : ℕ) → j < f.config.servers → k < f.config.servers → a < f.config.addresses
    → T (server_at f j).alive → T (server_at f k).alive → T (leads_at (server_at f j) a) → T (leads_at (server_at f k) a) → j ≡ k

offset_near : (f : Facade) → Ranged f → (p : ℕ) → p < parties f.config → nat_abs (offset_at f p) ≤ f.config.skew
unfolding offset_in_range
offset_near f g p h = leb→le _ _ (and_l _ _ (g.offset p h))

pub clock_low : (f : Facade) → Ranged f → (p : ℕ) → p < parties f.config → f.time ≤ clock f p + f.config.skew
clock_low f g p h = plus_low f.time f.config.skew (offset_at f p) (offset_near f g p h)

pub clock_high : (f : Facade) → Ranged f → (p : ℕ) → p < parties f.config → clock f p ≤ f.time + f.config.skew
clock_high f g p h = plus_high f.time f.config.skew (offset_at f p) (offset_near f g p h)

module _ (order : ℕ → ℕ → ℕ) (f : Facade) (o : Orders f.config order) (g : Ranged f) (v : Led order f) where
  -- a leader of lower rank would have come back too late to be doubted, and too early to lead
  lower_leads : (j k a : ℕ) → j < f.config.servers → k < f.config.servers → a < f.config.addresses
      → T (server_at f j).alive → T (server_at f k).alive → T (leads_at (server_at f j) a) → T (leads_at (server_at f k) a) → order a j < order a k → ⊥
  lower_leads j k a hj hk ha aj ak lj lk lower =
      let ne : j ≢ k = λ e. omega (arith, rw e at lower) in
      omega (arith, v.l1 k j hk hj ne ak aj (v.l5 k j a hk hj ha ak lk lower), v.l2 k j hk hj ne ak, v.l3 j a hj ha aj lj, v.l4 j hj aj, clock_high f g j (omega arith))

  one_go : (j k a : ℕ) → j < f.config.servers → k < f.config.servers → a < f.config.addresses
      → T (server_at f j).alive → T (server_at f k).alive → T (leads_at (server_at f j) a) → T (leads_at (server_at f k) a)
      → Dec (order a j < order a k) → Dec (order a k < order a j) → j ≡ k
  one_go j k a hj hk ha aj ak lj lk (yes h) y = absurd (lower_leads j k a hj hk ha aj ak lj lk h)
  one_go j k a hj hk ha aj ak lj lk (no nh) (yes h) = absurd (lower_leads k j a hk hj ha ak aj lk lj h)
  one_go j k a hj hk ha aj ak lj lk (no nh) (no nh') = o.one a j k hj hk (omega arith)

  pub one_leader : OneLeader f
  one_leader j k a hj hk ha aj ak lj lk = one_go j k a hj hk ha aj ak lj lk (dec_lt _ _) (dec_lt _ _)

-- What a server does with a message leaves this part of it.

module _ (c : Config) (k r : ℕ) (s : Server) where
  abbrev SameCore : Reaction Server → Type 0
  SameCore x = core_of x.after ≡ core_of s

  abbrev SameLead : Binding → Reaction Binding → Type 0
  SameLead b x = x.after.leads ≡ b.leads

  core_at : (a : ℕ) (l : Bool) → l ≡ leads_at s a → core_of (with_leading s s.believed (set s.leads a l) s.potlease) ≡ core_of s
  core_at a l e = rw (e, set-get_or s.leads a false)

  lead_at_lem : (b : Binding) (p q a : ℕ) (x : Body) → (handled_at c k r b p q a x).after.leads ≡ b.leads
  unfolding handled_at on_discover offered on_request granted on_renew on_write on_write_ack acknowledged
  lead_at_lem b p q a Empty = refl
  lead_at_lem b p q a Discover = cond_case (SameLead b) (offerable c r b) _ _ (λ _. refl) (λ _. refl)
  lead_at_lem b p q a (Offer _) = refl
  lead_at_lem b p q a (Request _ t) = cond_case (SameLead b) (grantable c r b) _ _ (λ _. refl) (λ _. refl)
  lead_at_lem b p q a (Renew _ e t) = cond_case (SameLead b) (b.leads and leb r e) _ _ (λ _. refl) (λ _. refl)
  lead_at_lem b p q a (Write _ v) = refl
  lead_at_lem b p q a (WriteAck _ v) =
      cond_case (SameLead b) (b.leads and matches_write q v b.write.pending) _ _
      (λ _. cond_case (λ (d : Binding). d.leads ≡ b.leads) (all _ c.servers) _ _ (λ _. refl) (λ _. refl))
      (λ _. refl)
  lead_at_lem b p q a (Ack _ e) = refl

  core_body : (p q : ℕ) (x : Body) → SameCore (server_handles c k r s p q x)
  unfolding server_handles dropped
  core_body p q x = core_go (is_request x) where
    core_go : (d : Bool) → SameCore (at_address (cond d (dropped c q s) s) (address_of c r s x) (handled_at c k r (binding_at (cond d (dropped c q s) s) (address_of c r s x)) p q (address_of c r s x) x))
    core_go true = core_at _ _ (lead_at_lem _ p q _ x)
    core_go false = core_at _ _ (lead_at_lem _ p q _ x)

  pub core_received : (m : Message) → SameCore (server_receives c k r s m)
  unfolding server_receives
  core_received m = cond_case SameCore s.alive _ _ (λ _. core_body m.sender m.interaction m.body) (λ _. refl)

-- Each step keeps it.

-- server i replaced by s: what holds of each server, and of each two
module _ (f : Facade) (i : ℕ) (s : Server) (h : i < length f.servers) where
  on_one : (P : Core → Type 0) (k : ℕ) → (k ≡ i → P (core_of s)) → (k ≢ i → P (core_of (server_at f k))) → P (core_of (get_or (set f.servers i s) k no_server))
  on_one P k same other = set_case (λ x. P (core_of x)) f.servers i s no_server k h same other

  on_two : (P : Core → Core → Type 0) (k j : ℕ) → j ≢ k
      → (k ≡ i → P (core_of s) (core_of (server_at f j))) → (j ≡ i → P (core_of (server_at f k)) (core_of s)) → (k ≢ i → j ≢ i → P (core_of (server_at f k)) (core_of (server_at f j)))
      → P (core_of (get_or (set f.servers i s) k no_server)) (core_of (get_or (set f.servers i s) j no_server))
  on_two P k j ne a b c =
      on_one (λ x. P x (core_of (get_or (set f.servers i s) j no_server))) k
      (λ e. on_one (λ y. P (core_of s) y) j (λ e'. absurd (ne (cc))) (λ _. a e))
      (λ nk. on_one (λ y. P (core_of (server_at f k)) y) j (λ e. b e) (c nk))

module _ (order : ℕ → ℕ → ℕ) (f : Facade) (g : Ranged f) (v : Led order f) where
  ok : Configured f.config
  ok = configured f.config g.config

  place : (k : ℕ) → k < f.config.servers → k < length f.servers
  place k h = omega (arith, v.servers, ok.servers_high)

  -- a server replaced by one with the same part
  pub same_core : (i : ℕ) (s : Server) → i < f.config.servers → core_of s ≡ core_of (server_at f i)
      → LedBy order f.config f.time f.offsets f.notices (length (set f.servers i s)) (λ k. core_of (get_or (set f.servers i s) k no_server))
  same_core i s h e =
      rw (length-set f.servers i s, fun_ext (λ k. on_one f i s (place i h) (λ x. x ≡ core_of (server_at f k)) k (λ q. rw q e) (λ _. refl))) v

  -- what a server s in place of server i, with the notice times row, has to meet
  record Replaces (i : ℕ) (s : Server) (row : List ℕ) : Type 0 where
    exists_i : i < f.config.servers
    believed : length s.believed ≡ 4
    leads : length s.leads ≡ 32
    notices : length row ≡ 4
    l1_own : (j : ℕ) → j < f.config.servers → j ≢ i → L1 f.config.detection (get_or row j 0) j (core_of s) (core_of (server_at f j))
    l1_about : (k : ℕ) → k < f.config.servers → k ≢ i → L1 f.config.detection (notice_at f k i) i (core_of (server_at f k)) (core_of s)
    l2_own : (j : ℕ) → j < f.config.servers → j ≢ i → L2 f.config.detection f.time (get_or row j 0) (core_of s)
    l3_own : (a : ℕ) → a < f.config.addresses → L3 (lead_delay f.config) (clock f i) a (core_of s)
    l4_own : L4 f.config.skew (core_of s)
    l5_own : (j a : ℕ) → j < f.config.servers → a < f.config.addresses → L5 order i j a (core_of s)

  replaced : (i : ℕ) (s : Server) (row : List ℕ) → Replaces i s row
      → LedBy order f.config f.time f.offsets (set f.notices i row) (length (set f.servers i s)) (λ k. core_of (get_or (set f.servers i s) k no_server))
  replaced i s row w =
      let p : i < length f.servers = place i w.exists_i in
      let q : i < length f.notices = omega (arith, v.notices, w.exists_i, ok.servers_high) in
      let own : notices_of (set f.notices i row) i ≡ row = get_or-set_same f.notices i row [] q in
      let others : (k : ℕ) → k ≢ i → notices_of (set f.notices i row) k ≡ notices_of f.notices k = λ k nk. get_or-set_other f.notices i k row [] nk in
      record {
        servers = length-set f.servers i s ∙ v.servers;
        notices = length-set f.notices i row ∙ v.notices;
        rows = λ k hk. set_case (λ x. length x ≡ 4) f.notices i row [] k q (λ _. w.notices) (λ _. v.rows k hk);
        believed = λ k hk. on_one f i s p (λ x. length x.believed ≡ 4) k (λ _. w.believed) (λ _. v.believed k hk);
        leads = λ k hk. on_one f i s p (λ x. length x.leads ≡ 32) k (λ _. w.leads) (λ _. v.leads k hk);
        l1 = λ k j hk hj ne. on_two f i s p (L1 f.config.detection (notice_in (set f.notices i row) k j) j) k j ne
            (λ e. rw (e, own) (w.l1_own j hj (rw e at ne)))
            (λ e. let nk : k ≢ i = λ e'. ne (cc) in rw (others k nk, e) (w.l1_about k hk nk))
            (λ nk _. rw (others k nk) (v.l1 k j hk hj ne));
        l2 = λ k j hk hj ne. on_one f i s p (L2 f.config.detection f.time (notice_in (set f.notices i row) k j)) k
            (λ e. rw (e, own) (w.l2_own j hj (rw e at ne)))
            (λ nk. rw (others k nk) (v.l2 k j hk hj ne));
        l3 = λ j a hj ha. on_one f i s p (L3 (lead_delay f.config) (clock f j) a) j (λ e. rw e (w.l3_own a ha)) (λ _. v.l3 j a hj ha);
        l4 = λ j hj. on_one f i s p (L4 f.config.skew) j (λ _. w.l4_own) (λ _. v.l4 j hj);
        l5 = λ k j a hk hj ha. on_one f i s p (L5 order k j a) k (λ e. rw e (w.l5_own j a hj ha)) (λ _. v.l5 k j a hk hj ha);
      }

  -- fail: a dead server leads nothing and believes nothing
  pub led_fail : (i : ℕ) → Kept f (fail i) → Led order (effect f (fail i)).facade
  unfolding effect deed_of takes_out taken_out enacted server_after notices_after exists
  led_fail i w =
      let h : i < f.config.servers = ltb→lt i _ w.names in
      rw (set-get_or f.notices i []) at (replaced i (with_life (server_at f i) false f.time) (notices_of f.notices i) (record {
        exists_i = h;
        believed = v.believed i h;
        leads = v.leads i h;
        notices = v.rows i h;
        l1_own = λ j _ _ x. absurd x;
        l1_about = λ k _ _ _ x. absurd x;
        l2_own = λ j _ _ x. absurd x;
        l3_own = λ a _ x. absurd x;
        l4_own = λ x. absurd x;
        l5_own = λ j a _ _ x. absurd x;
      }))

  -- return: everyone is believed live, nothing is led, and the server's notice times are now
  pub led_return : (i : ℕ) → Kept f (return i) → Led order (effect f (return i)).facade
  unfolding effect deed_of takes_out taken_out enacted server_after notices_after exists after_return
  led_return i w =
      let h : i < f.config.servers = ltb→lt i _ w.names in
      replaced i (with_life (after_return (clock f i) (server_at f i)).after true f.time) (replicate 4 f.time) (record {
        exists_i = h;
        believed = refl;
        leads = refl;
        notices = refl;
        l1_own = λ j hj _ _ _ nb. clash (believes (replicate 4 true) j) (rep_true 4 j (omega (arith, ok.servers_high))) nb;
        l1_about = λ k hk ne _ _ _. omega (arith, g.notice k i hk h (λ e. ne (sym e)), ok.detection_low);
        l2_own = λ j hj _ _. omega (arith, get_or-replicate 4 j f.time 0 (omega (arith, ok.servers_high)));
        l3_own = λ a _ _ t. absurd (rep_false 32 a t);
        l4_own = λ _. clock_low f g i (omega arith);
        l5_own = λ j a _ _ _ t. absurd (rep_false 32 a t);
      })

  -- notice: the set changes only about j, and a dead notice about a live server is taken within ν of its change
  module _ (o : Orders f.config order) (k j says : ℕ) (w : Kept f (notice k j says)) where
    hk : k < f.config.servers
    unfolding exists
    hk = ltb→lt k f.config.servers (and_l _ _ w.names)

    hj : j < f.config.servers
    unfolding exists
    hj = ltb→lt j f.config.servers (and_l _ _ (and_r _ _ w.names))

    set_now : List Bool
    set_now = set (server_at f k).believed j (eqb says 1)

    times_now : List ℕ
    times_now = set (notices_of f.notices k) j f.time

    said_dead : (b x : Bool) → T (not b) → T (cond b x (not x)) → T x → ⊥
    said_dead true x n y t = n
    said_dead false true n y t = y
    said_dead false false n y t = t

    dead_soon : T (server_at f j).alive → T (not (eqb says 1)) → f.time < (server_at f j).changed + f.config.detection
    unfolding of_notice is_credible
    dead_soon al n =
        or_elim (cond (eqb says 1) (server_at f j).alive (not (server_at f j).alive)) _ w.timely
        (λ x. absurd (said_dead (eqb says 1) (server_at f j).alive n x al))
        (λ x. omega (arith, ltb→lt))

    in_row : j < length (notices_of f.notices k)
    in_row = omega (arith, v.rows k hk, hj, ok.servers_high)

    own_l1 : (j' : ℕ) → j' < f.config.servers → j' ≢ k → T (server_at f k).alive → T (server_at f j').alive → T (not (believes set_now j'))
        → get_or times_now j' 0 < (server_at f j').changed + f.config.detection
    unfolding set_now times_now
    own_l1 j' h ne ak aj =
        set_case (λ x. T (not x) → get_or times_now j' 0 < (server_at f j').changed + f.config.detection) (server_at f k).believed j (eqb says 1) false j'
        (omega (arith, v.believed k hk, hj, ok.servers_high))
        (λ e n. rw (e, get_or-set_same (notices_of f.notices k) j f.time 0 in_row) (dead_soon (rw e at aj) n))
        (λ ne' n. rw (get_or-set_other (notices_of f.notices k) j j' f.time 0 ne') (v.l1 k j' hk h ne ak aj n))

    own_l2 : (j' : ℕ) → j' < f.config.servers → j' ≢ k → T (server_at f k).alive → f.time ≤ get_or times_now j' 0 + f.config.detection
    unfolding times_now
    own_l2 j' h ne ak =
        set_case (λ x. f.time ≤ x + f.config.detection) (notices_of f.notices k) j f.time 0 j' in_row (λ _. omega arith) (λ _. v.l2 k j' hk h ne ak)

    now : Server
    now = leading_with f.config k (clock f k) (server_at f k) set_now

    leads_now : (a : ℕ) → a < f.config.addresses → T (leads_at now a) → T (leads_after f.config k (clock f k) (server_at f k) set_now a)
    unfolding now leading_with
    leads_now a h t =
        rw (filled_at (leads_after f.config k (clock f k) (server_at f k) set_now) f.config.addresses (server_at f k).leads false a h (omega (arith, v.leads k hk, ok.addresses_high))) at t

    first_now : (a : ℕ) → a < f.config.addresses → T (leads_at now a) → T (is_first f.config.servers a k set_now)
    unfolding leads_after
    first_now a h t = and_l _ _ (leads_now a h t)

    -- it led before, or has waited now
    waited : (a : ℕ) → a < f.config.addresses → T (server_at f k).alive → T (leads_at now a) → (server_at f k).returned + lead_delay f.config ≤ clock f k
    unfolding leads_after
    waited a h ak t = or_elim (leads_at (server_at f k) a) _ (and_r _ _ (leads_now a h t)) (v.l3 k a hk h ak) (λ x. leb→le _ (clock f k) x)

    pub led_notice : Led order (effect f (notice k j says)).facade
    unfolding effect deed_of takes_out taken_out enacted server_after notices_after noticed leading_with set_now times_now now
    led_notice = replaced k now times_now (record {
      exists_i = hk;
      believed = length-set (server_at f k).believed j _ ∙ v.believed k hk;
      leads = length_filled _ _ (server_at f k).leads ∙ v.leads k hk;
      notices = length-set (notices_of f.notices k) j _ ∙ v.rows k hk;
      l1_own = own_l1;
      l1_about = λ k' h ne. v.l1 k' k h hk (λ e. ne (sym e));
      l2_own = own_l2;
      l3_own = waited;
      l4_own = v.l4 k hk;
      l5_own = λ j' a h ha _ t. o.first a k set_now (first_now a ha t) j' h;
    })

  -- pass
  module _ (d p : ℕ) (e : ℤ) (w : Kept f (pass d p e)) where
    pass_clock : (j : ℕ) → clock f j ≤ clock_reading (f.time + d) (get_or (set f.offsets p (offset_at f p +ℤ e)) j (pos 0))
    unfolding of_pass clock_allows
    pass_clock j =
        set_any (λ x. clock f j ≤ clock_reading (f.time + d) x) f.offsets p (offset_at f p +ℤ e) (pos 0) j
        (λ q. rw q (plus_mono f.time d (offset_at f p) e (and_l _ _ w.clocks)))
        (plus_later f.time d (offset_at f j))

    touch : (k j : ℕ) → k < f.config.servers → j < f.config.servers → j ≢ k → T (server_at f k).alive → f.time + d ≤ notice_at f k j + f.config.detection
    unfolding of_pass in_touch
    touch k j hk hj ne ak =
        or_elim (not (server_at f k).alive) _ (all_at _ f.config.servers w.touch k hk)
        (λ x. clash (server_at f k).alive ak x)
        (λ x. or_elim (eqb j k) _ (all_at _ f.config.servers x j hj) (λ q. absurd (ne (eqb→eq j k q))) (λ q. omega (arith, leb→le)))

    pub led_pass : Led order (effect f (pass d p e)).facade
    unfolding effect deed_of takes_out taken_out enacted lapse lapsed_at holds_ended
    led_pass = record {
      servers = v.servers;
      notices = v.notices;
      rows = v.rows;
      believed = v.believed;
      leads = v.leads;
      l1 = v.l1;
      l2 = touch;
      l3 = λ j a hj ha al le. omega (arith, v.l3 j a hj ha al le, pass_clock j);
      l4 = v.l4;
      l5 = v.l5;
    }

  -- a delivery: what a server does with a message leaves the part that leading is about
  led_handled : (ms : List Message) (n : ℕ) (m : Message) → Led order (handled (with_messages f ms n) m).facade
  unfolding delivered enacted server_after notices_after client_after next_after
  led_handled ms n m = cond_case (λ (d : Deed). Led order (enacted (with_messages f ms n) d).facade) (is_server f.config m.receiver) _ _
      (λ t. same_core m.receiver _ (ltb→lt m.receiver _ t) (core_received f.config m.receiver (clock f m.receiver) (server_at f m.receiver) m))
      (λ _. v)

  -- a step that is not refused
  pub led_kept : Orders f.config order → (x : Action) → Kept f x → Led order (effect f x).facade
  unfolding effect deed_of takes_out taken_out enacted server_after notices_after client_after next_after
  led_kept o (pass d p e) w = led_pass d p e w
  led_kept o (fail k) w = led_fail k w
  led_kept o (return k) w = led_return k w
  led_kept o (notice k j says) w = led_notice o k j says w
  led_kept o (discover i) w = v
  led_kept o (request i t) w = v
  led_kept o (renew i t) w = v
  led_kept o (deliver p keep) w = rw (deliver_is f p keep) (cond_case (λ h. Led order (handled h (message_at f p)).facade) (eqb keep 0) (without f p) f
      (λ _. led_handled (removed f.messages p f.waiting) (f.waiting - 1) (message_at f p)) (λ _. led_handled f.messages f.waiting (message_at f p)))
  led_kept o (lose p) w = v
  led_kept o (cleanup k) w = unfold exists cleaned in same_core k _ (ltb→lt k _ w.names) refl
  led_kept o unknown w = v

-- a fresh facade
pub led_fresh : (order : ℕ → ℕ → ℕ) (c : Config) → Configured c → Led order (fresh c)
unfolding fresh
led_fresh order c ok = record {
  servers = refl;
  notices = refl;
  rows = λ k h. rw (get_or-replicate 4 k (replicate {A = ℕ} 4 0) [] (omega (arith, ok.servers_high))) refl;
  believed = λ k h. of_fresh c ok (λ s. length s.believed ≡ 4) k h refl;
  leads = λ k h. of_fresh c ok (λ s. length s.leads ≡ 32) k h refl;
  l1 = λ k j _ _ _ _ _ _. omega (arith, none_heard k j, ok.detection_low);
  l2 = λ k j _ _ _ _. omega arith;
  l3 = λ j a h _. of_fresh c ok (λ s. L3 (lead_delay c) (clock (fresh c) j) a (core_of s)) j h (λ _ t. absurd (rep_false 32 a t));
  l4 = λ j h. of_fresh c ok (λ s. L4 c.skew (core_of s)) j h (λ _. omega arith);
  l5 = λ k j a h _ _. of_fresh c ok (λ s. L5 order k j a (core_of s)) k h (λ _ t. absurd (rep_false 32 a t));
}
