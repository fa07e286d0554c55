-- What a test that passed says: the ranges of a facade, and the rules that a step has kept.
use mathlib.Core.Path.{◌≡◌, refl}
use mathlib.Core.Bool.{Bool, true, false, cond}
use mathlib.Core.Logic.{◌≢◌}
use mathlib.Core.List.{List, []}
use Prim.Native.Nat.{ℕ, ◌+◌, ◌≤◌, ◌<◌}
use native.Mathlib.Omega.{arith}
use native.Mathlib.Decide.{ℕ_discrete}
use lib.ListN.{get_or, replicate, get_or-replicate}
use borrow.Author.Tests.{ltb-true}
use lib.Dec.{T, leb, ltb, eqb, leb→le, le→leb, ltb→lt, eqb→eq, eqb_refl}
use Rattle.types.specs.declared.Reservation.{Reservation}
use Rattle.types.specs.declared.Server.{Server}
use Rattle.types.specs.declared.Body.{Body}
use Rattle.types.specs.declared.Body.TheVariants.{Empty, Discover, Offer, Request, Renew, Write, WriteAck, Ack}
use Rattle.types.specs.declared.Message.{Message}
use Rattle.types.specs.declared.Facade.{Facade}
use Rattle.rules.specs.Conditions.{is_within}
use Rattle.rules.specs.Parts.{no_server, parties, server_at, state_at, message_at, offset_at, notice_in, notice_at}
use Rattle.rules.specs.Answers.{Answer}
use Rattle.std.specs.Prelude.{Option}
use Rattle.types.specs.declared.Config.{Config}
use Rattle.rules.specs.Messages.{without_if}
use Rattle.rules.specs.Views.{whole}
use Rattle.rules.specs.Ranges.{config_in_range, offset_in_range, server_in_range, notice_in_range, state_in_range, body_in_range, message_in_range, in_range, last_time, last_interaction, most_waiting}
use Rattle.rules.specs.Server.{lowest_offerable, address_for}
use Rattle.rules.specs.Steps.{fresh_server, Action, deliver, delivered, deed_of, takes_out, position, taken_out, enacted, is_known, fields_in_range, exists, state_allows, of_pass, time_left, clock_allows, in_touch, of_notice, is_credible, interaction_left, effect, broken, refusal, malformed, barred}
use Rattle.rules.proofs.Laws.{and_l, and_r, and_both, or_elim, or_l, or_r, within_low, within_high, unless_ok, all_at, all_by, rep_ind}
use Rattle.rules.proofs.Cable.{Waits}

-- A configuration in range.

pub record Configured (c : Config) : Type 0 where
  pub servers_low : 2 ≤ c.servers
  pub servers_high : c.servers ≤ 4
  pub clients_low : 1 ≤ c.clients
  pub clients_high : c.clients ≤ 32
  pub addresses_low : 1 ≤ c.addresses
  pub addresses_high : c.addresses ≤ 32
  pub skew_high : c.skew ≤ 1000
  pub detection_low : 1 ≤ c.detection
  pub detection_high : c.detection ≤ 10000
  pub mclt_low : 1 ≤ c.mclt
  pub mclt_high : c.mclt ≤ 1000000
  pub retention_high : c.retention ≤ 1000000

pub configured : (c : Config) → T (config_in_range c) → Configured c
unfolding config_in_range
configured c t =
    let t₂ = and_r _ _ t in let t₃ = and_r _ _ t₂ in let t₄ = and_r _ _ t₃ in let t₅ = and_r _ _ t₄ in let t₆ = and_r _ _ t₅ in
    record {
      servers_low = within_low _ _ _ (and_l _ _ t);
      servers_high = within_high _ _ _ (and_l _ _ t);
      clients_low = within_low _ _ _ (and_l _ _ t₂);
      clients_high = within_high _ _ _ (and_l _ _ t₂);
      addresses_low = within_low _ _ _ (and_l _ _ t₃);
      addresses_high = within_high _ _ _ (and_l _ _ t₃);
      skew_high = leb→le _ _ (and_l _ _ t₄);
      detection_low = within_low _ _ _ (and_l _ _ t₅);
      detection_high = within_high _ _ _ (and_l _ _ t₅);
      mclt_low = within_low _ _ _ (and_l _ _ t₆);
      mclt_high = within_high _ _ _ (and_l _ _ t₆);
      retention_high = leb→le _ _ (and_r _ _ t₆);
    }

-- what holds of a fresh server holds of each server of a fresh facade
pub of_fresh : (c : Config) → Configured c → (P : Server → Type 0) (k : ℕ) → k < c.servers → P fresh_server → P (get_or (replicate 4 fresh_server) k no_server)
of_fresh c ok P k h p = rw (get_or-replicate 4 k fresh_server no_server (omega (arith, ok.servers_high))) p

-- nobody has had a notice in a fresh facade
pub none_heard : (k j : ℕ) → notice_in (replicate 4 (replicate 4 0)) k j ≡ 0
none_heard k j = rep_ind (λ row. get_or row j 0 ≡ 0) 4 (replicate 4 0) [] k (rep_ind (λ t. t ≡ 0) 4 0 0 j refl refl) refl

-- A facade in range: the same as the test, part by part.

pub record Ranged (f : Facade) : Type 0 where
  pub config : T (config_in_range f.config)
  pub time : f.time ≤ last_time
  pub next_low : 1 ≤ f.next
  pub next_high : f.next ≤ last_interaction + 1
  pub waiting : f.waiting ≤ most_waiting
  pub offset : (p : ℕ) → p < parties f.config → T (offset_in_range f.config f.time (offset_at f p))
  pub server : (k : ℕ) → k < f.config.servers → T (server_in_range f.config f.time f.next (server_at f k))
  pub notice : (k j : ℕ) → k < f.config.servers → j < f.config.servers → j ≢ k → notice_at f k j ≤ f.time
  pub client : (i : ℕ) → i < f.config.clients → T (state_in_range f.config f.next (state_at f i))
  pub message : (m : Message) → Waits f m → T (message_in_range f.config f.next m)

notice_of : (t k j h : ℕ) → T (notice_in_range t k j h) → j ≢ k → h ≤ t
unfolding notice_in_range
notice_of t k j h x ne = or_elim (eqb j k) (leb h t) x (λ e. absurd (ne (eqb→eq j k e))) (leb→le h t)

to_notice : (t k j h : ℕ) → (j ≢ k → h ≤ t) → Dec (j ≡ k) → T (notice_in_range t k j h)
unfolding notice_in_range
to_notice t k j h x (yes e) = or_l (eqb j k) _ (rw e (eqb_refl k))
to_notice t k j h x (no ne) = or_r (eqb j k) (leb h t) (le→leb h t (x ne))

pub ranged : (f : Facade) → T (in_range f) → Ranged f
unfolding in_range
ranged f t =
    let t₂ = and_r _ _ t in let t₃ = and_r _ _ t₂ in let t₄ = and_r _ _ t₃ in let t₅ = and_r _ _ t₄ in
    let t₆ = and_r _ _ t₅ in let t₇ = and_r _ _ t₆ in let t₈ = and_r _ _ t₇ in
    record {
      config = and_l _ _ t;
      time = leb→le f.time last_time (and_l _ _ t₂);
      next_low = within_low _ _ _ (and_l _ _ t₃);
      next_high = within_high _ _ _ (and_l _ _ t₃);
      waiting = leb→le f.waiting most_waiting (and_l _ _ t₄);
      offset = all_at _ _ (and_l _ _ t₅);
      server = all_at _ _ (and_l _ _ t₆);
      notice = λ k j h h'. notice_of f.time k j _ (all_at _ _ (all_at _ _ (and_l _ _ t₇) k h) j h');
      client = all_at _ _ (and_l _ _ t₈);
      message = λ m x. rw x.is at (all_at (λ p. message_in_range f.config f.next (message_at f p)) f.waiting (and_r _ _ t₈) x.at x.below);
    }

pub in_range_lem : (f : Facade) → Ranged f → T (in_range f)
unfolding in_range is_within
in_range_lem f v =
    and_both (config_in_range f.config) _ v.config
    (and_both (leb f.time last_time) _ (le→leb f.time last_time v.time)
    (and_both _ _ (and_both (leb 1 f.next) _ (le→leb 1 f.next v.next_low) (le→leb f.next (last_interaction + 1) v.next_high))
    (and_both (leb f.waiting most_waiting) _ (le→leb f.waiting most_waiting v.waiting)
    (and_both _ _ (all_by _ _ v.offset)
    (and_both _ _ (all_by _ _ v.server)
    (and_both _ _ (all_by _ _ (λ k h. all_by _ _ (λ j h'. to_notice f.time k j _ (v.notice k j h h') (ℕ_discrete j k))))
    (and_both _ _ (all_by _ _ v.client)
    (all_by _ _ (λ p h. v.message (message_at f p) (record { at = p; below = h; is = refl }))))))))))

-- The address that a message in range is about is one of the addresses.
found_low : (n m : ℕ) (b : Bool) → 1 ≤ m → ltb n m ≡ b → cond b n 0 < m
found_low n m true h e = ltb-true n m e
found_low n m false h e = omega arith

module _ (c : Config) (ok : Configured c) (from to r : ℕ) (leads : List Bool) (reserved : List (Option Reservation)) (records : List ℕ) where
  pub address_low : (x : Body) → T (body_in_range c from to x) → address_for c r leads reserved records x < c.addresses
  unfolding body_in_range address_for lowest_offerable
  address_low Empty t = absurd t
  address_low Discover t = found_low _ _ _ ok.addresses_low refl
  address_low (Offer a) t = ltb→lt a _ (and_r _ _ (and_r _ _ t))
  address_low (Request a w) t = ltb→lt a _ (and_l _ _ (and_r _ _ (and_r _ _ t)))
  address_low (Renew a e w) t = ltb→lt a _ (and_l _ _ (and_r _ _ (and_r _ _ t)))
  address_low (Write a v) t = ltb→lt a _ (and_l _ _ (and_r _ _ (and_r _ _ t)))
  address_low (WriteAck a v) t = ltb→lt a _ (and_l _ _ (and_r _ _ (and_r _ _ t)))
  address_low (Ack a e) t = ltb→lt a _ (and_l _ _ (and_r _ _ (and_r _ _ t)))

  pub address_place : (a : ℕ) (x : Body) → a ≡ address_for c r leads reserved records x → T (body_in_range c from to x) → a < 32
  address_place a x e t = rw e (omega (arith, ok.addresses_high, address_low x t))

-- A delivery: the message is handled in the facade that it was taken out of.

abbrev pub handled : Facade → Message → Answer
handled f m = enacted f (delivered f.config m)

abbrev pub taken_if : Facade → ℕ → ℕ → Facade
taken_if f p keep = without_if f p (eqb keep 0)

pub deliver_is : (f : Facade) (p keep : ℕ) → effect f (deliver p keep) ≡ handled (taken_if f p keep) (message_at f p)
unfolding effect deed_of takes_out position taken_out
deliver_is f p keep = go (eqb keep 0) where
  go : (b : Bool) → enacted (without_if f p b) (delivered f.config (message_at f p)) ≡ handled (without_if f p b) (message_at f p)
  go true = refl
  go false = refl

-- A step that is not refused has kept every rule.

pub record Kept (f : Facade) (x : Action) : Type 0 where
  pub range : T (in_range f)
  pub known : T (is_known x)
  pub fields : T (fields_in_range x)
  pub names : T (exists (whole f) x)
  pub state : T (state_allows (whole f) x)
  pub time : T (of_pass (time_left (whole f)) x)
  pub clocks : T (of_pass (clock_allows (whole f)) x)
  pub touch : T (of_pass (in_touch (whole f)) x)
  pub timely : T (of_notice (is_credible (whole f)) x)
  pub fresh_interaction : T (interaction_left (whole f) x)
  pub room : (effect f x).facade.waiting ≤ most_waiting

pub kept : (f : Facade) (x : Action) → refusal f x ≡ 0 → Kept f x
unfolding refusal broken malformed barred
kept f x e =
    let t₂ = unless_ok _ _ _ (omega arith) e in
    let t₄ = unless_ok _ _ _ (omega arith) t₂.1 in
    let t₅ = unless_ok _ _ _ (omega arith) t₄.1 in
    let t₆ = unless_ok _ _ _ (omega arith) t₅.1 in
    let t₇ = unless_ok _ _ _ (omega arith) t₆.1 in
    let t₈ = unless_ok _ _ _ (omega arith) t₇.1 in
    let t₉ = unless_ok _ _ _ (omega arith) t₈.1 in
    let t₁₀ = unless_ok _ _ _ (omega arith) t₉.1 in
    let t₁₁ = unless_ok _ _ _ (omega arith) t₁₀.1 in
    let t₁₂ = unless_ok _ _ _ (omega arith) t₁₁.1 in
    let t₁₃ = unless_ok _ _ _ (omega arith) t₁₂.1 in
    record {
      range = t₂.0;
      known = t₄.0;
      fields = t₅.0;
      names = t₆.0;
      state = t₇.0;
      time = t₈.0;
      clocks = t₉.0;
      touch = t₁₀.0;
      timely = t₁₁.0;
      fresh_interaction = t₁₂.0;
      room = leb→le _ most_waiting t₁₃.0;
    }
