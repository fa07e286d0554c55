-- Fail, return, notice and cleanup keep every promise covered.
use mathlib.Core.Path.{◌≡◌, refl, ◌∙◌}
use mathlib.Core.Bool.{Bool, true, false, not, cond}
use mathlib.Core.List.{List}
use Prim.Native.Nat.{ℕ, ◌≤◌, ◌<◌}
use native.Mathlib.Nat.{le_refl}
use native.Mathlib.Omega.{arith}
use lib.Dec.{T, eqb, ltb→lt}
use lib.ListN.{length, get_or, set}
use Rattle.types.specs.declared.Server.{Server}
use Rattle.types.specs.declared.Message.{Message}
use Rattle.types.specs.declared.Outcome.TheVariants.{Done}
use Rattle.types.specs.declared.Facade.{Facade}
use Rattle.rules.specs.Conditions.{◌and◌, filled}
use Rattle.rules.specs.Parts.{no_write, server_at, clock, leads_at, potlease_at, with_life}
use Rattle.rules.specs.Messages.{nothing, send_all}
use Rattle.rules.specs.Server.{closed, leads_after, record_after, leading_with, noticed, kept_records, after_return, cleaned}
use Rattle.rules.specs.Steps.{fail, return, notice, cleanup, exists, deed_of, takes_out, taken_out, enacted, server_after, notices_after, effect}
use Rattle.rules.proofs.Laws.{inl, and_l, cond_case, rep_ind, rep_false, length_filled, filled_at, filled_any}
use Rattle.rules.proofs.Cable.{Waits, waits_unsent}
use Rattle.rules.proofs.Kept.{Configured, configured, Ranged, Kept}
use Rattle.rules.proofs.Leadership.{OneLeader, clock_low}
use Rattle.rules.proofs.Leases.{Basis, basis, Cov, OpenOk, sent, Leased, body_grows, served_by, Raised, served_grows, quiet, still}
use Rattle.rules.proofs.Granting.{silent}

-- nothing is covered by anything
pub cov_zero : (w : Basis) (a : ℕ) → Cov w a 0
cov_zero w a = record { led = λ j hj al le. omega arith; every = λ j hj. omega arith }

module _ (f : Facade) (g : Ranged f) (four : length f.servers ≡ 4) (len : length f.messages ≡ 128) (v : Leased (basis f)) where
  ok : Configured f.config
  ok = configured f.config g.config

  place : (k : ℕ) → k < f.config.servers → k < length f.servers
  place k h = omega (arith, ok.servers_high)

  -- where nothing is sent, what waits waited before
  unsent : (m : Message) → Waits (send_all f nothing) m → Waits f m
  unsent m p = waits_unsent f g.waiting len m p

  pub leased_fail : (k : ℕ) → Kept f (fail k) → Leased (basis (effect f (fail k)).facade)
  unfolding effect deed_of takes_out taken_out enacted server_after notices_after exists
  leased_fail k w =
      let hk : k < f.config.servers = ltb→lt k _ w.names in
      still (basis f) v k (with_life (server_at f k) false f.time) (Waits (send_all f nothing))
      (record { place = place k hk; row = v.rows k hk; up = λ a. le_refl _; lead = λ a e ha x. absurd x })
      hk (λ a. refl) (λ a. refl) (λ m p. v.acks m (unsent m p)) (λ m p i a e c. sent m (unsent m p) c)

  -- return: nothing is led or lent, and the records survive
  survive : (k a : ℕ) → potlease_at (server_at f k) a ≤ get_or (kept_records (server_at f k)) a 0
  survive k a = omega arith

  pub leased_return : (k : ℕ) → Kept f (return k) → Leased (basis (effect f (return k)).facade)
  unfolding effect deed_of takes_out taken_out enacted server_after notices_after exists after_return
  leased_return k w =
      let hk : k < f.config.servers = ltb→lt k _ w.names in
      let s : Server = with_life (after_return (clock f k) (server_at f k)).after true f.time in
      let raised : Raised (basis f) k s =
      record { place = place k hk; row = v.rows k hk; up = survive k; lead = λ a e ha _ t. absurd (rep_false 32 a t) } in
      let out = Waits (send_all f nothing) in
      quiet (basis f) v k s out raised
      (λ a ha. rep_ind (λ x. Cov (served_by (basis f) k s out) a x) 32 0 0 a (cov_zero _ a) (cov_zero _ a))
      (λ a ha. rep_ind (λ x. OpenOk (served_by (basis f) k s out) a x) 32 closed no_write a tt tt)
      (λ m p. body_grows (basis f) _ (served_grows (basis f) v k s out raised) m.sender m.body (v.acks m (unsent m p)))
      (λ m p i a e c. sent m (unsent m p) c)

  -- notice: on beginning to lead the record comes to cover every promise
  module _ (k : ℕ) (hk : k < f.config.servers) (b : List Bool) where
    after_up : (a : ℕ) → potlease_at (server_at f k) a ≤ record_after f.config k (clock f k) (server_at f k) b a
    unfolding record_after
    after_up a = cond_case (λ x. potlease_at (server_at f k) a ≤ x) (leads_after f.config k (clock f k) (server_at f k) b a and not (leads_at (server_at f k) a))
        _ _ (λ _. omega arith) (λ _. le_refl _)

    begins : (now was : Bool) (x y e : ℕ) → T now → (T was → e ≤ y) → e ≤ x → e ≤ cond (now and not was) x y
    unfolding ◌and◌
    begins true true x y e t old new = old tt
    begins true false x y e t old new = new
    begins false was x y e t old new = absurd t

    after_covers : (a e : ℕ) → T (server_at f k).alive → T (leads_after f.config k (clock f k) (server_at f k) b a) → Cov (basis f) a e
        → e ≤ record_after f.config k (clock f k) (server_at f k) b a
    unfolding record_after
    after_covers a e al t c =
        begins (leads_after f.config k (clock f k) (server_at f k) b a) (leads_at (server_at f k) a) _ _ e t (c.led k hk al)
        (omega (arith, c.every k hk, clock_low f g k (omega arith)))

    led_raised : length (server_at f k).leads ≡ 32 → Raised (basis f) k (leading_with f.config k (clock f k) (server_at f k) b)
    unfolding leading_with
    led_raised leads =
        let fits : (a : ℕ) → a < f.config.addresses → a < 32 = λ a ha. omega (arith, ok.addresses_high) in
        let recorded : (a : ℕ) → a < f.config.addresses → get_or (filled (record_after f.config k (clock f k) (server_at f k) b) f.config.addresses (server_at f k).potlease) a 0 ≡ record_after f.config k (clock f k) (server_at f k) b a
        = λ a ha. filled_at _ f.config.addresses (server_at f k).potlease 0 a ha (omega (arith, fits a ha, v.rows k hk)) in
        let led : (a : ℕ) → a < f.config.addresses → get_or (filled (leads_after f.config k (clock f k) (server_at f k) b) f.config.addresses (server_at f k).leads) a false ≡ leads_after f.config k (clock f k) (server_at f k) b a
        = λ a ha. filled_at _ f.config.addresses (server_at f k).leads false a ha (omega (arith, fits a ha)) in
        record {
          place = place k hk;
          row = length_filled _ _ (server_at f k).potlease ∙ v.rows k hk;
          up = λ a. filled_any (λ x. potlease_at (server_at f k) a ≤ x) _ f.config.addresses (server_at f k).potlease 0 a (λ _. after_up a) (le_refl _);
          lead = λ a e ha al t c. rw (recorded a ha) (after_covers a e al (rw (led a ha) at t) c);
        }

  pub leased_notice : (k j says : ℕ) → length (server_at f k).leads ≡ 32 → Kept f (notice k j says) → Leased (basis (effect f (notice k j says)).facade)
  unfolding effect deed_of takes_out taken_out enacted server_after notices_after exists noticed leading_with
  leased_notice k j says leads w =
      let hk : k < f.config.servers = ltb→lt k _ (and_l _ _ w.names) in
      let b : List Bool = set (server_at f k).believed j (eqb says 1) in
      still (basis f) v k (leading_with f.config k (clock f k) (server_at f k) b) (Waits (send_all f nothing)) (led_raised k hk b leads) hk (λ a. refl) (λ a. refl)
      (λ m p. v.acks m (unsent m p))
      (λ m p i a e c. sent m (unsent m p) c)

  pub leased_cleanup : OneLeader f → (k : ℕ) → Kept f (cleanup k) → Leased (basis (effect f (cleanup k)).facade)
  unfolding effect deed_of takes_out taken_out enacted server_after notices_after exists cleaned
  leased_cleanup one k w =
      let hk : k < f.config.servers = ltb→lt k _ w.names in
      silent f g four one v k hk (Waits (send_all f nothing)) _ Done (λ m p. inl (unsent m p))
