-- What holds after any list of steps from a fresh facade, and what it says of holders, leaders and records.
use mathlib.Core.Path.{◌≡◌, refl, sym, ◌∙◌, subst}
use mathlib.Core.List.{List, [], ◌∷◌}
use Prim.Native.Nat.{ℕ, ◌≤◌, ◌<◌}
use native.Mathlib.Omega.{arith}
use native.Mathlib.Decide.{ℕ_discrete}
use lib.Dec.{T, eqb, ltb→lt, eqb→eq}
use lib.ListN.{length, get_or, replicate}
use Rattle.types.specs.declared.Config.{Config}
use Rattle.types.specs.declared.State.TheVariants.{Idle, Holding}
use Rattle.types.specs.declared.Message.{Message}
use Rattle.types.specs.declared.Facade.{Facade}
use Rattle.types.specs.declared.Step.{Step}
use Rattle.rules.specs.Answers.{Answer}
use Rattle.rules.specs.Parts.{no_write, no_client, server_at, state_at, message_at, client_party, leads_at, lent_at, potlease_at, write_at}
use Rattle.rules.specs.Ranges.{config_in_range, state_in_range, in_range, is_server}
use Rattle.rules.specs.Order.{rank}
use Rattle.rules.specs.Messages.{without}
use Rattle.rules.specs.Server.{closed}
use Rattle.rules.specs.Steps.{Action, pass, fail, return, notice, discover, request, renew, deliver, lose, cleanup, unknown, fresh, action_of, lapse, delivered, deed_of, takes_out, taken_out, enacted, effect, refusal, answer_to, step, run, holds_ended, lapsed_at}
use Rattle.rules.proofs.Laws.{and_l, cond_case, rep_ind}
use Rattle.types.specs.declared.Deed.{Deed}
use Rattle.rules.proofs.Kept.{handled, taken_if, deliver_is, of_fresh, Configured, configured, Ranged, ranged, Kept, kept}
use Rattle.rules.proofs.Ranges.{in_range_kept, messages_kept, fresh_in_range}
use Rattle.rules.proofs.Leadership.{round, Led, one_leader, clock_low, led_kept, led_fresh}
use Rattle.rules.proofs.Leases.{basis, Cov, Claim, holds, sent, OpenOk, Leased}
use Rattle.rules.proofs.Serving.{cov_zero}
use Rattle.rules.proofs.Delivery.{leased_kept}

pub record Invariant (f : Facade) : Type 0 where
  pub range : T (in_range f)
  pub messages : length f.messages ≡ 128
  pub led : Led (rank f.config.servers) f
  pub leased : Leased (basis f)

-- The configuration stays.

config_handled : (f : Facade) (m : Message) → (handled f m).facade.config ≡ f.config
unfolding delivered enacted
config_handled f m = cond_case (λ (d : Deed). (enacted f d).facade.config ≡ f.config) (is_server f.config m.receiver) _ _ (λ _. refl) (λ _. refl)

config_effect : (f : Facade) (x : Action) → (effect f x).facade.config ≡ f.config
unfolding effect deed_of takes_out taken_out enacted lapse lapsed_at holds_ended
config_effect f (pass d p e) = refl
config_effect f (fail k) = refl
config_effect f (return k) = refl
config_effect f (notice k j says) = refl
config_effect f (discover i) = refl
config_effect f (request i t) = refl
config_effect f (renew i t) = refl
config_effect f (deliver p keep) =
    rw (deliver_is f p keep) (config_handled (taken_if f p keep) (message_at f p)) ∙ cond_case (λ (y : Facade). y.config ≡ f.config) (eqb keep 0) (without f p) f (λ _. refl) (λ _. refl)
config_effect f (lose p) = refl
config_effect f (cleanup k) = refl
config_effect f unknown = refl

config_step : (f : Facade) (s : Step) → (step f s).facade.config ≡ f.config
unfolding step answer_to
config_step f s = cond_case (λ (y : Answer). y.facade.config ≡ f.config) (eqb (refusal f (action_of s)) 0) _ _ (λ _. config_effect f (action_of s)) (λ _. refl)

config_run : (f : Facade) (ss : List Step) → (run f ss).config ≡ f.config
unfolding run
config_run f [] = refl
config_run f (s ∷ ss) = config_run (step f s).facade ss ∙ config_step f s

pub config_stays : (c : Config) (ss : List Step) → (run (fresh c) ss).config ≡ c
unfolding fresh
config_stays c ss = config_run (fresh c) ss

-- What it says.

module _ (f : Facade) (v : Invariant f) where
  g : Ranged f
  g = ranged f v.range

  ok : Configured f.config
  ok = configured f.config g.config

  pub one_leads : (j k a : ℕ) → j < f.config.servers → k < f.config.servers → a < f.config.addresses
      → T (server_at f j).alive → T (server_at f k).alive → T (leads_at (server_at f j) a) → T (leads_at (server_at f k) a) → j ≡ k
  one_leads = one_leader (rank f.config.servers) f (round f.config ok) g v.led

  -- a held address exists
  held_exists : (i a e q : ℕ) → i < f.config.clients → state_at f i ≡ Holding a e q → a < f.config.addresses
  unfolding state_in_range
  held_exists i a e q hi h = ltb→lt a f.config.addresses (and_l _ _ (rw h at (g.client i hi)))

  pub one_holds : (i j a e e' q q' : ℕ) → i < f.config.clients → j < f.config.clients → state_at f i ≡ Holding a e q → state_at f j ≡ Holding a e' q' → i ≡ j
  one_holds i j a e e' q q' hi hj h h' = go (ℕ_discrete i j)
    where
      go : Dec (i ≡ j) → i ≡ j
      go (yes p) = p
      go (no ne) =
          absurd (omega (
            arith,
            v.leased.pair i a e j e' (held_exists i a e q hi h) (holds q hi h) (holds q' hj h') ne,
            v.leased.above i a e q hi h,
            v.leased.above j a e' q' hj h',
            clock_low f g (client_party f.config i) (omega arith),
            clock_low f g (client_party f.config j) (omega arith),
          ))

  pub recorded : (i k a e q : ℕ) → i < f.config.clients → k < f.config.servers → state_at f i ≡ Holding a e q
      → T (server_at f k).alive → T (leads_at (server_at f k) a) → e ≤ potlease_at (server_at f k) a
  recorded i k a e q hi hk h al le = (v.leased.claims i a e (held_exists i a e q hi h) (holds q hi h)).led k hk al le

  -- It is kept by every step.

  kept_effect : (x : Action) → refusal f x ≡ 0 → Invariant (effect f x).facade
  kept_effect x e =
      let w : Kept f x = kept f x e in
      record {
        range = in_range_kept f x v.messages e;
        messages = messages_kept f x v.messages e;
        led = subst (λ (c : Config). Led (rank c.servers) (effect f x).facade) (sym (config_effect f x)) (led_kept (rank f.config.servers) f g v.led (round f.config ok) x w);
        leased = leased_kept f g v.led.servers v.messages one_leads v.leased v.led.leads x w;
      }

  pub kept_step : (s : Step) → Invariant (step f s).facade
  unfolding step answer_to
  kept_step s = cond_case (λ (y : Answer). Invariant y.facade) (eqb (refusal f (action_of s)) 0) _ _ (λ t. kept_effect (action_of s) (eqb→eq _ _ t)) (λ _. v)

kept_run : (f : Facade) (ss : List Step) → Invariant f → Invariant (run f ss)
unfolding run
kept_run f [] v = v
kept_run f (s ∷ ss) v = kept_run (step f s).facade ss (kept_step f v s)

-- A fresh facade.

none_held : {X : Type 0} (i a e q : ℕ) → (get_or (replicate 32 no_client) i no_client).state ≡ Holding a e q → X
none_held {X} i a e q = rep_ind (λ x. x.state ≡ Holding a e q → X) 32 no_client no_client i never never
  where
    never : Idle ≡ Holding a e q → X
    never p = let z : ◌≡◌ {A = ℕ} 0 1 = cc in absurd (omega arith)

no_claim : {X : Type 0} (c : Config) (i a e : ℕ) → Claim (basis (fresh c)) i a e → X
unfolding fresh
no_claim c i a e (holds q h p) = none_held i a e q p
no_claim c i a e (sent m p s) = absurd (omega (arith, p.below))

leased_fresh : (c : Config) → Configured c → Leased (basis (fresh c))
unfolding fresh
leased_fresh c ok = record {
  rows = λ k h. of_fresh c ok (λ s. length s.potlease ≡ 32) k h refl;
  claims = λ i a e ha x. no_claim c i a e x;
  lents = λ k a h ha. of_fresh c ok (λ s. Cov (basis (fresh c)) a (lent_at s a)) k h (rep_ind (λ x. Cov (basis (fresh c)) a x) 32 0 0 a (cov_zero _ a) (cov_zero _ a));
  opens = λ k a h ha. of_fresh c ok (λ s. OpenOk (basis (fresh c)) a (write_at s a)) k h (rep_ind (λ x. OpenOk (basis (fresh c)) a x) 32 closed no_write a tt tt);
  acks = λ m p. absurd (omega (arith, p.below));
  pair = λ i a e i' e' ha x y ne. no_claim c i a e x;
  above = λ i a e q h p. none_held i a e q p;
}

invariant_fresh : (c : Config) → T (config_in_range c) → Invariant (fresh c)
unfolding fresh
invariant_fresh c t = record {
  range = fresh_in_range c t;
  messages = refl;
  led = led_fresh _ c (configured c t);
  leased = leased_fresh c (configured c t);
}

-- after any list of steps
pub invariant : (c : Config) → T (config_in_range c) → (ss : List Step) → Invariant (run (fresh c) ss)
invariant c t ss = kept_run (fresh c) ss (invariant_fresh c t)
