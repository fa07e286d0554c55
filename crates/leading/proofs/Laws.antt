-- One turn more of the loops, and what they make of a server.
use mathlib.Core.Path.{◌≡◌, refl, ap, ◌∙◌}
use mathlib.Core.Bool.{Bool, false}
use mathlib.Core.List.{List}
use Prim.Native.Nat.{ℕ, ◌+◌}
use native.Mathlib.Numerals.{add-one}
use lib.ListN.{set}
use Rattle.types.specs.declared.Config.{Config}
use Rattle.types.specs.declared.Server.{Server}
use Rattle.rules.specs.Conditions.{filled}
use Rattle.rules.specs.Parts.{leads_at, potlease_at, with_leading}
use Rattle.rules.proofs.Laws.{filled_ahead}
use Rattle.rules.specs.Server.{may_lead, raised, leads_after, record_after, leading_with}

-- server k with the set b, done for the addresses below n
pub led : Config → ℕ → ℕ → Server → List Bool → ℕ → Server
led c k r s b n = with_leading s b (filled (leads_after c k r s b) n s.leads) (filled (record_after c k r s b) n s.potlease)

module _ (c : Config) (k r : ℕ) (s : Server) (b : List Bool) where
  pub led_none : with_leading s b s.leads s.potlease ≡ led c k r s b 0
  unfolding led filled
  led_none = refl

  -- the address that comes next is as it was
  returned_still : (n : ℕ) (t : Server) → t ≡ led c k r s b n → t.returned ≡ s.returned
  unfolding led
  returned_still n t e = rw e

  leads_still : (n : ℕ) (t : Server) → t ≡ led c k r s b n → leads_at t n ≡ leads_at s n
  unfolding led
  leads_still n t e = rw e (filled_ahead _ n s.leads false)

  record_still : (n : ℕ) (t : Server) → t ≡ led c k r s b n → potlease_at t n ≡ potlease_at s n
  unfolding led
  record_still n t e = rw e (filled_ahead _ n s.potlease 0)

  -- as the code has it of the parts
  pub led_more : (n : ℕ) (t : Server) (l : Bool) (v : ℕ) → t ≡ led c k r s b n
      → l ≡ may_lead c k r t.returned (leads_at t n) b n → v ≡ raised c r (leads_at t n) l (potlease_at t n)
      → with_leading t t.believed (set t.leads n l) (set t.potlease n v) ≡ led c k r s b (n + 1)
  unfolding led filled leads_after record_after
  led_more n t l v e p q =
      let p' : l ≡ may_lead c k r s.returned (leads_at s n) b n = rw (returned_still n t e, leads_still n t e) at p in
      let q' : v ≡ raised c r (leads_at s n) l (potlease_at s n) = rw (leads_still n t e, record_still n t e) at q in
      rw (add-one, e, q', p')

  pub led_all : (n : ℕ) (t : Server) → n ≡ c.addresses → t ≡ led c k r s b n → t ≡ leading_with c k r s b
  unfolding led leading_with
  led_all n t h e = e ∙ ap (led c k r s b) h
