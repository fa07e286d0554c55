-- The refusals 4 and 5 of a script's steps are those of the facade's.
use mathlib.Core.Path.{◌≡◌, refl, sym}
use mathlib.Core.Bool.{Bool, true, false}
use mathlib.Core.List.{List}
use Prim.Native.Nat.{ℕ, suc, ◌<◌}
use native.Mathlib.Omega.{arith}
use lib.Dec.{T, eqb}
use Rattle.types.specs.declared.Deed.{Deed}
use Rattle.types.specs.declared.Deed.TheVariants.{Rests, Passes, Serves, Asks}
use Rattle.types.specs.declared.Facade.{Facade}
use Rattle.types.specs.declared.Step.{Step}
use Rattle.rules.specs.Answers.{Answer}
use Rattle.rules.specs.Conditions.{unless}
use Rattle.rules.specs.Ranges.{in_range}
use Rattle.rules.specs.Views.{whole}
use Rattle.rules.specs.Steps.{Action, action_of, is_known, fields_in_range, exists, state_allows, of_pass, time_left, clock_allows, in_touch, of_notice, is_credible, interaction_left, malformed, barred, broken, enacted, effect, has_room, refused, refusal, answer_to, step}
use Rattle.rules.proofs.Laws.{true_of, cond_case, unless_ok}
use Rattle.rules.proofs.Refusals.{first_malformed, refused_first}
use Rattle.script.specs.Layout.{step_refusal}
use Rattle.script.specs.Reading.{Decoded, Found, is_framed, decode, part, is_whole, record_at}

-- a refusal that is neither 4 nor 5
abbrev pub Other : ℕ → Type 0
Other n = (n ≡ 4 → ⊥) × (n ≡ 5 → ⊥)

other_below : (b : Bool) (n : ℕ) {below : ℕ} → 5 < n → Other below → Other (unless b n below)
unfolding unless
other_below true n h q = q
other_below false n h q = omega arith

enacted_accepted : (f : Facade) (d : Deed) → (enacted f d).refusal ≡ 0
unfolding enacted
enacted_accepted f Rests = refl
enacted_accepted f (Passes d p e) = refl
enacted_accepted f (Serves k e) = refl
enacted_accepted f (Asks i e) = refl

effect_accepted : (f : Facade) (x : Action) → (effect f x).refusal ≡ 0
unfolding effect
effect_accepted f x = enacted_accepted _ _

module _ (f : Facade) (s : Step) (t : T (in_range f)) where
  other_refusal : step_refusal s ≡ 0 → Other (refusal f (action_of s))
  unfolding refusal broken malformed barred unless
  other_refusal e =
      let x = action_of s in
      let k = unless_ok (is_known x) 4 _ (omega arith) e in
      let r = unless_ok (fields_in_range x) 5 _ (omega arith) k.1 in
      rw (true_of (in_range f) t, true_of (is_known x) k.0, true_of (fields_in_range x) r.0)
      (other_below (exists (whole f) x) 6 (omega arith)
      (other_below (state_allows (whole f) x) 7 (omega arith)
      (other_below (of_pass (time_left (whole f)) x) 8 (omega arith)
      (other_below (of_pass (clock_allows (whole f)) x) 9 (omega arith)
      (other_below (of_pass (in_touch (whole f)) x) 10 (omega arith)
      (other_below (of_notice (is_credible (whole f)) x) 11 (omega arith)
      (other_below (interaction_left (whole f) x) 12 (omega arith)
      (other_below (has_room (effect f x).facade.waiting) 13 (omega arith) (omega arith)))))))))

  other_answer : step_refusal s ≡ 0 → Other (step f s).refusal
  unfolding step answer_to
  other_answer e =
      let x = action_of s in
      cond_case (λ (a : Answer). Other a.refusal) (eqb (refusal f x) 0) (effect f x) (refused f (refusal f x))
      (λ t. rw (effect_accepted f x) (omega arith)) (λ t. other_refusal e)

  -- A step that a script may hold is not refused with 4 or 5, and one that it may not is refused with the number that reading gives.
  pub same_refusal : (step_refusal s ≡ 0 → Other (step f s).refusal) × ((n : ℕ) → step_refusal s ≡ suc n → step f s ≡ refused f (suc n))
  unfolding step
  same_refusal = (
    other_answer,
    λ n e. let nz : suc n ≡ 0 → ⊥ = λ h. omega (arith, h) in sym (refused_first f (action_of s) t (suc n) (first_malformed (whole f) (action_of s) (suc n) (sym e) nz) nz),
  )

-- The step that reading hands on has the refusal that reading gives, unless that is 3.
decoded_refusal : (r : List ℕ) → ((decode r).refusal ≡ 3 → ⊥) → (decode r).refusal ≡ step_refusal (decode r).step
unfolding decode
decoded_refusal r =
    cond_case (λ (d : Decoded). (d.refusal ≡ 3 → ⊥) → d.refusal ≡ step_refusal d.step) (is_framed r) _ _ (λ t n. refl) (λ t n. absurd (n refl))

pub record_refusal : (s : List ℕ) (p : ℕ) → ((record_at s p).refusal ≡ 3 → ⊥) → (record_at s p).refusal ≡ step_refusal (record_at s p).step
unfolding record_at
record_refusal s p =
    cond_case (λ (r : Found). (r.refusal ≡ 3 → ⊥) → r.refusal ≡ step_refusal r.step) (is_whole s p) _ _
    (λ t. decoded_refusal (part s p)) (λ t n. absurd (n refl))
