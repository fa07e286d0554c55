-- The refusals from the top: what a step answers, by the first rule that it breaks.
use mathlib.Core.Path.{◌≡◌, refl}
use mathlib.Core.Bool.{Bool, true, false, cond}
use Prim.Native.Nat.{ℕ, suc}
use native.Mathlib.Omega.{arith}
use borrow.Author.Tests.{ne_eqb}
use lib.Dec.{T, eqb}
use Rattle.types.specs.declared.Facade.{Facade}
use Rattle.types.specs.declared.Refusal.{Refusal}
use Rattle.types.specs.declared.Refusal.TheVariants.{NoScript, OutOfRange, NoRecord, UnknownKind, FieldOutOfRange, DoesNotExist, WrongState, NoTimeLeft, ClockOff, OutOfTouch, NotCredible, NoInteractionLeft, Full}
use Rattle.types.specs.Numbers.{refusal_number}
use Rattle.rules.specs.Conditions.{unless}
use Rattle.rules.specs.Views.{View, whole}
use Rattle.rules.specs.Ranges.{in_range}
use Rattle.rules.specs.Steps.{Action, is_known, fields_in_range, exists, state_allows, of_pass, time_left, clock_allows, in_touch, of_notice, is_credible, interaction_left, malformed, barred, broken, effect, full, refused, refusal, unless_refused, answer_to}
use Rattle.rules.proofs.Laws.{true_of}

-- a rule and what comes below it, where something may come below that
over : (b : Bool) (k r below n : ℕ) → r ≡ cond (eqb below 0) n below → unless b (suc k) r ≡ cond (eqb (unless b (suc k) below) 0) n (unless b (suc k) below)
unfolding unless
over true k r below n e = e
over false k r below n e = rw (ne_eqb (suc k) 0 (λ h. omega (arith, h)))

-- the rules 4 and 5 and what comes below them
malformed_over : (x : Action) (r below n : ℕ) → r ≡ cond (eqb below 0) n below → malformed x r ≡ cond (eqb (malformed x below) 0) n (malformed x below)
unfolding malformed
malformed_over x r below n e = over (is_known x) 3 _ _ n (over (fields_in_range x) 4 r below n e)

-- the rules 4 to 12 and what comes below them
broken_over : (v : View) (x : Action) (n : ℕ) → broken v x n ≡ cond (eqb (broken v x 0) 0) n (broken v x 0)
unfolding broken barred
broken_over v x n =
    malformed_over x _ _ n (over (exists v x) 5 _ _ n (over (state_allows v x) 6 _ _ n (over (of_pass (time_left v) x) 7 _ _ n
    (over (of_pass (clock_allows v) x) 8 _ _ n (over (of_pass (in_touch v) x) 9 _ _ n (over (of_notice (is_credible v) x) 10 _ _ n (over (interaction_left v x) 11 n 0 n refl)))))))

-- what a step alone breaks comes first
module _ (v : View) (x : Action) where
  pub first_malformed : (n : ℕ) → n ≡ malformed x 0 → (n ≡ 0 → ⊥) → n ≡ broken v x 0
  unfolding broken
  first_malformed n e h = rw (malformed_over x (barred v x 0) 0 (barred v x 0) refl, ← e, ne_eqb n 0 h)

  -- and then the rules below
  pub then_barred : (a : Action) → a ≡ x → malformed a 0 ≡ 0 → (r : ℕ) → r ≡ barred v x 0 → r ≡ broken v a 0
  unfolding broken
  then_barred a e m r q = rw (e, malformed_over x (barred v x 0) 0 (barred v x 0) refl, rw e at m) q

module _ (f : Facade) (x : Action) where
  pub refused_2 : in_range f ≡ false → refused f 2 ≡ answer_to f x
  unfolding answer_to refusal unless
  refused_2 e = rw e

  module _ (t : T (in_range f)) where
    pub refused_first : (n : ℕ) → n ≡ broken (whole f) x 0 → (n ≡ 0 → ⊥) → refused f n ≡ answer_to f x
    unfolding answer_to refusal unless
    refused_first n e h = rw (true_of (in_range f) t, broken_over (whole f) x (full (effect f x).facade), ← e, ne_eqb n 0 h, ne_eqb n 0 h)

    -- refusal 13 comes last, and is tested on the effect
    pub unless_full_lem : broken (whole f) x 0 ≡ 0 → unless_refused f (full (effect f x).facade) (effect f x) ≡ answer_to f x
    unfolding answer_to refusal unless
    unless_full_lem e = rw (true_of (in_range f) t, broken_over (whole f) x (full (effect f x).facade), e)

-- the number of a refusal is not 0
pub is_some_refusal : (x : Refusal) → refusal_number x ≡ 0 → ⊥
is_some_refusal NoScript e = omega (arith, e)
is_some_refusal OutOfRange e = omega (arith, e)
is_some_refusal NoRecord e = omega (arith, e)
is_some_refusal UnknownKind e = omega (arith, e)
is_some_refusal FieldOutOfRange e = omega (arith, e)
is_some_refusal DoesNotExist e = omega (arith, e)
is_some_refusal WrongState e = omega (arith, e)
is_some_refusal NoTimeLeft e = omega (arith, e)
is_some_refusal ClockOff e = omega (arith, e)
is_some_refusal OutOfTouch e = omega (arith, e)
is_some_refusal NotCredible e = omega (arith, e)
is_some_refusal NoInteractionLeft e = omega (arith, e)
is_some_refusal Full e = omega (arith, e)
