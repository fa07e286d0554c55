-- What a result says of the record that the definition finds at a place, for those who call `record_at`.
use mathlib.Core.Path.{◌≡◌, refl, sym}
use mathlib.Core.Bool.{Bool, true, false, not, cond}
use mathlib.Core.List.{List}
use Prim.Native.Nat.{ℕ, ◌+◌, ◌≤◌, ◌<◌}
use native.Mathlib.Omega.{arith}
use borrow.Author.Tests.{le-ltb, lt-ltb, ne_eqb}
use lib.Dec.{T, ltb, eqb→eq}
use lib.ListN.{length, get_or}
use Rattle.std.specs.Prelude.{Result, Ok, Err}
use Rattle.types.specs.declared.Refusal.TheVariants.{NoRecord}
use Rattle.types.specs.declared.Refused.{Refused}
use Rattle.types.specs.declared.Step.{Step}
use Rattle.rules.specs.Conditions.{◌and◌, unless}
use Rattle.rules.specs.Steps.{action_of, is_known, fields_in_range, malformed}
use Rattle.rules.proofs.Laws.{cond_case, not_eqb}
use Rattle.script.specs.declared.Record.{Record}
use Rattle.script.specs.Layout.{step_refusal}
use Rattle.script.specs.Reading.{Decoded, Found, no_step, step_in, is_framed, decode, part, is_whole, record_at, result_of, found_as}
use Rattle.script.proofs.Refusals.{record_refusal}

-- a step alone is refused with 4 or 5
not_3 : (known ranged : Bool) → unless known 4 (unless ranged 5 0) ≡ 3 → ⊥
unfolding unless
not_3 true true e = omega arith
not_3 true false e = omega arith
not_3 false ranged e = omega arith

pub step_not_3 : (s : Step) → step_refusal s ≡ 3 → ⊥
unfolding malformed
step_not_3 s e = not_3 (is_known (action_of s)) (fields_in_range (action_of s)) e

-- refusal 3 beside the place behind
abbrev pub none_before : ℕ → Refused ℕ
none_before next = record { refusal = NoRecord; beside = next }

by_none : (b : Bool) (r : Record) (y : Refused ℕ) {x : Refused ℕ} → ◌≡◌ {A = Result Record (Refused ℕ)} (Err x) (cond b (Err y) (Ok r)) → T b × (x ≡ y)
by_none true r y e = (tt, cc)
by_none false r y e = (cc, cc)

by_one : (b : Bool) (y : Refused ℕ) {r r₁ : Record} → ◌≡◌ {A = Result Record (Refused ℕ)} (Ok r) (cond b (Err y) (Ok r₁)) → T (not b) × (r ≡ r₁)
by_one true y e = (cc, cc)
by_one false y e = (tt, cc)

nowhere : (b : Bool) → (b and false) ≡ false
unfolding ◌and◌
nowhere true = refl
nowhere false = refl

by_frame : (b : Bool) (x : Step) (next : ℕ)
    → let d : Decoded = cond b (record { refusal = step_refusal x; step = x }) (record { refusal = 3; step = no_step }) in
    result_of (record { refusal = d.refusal; step = d.step; next = next }) ≡ cond b (Ok (record { step = x; next = next })) (Err (none_before next))
unfolding result_of
by_frame true x next = rw (ne_eqb (step_refusal x) 3 (step_not_3 x))
by_frame false x next = refl

-- of what is not framed no step is answered
no_frame : (b : Bool) (x : Step) → (cond {A = Decoded} b (record { refusal = step_refusal x; step = x }) (record { refusal = 3; step = no_step })).refusal ≡ 3
    → (cond {A = Decoded} b (record { refusal = step_refusal x; step = x }) (record { refusal = 3; step = no_step })).step ≡ no_step
no_frame true x e = absurd (step_not_3 x e)
no_frame false x e = refl

module _ (s : List ℕ) (p : ℕ) where
  -- a refusal: it is 3, beside the place behind
  pub none_at : {x : Refused ℕ} → Err x ≡ result_of (record_at s p) → (x ≡ none_before (record_at s p).next) × ((record_at s p).refusal ≡ 3)
  unfolding result_of
  none_at e =
      let o = by_none _ _ _ e in
      (o.1, eqb→eq (record_at s p).refusal 3 o.0)

  -- a record: that is what is found, with the refusal of its step, which is not 3 (`step_not_3`)
  pub one_at : {r : Record} → Ok r ≡ result_of (record_at s p) → record_at s p ≡ record { refusal = step_refusal r.step; step = r.step; next = r.next }
  unfolding result_of
  one_at e =
      let o = by_one _ _ e in
      rw (o.1, ← record_refusal s p (not_eqb (record_at s p).refusal 3 o.0))

  -- by the two tests, of its end and of its frame
  pub outside : length s ≤ p + get_or s p 0 → result_of (record_at s p) ≡ Err (none_before (length s))
  unfolding record_at result_of ◌and◌
  outside h = rw (le-ltb (p + get_or s p 0) (length s) h, nowhere (ltb p (length s)))

  pub inside : p + get_or s p 0 < length s
      → result_of (record_at s p) ≡ cond (is_framed (part s p)) (Ok (record { step = step_in (part s p); next = p + 1 + get_or s p 0 })) (Err (none_before (p + 1 + get_or s p 0)))
  unfolding record_at decode result_of ◌and◌
  inside h =
      rw (lt-ltb p (length s) (omega arith), lt-ltb (p + get_or s p 0) (length s) h)
      (by_frame (is_framed (part s p)) (step_in (part s p)) (p + 1 + get_or s p 0))

  no_step_found : (record_at s p).refusal ≡ 3 → (record_at s p).step ≡ no_step
  unfolding record_at decode
  no_step_found =
      cond_case (λ (x : Found). x.refusal ≡ 3 → x.step ≡ no_step) (is_whole s p) _ _
      (λ t. no_frame (is_framed (part s p)) (step_in (part s p)))
      (λ t e. refl)

  -- either way the result says what is found
  pub all_said : (y : Result Record (Refused ℕ)) → y ≡ result_of (record_at s p) → found_as y ≡ record_at s p
  all_said (Ok r) e = sym (one_at e)
  all_said (Err x) e = let o = none_at e in rw (o.0, ← o.1, ← no_step_found o.1)

  -- what the bytes behind the length byte n say is found
  pub ok_said : (x : Step) (n : ℕ) → n ≡ get_or s p 0 → p + n < length s → record { refusal = step_refusal x; step = x } ≡ decode (part s p)
      → record { refusal = step_refusal x; step = x; next = p + 1 + n } ≡ record_at s p
  unfolding record_at ◌and◌
  ok_said x n e h q = rw (e, lt-ltb p (length s) (omega (arith, h)), lt-ltb (p + get_or s p 0) (length s) (omega (arith, e, h)), ← q)
