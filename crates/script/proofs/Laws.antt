-- Laws of the layout.
use mathlib.Core.Path.{◌≡◌, refl, sym, ap, ◌∙◌}
use mathlib.Core.Bool.{Bool, true, false, not}
use mathlib.Core.List.{List}
use Prim.Native.Nat.{ℕ, ◌≤◌}
use native.Mathlib.Omega.{arith}
use Rattle.std.specs.Prelude.{◌&&◌, ◌||◌}
use lib.Dec.{T, eqb, ltb, ltb→lt, eqb→eq}
use lib.ListN.{length, get_or}
use Rattle.types.specs.declared.Step.{Step}
use Rattle.rules.specs.Conditions.{◌and◌, ◌or◌}
use Rattle.rules.specs.Steps.{Action, pass, fail, return, notice, discover, request, renew, deliver, lose, cleanup, unknown, action_of, is_known}
use Rattle.rules.proofs.Laws.{and_l, and_r, or_elim, within_low}
use Rattle.rules.proofs.Actions.{action_unknown, known_kind}
use Rattle.script.specs.Layout.{field_count, step_of, fields_of, length_of, first_record}
use Rattle.script.specs.Reading.{longest, is_script, step_in, is_framed}

-- the tests of the rules are those of the library
pub and_is : (a b : Bool) → (a and b) ≡ (a && b)
unfolding ◌and◌
and_is true b = refl
and_is false b = refl

pub or_is : (a b : Bool) → (a or b) ≡ (a || b)
unfolding ◌or◌
or_is true b = refl
or_is false b = refl

-- a kind that is none of the ten has no fields
pub no_fields : (k : ℕ)
    → (k ≡ 1 → ⊥) → (k ≡ 2 → ⊥) → (k ≡ 3 → ⊥) → (k ≡ 4 → ⊥) → (k ≡ 5 → ⊥)
    → (k ≡ 6 → ⊥) → (k ≡ 7 → ⊥) → (k ≡ 8 → ⊥) → (k ≡ 9 → ⊥) → (k ≡ 10 → ⊥)
    → 0 ≡ fields_of k
unfolding fields_of field_count
no_fields k n₁ n₂ n₃ n₄ n₅ n₆ n₇ n₈ n₉ n₁₀ = rw (action_unknown (step_of k 0 0 0) n₁ n₂ n₃ n₄ n₅ n₆ n₇ n₈ n₉ n₁₀)

unknown_counts_none : (a : Action) → not (is_known a) ≡ eqb (field_count a) 0
unfolding is_known field_count
unknown_counts_none (pass d p e) = refl
unknown_counts_none (fail k) = refl
unknown_counts_none (return k) = refl
unknown_counts_none (notice k j says) = refl
unknown_counts_none (discover i) = refl
unknown_counts_none (request i t) = refl
unknown_counts_none (renew i t) = refl
unknown_counts_none (deliver p keep) = refl
unknown_counts_none (lose p) = refl
unknown_counts_none (cleanup k) = refl
unknown_counts_none unknown = refl

-- the kind decides whether a step is known: the unknown ones are those without fields
pub unknown_has_no_fields : (s : Step) → not (is_known (action_of s)) ≡ eqb (fields_of s.kind) 0
unfolding fields_of
unknown_has_no_fields s =
    ap not (sym (known_kind s) ∙ known_kind (step_of s.kind 0 0 0)) ∙ unknown_counts_none (action_of (step_of s.kind 0 0 0))

-- the two tests of a frame, the second in terms of the fields
pub framed : (r : List ℕ) → is_framed r ≡ (ltb 0 (length r) and (eqb (fields_of (get_or r 0 0)) 0 or eqb (length r) (length_of (get_or r 0 0))))
unfolding is_framed step_in
framed r = rw (unknown_has_no_fields (step_in r))

-- a framed record has its kind byte and its fields
pub framed_is_long : (r : List ℕ) → T (is_framed r) → length_of (get_or r 0 0) ≤ length r
framed_is_long r t =
    let b = rw (framed r) at t in
    let h = ltb→lt 0 (length r) (and_l _ _ b) in
    let k = get_or r 0 0 in
    or_elim _ _ (and_r _ _ b) (λ x. omega (arith, eqb→eq (fields_of k) 0 x)) (λ x. omega (arith, eqb→eq (length r) (length_of k) x))

-- a script has a header
pub script_is_long : (s : List ℕ) → T (is_script s) → first_record ≤ length s
script_is_long s t = within_low first_record longest (length s) (and_l _ _ t)
