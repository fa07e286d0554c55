-- A step without the fields that its kind does not have: it says the same, and reading gives no other.
use mathlib.Core.Path.{◌≡◌, refl, sym, ◌∙◌}
use mathlib.Core.Bool.{Bool, true, false, cond}
use mathlib.Core.List.{List, ◌∷◌, map}
use Prim.Native.Nat.{ℕ, zero, suc, ◌<◌, ◌≤◌}
use native.Mathlib.Omega.{arith}
use lib.Dec.{leb, ltb}
use lib.ListN.{length, get_or}
use Rattle.types.specs.declared.Step.{Step}
use Rattle.rules.specs.Steps.{unknown, action_of}
use Rattle.rules.proofs.Laws.{cond_case}
use Rattle.rules.proofs.Actions.{action_unknown}
use Rattle.script.specs.Layout.{field_count, step_of, fields_of, first_record}
use Rattle.script.specs.Reading.{Decoded, Found, step_in, is_framed, decode, part, is_whole, record_at, steps_from, steps_of}
use Rattle.script.specs.Writing.{canonical}

unknown_beyond : (s : Step) → 10 < s.kind → action_of s ≡ unknown
unknown_beyond s h =
    action_unknown s (λ e. omega arith) (λ e. omega arith) (λ e. omega arith) (λ e. omega arith) (λ e. omega arith)
    (λ e. omega arith) (λ e. omega arith) (λ e. omega arith) (λ e. omega arith) (λ e. omega arith)

beyond : (k a b c : ℕ) → 10 < k → (fields_of k ≤ 3) × (action_of (canonical (step_of k a b c)) ≡ action_of (step_of k a b c))
unfolding fields_of field_count canonical
beyond k a b c h =
    (rw (unknown_beyond (step_of k 0 0 0) h) (omega arith), unknown_beyond (canonical (step_of k a b c)) h ∙ sym (unknown_beyond (step_of k a b c) h))

-- a step has at most three fields, and says nothing by a field that its kind does not have
kinds : (k a b c : ℕ) → (fields_of k ≤ 3) × (action_of (canonical (step_of k a b c)) ≡ action_of (step_of k a b c))
unfolding fields_of field_count action_of canonical
kinds zero a b c = (omega arith, refl)
kinds (suc zero) a b c = (omega arith, refl)
kinds (suc (suc zero)) a b c = (omega arith, refl)
kinds (suc (suc (suc zero))) a b c = (omega arith, refl)
kinds (suc (suc (suc (suc zero)))) a b c = (omega arith, refl)
kinds (suc (suc (suc (suc (suc zero))))) a b c = (omega arith, refl)
kinds (suc (suc (suc (suc (suc (suc zero)))))) a b c = (omega arith, refl)
kinds (suc (suc (suc (suc (suc (suc (suc zero))))))) a b c = (omega arith, refl)
kinds (suc (suc (suc (suc (suc (suc (suc (suc zero)))))))) a b c = (omega arith, refl)
kinds (suc (suc (suc (suc (suc (suc (suc (suc (suc zero))))))))) a b c = (omega arith, refl)
kinds (suc (suc (suc (suc (suc (suc (suc (suc (suc (suc zero)))))))))) a b c = (omega arith, refl)
kinds (suc (suc (suc (suc (suc (suc (suc (suc (suc (suc (suc k))))))))))) a b c =
    beyond (suc (suc (suc (suc (suc (suc (suc (suc (suc (suc (suc k))))))))))) a b c (omega arith)

pub few_fields : (k : ℕ) → fields_of k ≤ 3
few_fields k = (kinds k 0 0 0).0

pub action_canonical : (s : Step) → action_of (canonical s) ≡ action_of s
action_canonical s = (kinds s.kind s.first s.second s.third).1

choice_twice : (b : Bool) (x : ℕ) → cond b (cond b x 0) 0 ≡ cond b x 0
choice_twice true x = refl
choice_twice false x = refl

-- what a record says is canonical
pub canonical_in : (r : List ℕ) → canonical (step_in r) ≡ step_in r
unfolding canonical step_in
canonical_in r = let n = fields_of (get_or r 0 0) in rw (choice_twice (ltb 0 n), choice_twice (ltb 1 n), choice_twice (ltb 2 n))

canonical_decoded : (r : List ℕ) → canonical (decode r).step ≡ (decode r).step
unfolding decode canonical fields_of field_count action_of
canonical_decoded r = cond_case (λ (d : Decoded). canonical d.step ≡ d.step) (is_framed r) _ _ (λ t. canonical_in r) (λ t. refl)

canonical_at : (s : List ℕ) (p : ℕ) → canonical (record_at s p).step ≡ (record_at s p).step
unfolding record_at canonical fields_of field_count action_of
canonical_at s p =
    cond_case (λ (d : Found). canonical d.step ≡ d.step) (is_whole s p) _ _ (λ t. canonical_decoded (part s p)) (λ t. refl)

canonical_from : (n : ℕ) (s : List ℕ) (p : ℕ) → map canonical (steps_from n s p) ≡ steps_from n s p
unfolding steps_from
canonical_from zero s p = refl
canonical_from (suc n) s p =
    let next = (record_at s p).next in
    let more : map canonical ((record_at s p).step ∷ steps_from n s next) ≡ (record_at s p).step ∷ steps_from n s next
    = rw (canonical_at s p, canonical_from n s next) in
    cond_case (λ (ss : List Step). map canonical ss ≡ ss) (leb (length s) p) _ _ (λ t. refl) (λ t. more)

-- so are the steps of any script
pub canonical_steps : (s : List ℕ) → map canonical (steps_of s) ≡ steps_of s
unfolding steps_of
canonical_steps s = canonical_from (length s) s first_record
