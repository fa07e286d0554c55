-- The walk over the records of a script.
use mathlib.Core.Path.{◌≡◌, refl, sym, ap, ◌∙◌}
use mathlib.Core.Bool.{Bool, true, false, cond}
use mathlib.Core.List.{List}
use Prim.Native.Nat.{ℕ, zero, suc, ◌+◌, ◌-◌, ◌≤◌, ◌<◌}
use native.Mathlib.Omega.{arith}
use native.Mathlib.Nat.{add-sub_cancel_left}
use native.Mathlib.Decide.{dec_lt}
use lib.Dec.{T, eqb, leb, ltb→lt, eqb→eq}
use lib.ListN.{length, get_or, take, drop}
use borrow.Author.Tests.{le-leb, lt-leb, ne_eqb}
use Rattle.std.specs.Prelude.{Ok, Err}
use Rattle.types.specs.declared.Refused.{Refused}
use Rattle.types.specs.Numbers.{refusal_number}
use Rattle.rules.proofs.Laws.{and_r, cond_case}
use Rattle.script.specs.declared.Record.{Record}
use Rattle.script.specs.Layout.{step_refusal}
use Rattle.script.specs.Reading.{Found, part, is_whole, record_at, result_of, or_else, records_refusal}
use Rattle.script.proofs.Results.{none_at, one_at, outside}

-- the n bytes behind the length byte at p, where that byte is n
pub part_from_to : (s : List ℕ) (p n : ℕ) → n ≡ get_or s p 0 → take (p + 1 + n - (p + 1)) (drop (p + 1) s) ≡ part s p
part_from_to s p n e = rw (add-sub_cancel_left (p + 1) n, e)

-- behind a record, whole or not, is a later place
pub later : (s : List ℕ) (p : ℕ) → p < length s → p < (record_at s p).next
unfolding record_at
later s p h = cond_case (λ (r : Found). p < r.next) (is_whole s p) _ _ (λ t. omega arith) (λ t. h)

-- a record that is found begins within the script
found_within : (s : List ℕ) (p : ℕ) {r : Record} → Ok r ≡ result_of (record_at s p) → Dec (p + get_or s p 0 < length s) → p < length s
found_within s p e (yes h) = omega arith
found_within s p e (no h) = let o = outside s p (omega arith) in cc

-- so less is left behind it
pub leaves_less : (s : List ℕ) (p : ℕ) {r : Record} → Ok r ≡ result_of (record_at s p) → length s - r.next < length s - p
leaves_less s p {r} e =
    let n : (record_at s p).next ≡ r.next = ap (λ (x : Found). x.next) (one_at s p e) in
    let h = found_within s p e (dec_lt (p + get_or s p 0) (length s)) in
    omega (arith, later s p h)

-- a record without a refusal moves the place on, within the script
pub moves_on : (s : List ℕ) (p : ℕ) → (record_at s p).refusal ≡ 0 → (p < (record_at s p).next) × ((record_at s p).next ≤ length s)
unfolding record_at
moves_on s p =
    cond_case (λ (r : Found). r.refusal ≡ 0 → (p < r.next) × (r.next ≤ length s)) (is_whole s p) _ _
    (λ t e. (omega arith, omega (arith, ltb→lt (p + get_or s p 0) (length s) (and_r _ _ t))))
    (λ t e. absurd (omega arith))

-- what comes after a refusal does not matter
or_else_same : (n x y : ℕ) → (n ≡ 0 → x ≡ y) → or_else n x ≡ or_else n y
or_else_same n x y f = go (eqb n 0) (λ t. f (eqb→eq n 0 t)) where
  go : (b : Bool) → (T b → x ≡ y) → cond b x n ≡ cond b y n
  go true g = g tt
  go false g = refl

-- from the end on there is no record
pub none_from_the_end : (n : ℕ) (s : List ℕ) (p : ℕ) → length s ≤ p → records_refusal n s p ≡ 0
unfolding records_refusal
none_from_the_end zero s p h = refl
none_from_the_end (suc n) s p h = rw (le-leb (length s) p h)

-- there are no more records than bytes: any two numbers of records that are enough give the same
pub enough_records : (n m : ℕ) (s : List ℕ) (p : ℕ) → length s ≤ n + p → length s ≤ m + p → records_refusal n s p ≡ records_refusal m s p
unfolding records_refusal
enough_records zero m s p h g = sym (none_from_the_end m s p (omega arith))
enough_records (suc n) zero s p h g = none_from_the_end (suc n) s p (omega arith)
enough_records (suc n) (suc m) s p h g =
    ap (cond (leb (length s) p) 0)
    (or_else_same _ _ _ (λ z. let on = moves_on s p z in enough_records n m s (record_at s p).next (omega arith) (omega arith)))

-- the record at p, then those behind it
one_then_the_rest : (n : ℕ) (s : List ℕ) (p : ℕ) → length s ≤ n → p < length s
    → records_refusal n s p ≡ or_else (record_at s p).refusal (records_refusal n s (record_at s p).next)
unfolding records_refusal
one_then_the_rest zero s p h g = absurd (omega arith)
one_then_the_rest (suc n) s p h g =
    rw (lt-leb (length s) p g)
    (or_else_same _ _ _ (λ z. let on = moves_on s p z in enough_records n (suc n) s (record_at s p).next (omega arith) (omega arith)))

-- The walk stops where no record is found, and at one that is refused; else it goes on behind it.
module _ (s : List ℕ) (p : ℕ) (h : p < length s) where
  here : records_refusal (length s) s p ≡ or_else (record_at s p).refusal (records_refusal (length s) s (record_at s p).next)
  here = one_then_the_rest (length s) s p (omega arith) h

  pub stops : {x : Refused ℕ} → Err x ≡ result_of (record_at s p) → records_refusal (length s) s p ≡ refusal_number x.refusal
  stops e = let q = none_at s p e in here ∙ rw (q.1, q.0)

  module _ {r : Record} (e : Ok r ≡ result_of (record_at s p)) where
    pub stops_at : (step_refusal r.step ≡ 0 → ⊥) → records_refusal (length s) s p ≡ step_refusal r.step
    stops_at f = here ∙ rw (one_at s p e, ne_eqb (step_refusal r.step) 0 f)

    pub goes_past : step_refusal r.step ≡ 0 → records_refusal (length s) s p ≡ records_refusal (length s) s r.next
    goes_past f = here ∙ rw (one_at s p e, f)
