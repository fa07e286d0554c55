-- Laws of steps in rows: their first refusal and their records.
use mathlib.Core.Path.{◌≡◌, refl, sym, ap, ◌∙◌}
use mathlib.Core.List.{List, [], ◌∷◌, ◌++◌, map, append_assoc, append-nil}
use Prim.Native.Nat.{ℕ, zero, suc, ◌+◌, ◌-◌, ◌*◌, ◌/◌, ◌≤◌, ◌<◌}
use native.Mathlib.Nat.{zero-add, add-zero, add-suc}
use native.Mathlib.Omega.{arith}
use borrow.Author.Tests.{ne_eqb}
use lib.ListN.{length, get_or, length-append}
use Rattle.std.specs.List.{fold, sum_by}
use Rattle.std.specs.Simd.{first_chunks}
use Rattle.types.specs.declared.Step.{Step}
use Rattle.script.specs.Layout.{fields_of, step_refusal, record_of, records_of}
use Rattle.script.specs.Reading.{or_else}
use Rattle.script.specs.Writing.{row_at, rows, steps_in, steps_refusal}
use Rattle.script.proofs.Canonical.{few_fields}
use Rattle.script.proofs.Tests.{none_met}
use Rattle.script.proofs.Records.{record_length}
use Rattle.script.proofs.Rows.{fours_are}
use Rattle.types.specs.Rows.{step_from}

-- a refusal, or else another

or_first : (a b : ℕ) → (a ≡ 0 → ⊥) → or_else a b ≡ a
or_first zero b h = absurd (h refl)
or_first (suc a) b h = rw (ne_eqb (suc a) 0 h)

or_assoc : (a b c : ℕ) → or_else a (or_else b c) ≡ or_else (or_else a b) c
or_assoc zero b c = refl
or_assoc (suc a) b c =
    let h : suc a ≡ 0 → ⊥ = λ e. omega arith in
    or_first (suc a) (or_else b c) h ∙ sym (ap (λ (x : ℕ). or_else x c) (or_first (suc a) b h) ∙ or_first (suc a) c h)

or_end : (a : ℕ) → or_else a 0 ≡ a
or_end zero = refl
or_end (suc a) = or_first (suc a) 0 (λ e. omega arith)

-- two lists of steps, one behind the other

refusal_append : (xs ys : List Step) → steps_refusal (xs ++ ys) ≡ or_else (steps_refusal xs) (steps_refusal ys)
unfolding steps_refusal
refusal_append [] ys = refl
refusal_append (s ∷ xs) ys =
    ap (or_else (step_refusal s)) (refusal_append xs ys) ∙ or_assoc (step_refusal s) (steps_refusal xs) (steps_refusal ys)

records_append : (xs ys : List Step) → records_of (xs ++ ys) ≡ records_of xs ++ records_of ys
unfolding records_of
records_append [] ys = refl
records_append (s ∷ xs) ys =
    ap (λ (r : List ℕ). record_of s ++ r) (records_append xs ys) ∙ sym (append_assoc (record_of s) (records_of xs) (records_of ys))

-- the d rows from row n on
abbrev later : List ℕ → ℕ → ℕ → List Step
later l n zero = []
later l n (suc d) = later l n d ++ (row_at l (n + d) ∷ [])

rows_later : (l : List ℕ) (n d : ℕ) → rows l (n + d) ≡ rows l n ++ later l n d
unfolding rows
rows_later l n zero = ap (rows l) (add-zero n) ∙ sym (append-nil (rows l n))
rows_later l n (suc d) =
    ap (rows l) (add-suc n d)
    ∙ ap (λ (xs : List Step). xs ++ (row_at l (n + d) ∷ [])) (rows_later l n d)
    ∙ append_assoc (rows l n) (later l n d) (row_at l (n + d) ∷ [])

-- a list of one step, and of none

one_refusal : (s : Step) → steps_refusal (s ∷ []) ≡ step_refusal s
unfolding steps_refusal
one_refusal s = or_end (step_refusal s)

one_record : (s : Step) → records_of (s ∷ []) ≡ record_of s
unfolding records_of
one_record s = append-nil (record_of s)

pub none_refused : (l : List ℕ) → steps_refusal (rows l 0) ≡ 0
unfolding rows steps_refusal
none_refused l = refl

pub no_records : (l : List ℕ) → records_of (rows l 0) ≡ []
unfolding rows records_of
no_records l = refl

-- row k, behind the k rows before it
module _ (l : List ℕ) (k : ℕ) where
  next : rows l (k + 1) ≡ rows l k ++ (row_at l k ∷ [])
  unfolding rows
  next =
      let e : k + 1 ≡ suc k = omega arith in
      ap (rows l) e

  next_refusal : steps_refusal (rows l (k + 1)) ≡ or_else (steps_refusal (rows l k)) (step_refusal (row_at l k))
  next_refusal =
      ap steps_refusal next
      ∙ refusal_append (rows l k) (row_at l k ∷ [])
      ∙ ap (or_else (steps_refusal (rows l k))) (one_refusal (row_at l k))

  pub next_records : records_of (rows l (k + 1)) ≡ records_of (rows l k) ++ record_of (row_at l k)
  next_records =
      ap records_of next
      ∙ records_append (rows l k) (row_at l k ∷ [])
      ∙ ap (λ (r : List ℕ). records_of (rows l k) ++ r) (one_record (row_at l k))

  pub next_length : length (records_of (rows l (k + 1))) ≡ length (records_of (rows l k)) + length (record_of (row_at l k))
  next_length = ap length next_records ∙ length-append (records_of (rows l k)) (record_of (row_at l k))

  pub next_kept : steps_refusal (rows l k) ≡ 0 → step_refusal (row_at l k) ≡ 0 → steps_refusal (rows l (k + 1)) ≡ 0
  next_kept e f = next_refusal ∙ ap (λ (x : ℕ). or_else x (step_refusal (row_at l k))) e ∙ f

  -- among all rows, the others behind it
  module _ (h : k < length l / 4) where
    abbrev rest : List Step
    rest = later l (k + 1) (length l / 4 - (k + 1))

    split : steps_in l ≡ rows l (k + 1) ++ rest
    split =
        let e : length l / 4 ≡ k + 1 + (length l / 4 - (k + 1)) = omega arith in
        ap (rows l) e ∙ rows_later l (k + 1) (length l / 4 - (k + 1))

    split_refusal : steps_refusal (steps_in l) ≡ or_else (steps_refusal (rows l (k + 1))) (steps_refusal rest)
    split_refusal = ap steps_refusal split ∙ refusal_append (rows l (k + 1)) rest

    -- the first refusal is that of all
    pub refused_at : steps_refusal (rows l k) ≡ 0 → (step_refusal (row_at l k) ≡ 0 → ⊥) → step_refusal (row_at l k) ≡ steps_refusal (steps_in l)
    refused_at e n =
        let here = next_refusal ∙ ap (λ (x : ℕ). or_else x (step_refusal (row_at l k))) e in
        sym (split_refusal ∙ or_first _ _ (λ z. n (sym here ∙ z)) ∙ here)

    -- where none is refused, this one is not
    pub kept_at : steps_refusal (steps_in l) ≡ 0 → step_refusal (row_at l k) ≡ 0
    kept_at e =
        let here = (none_met (steps_refusal (rows l (k + 1))) (steps_refusal rest) (sym split_refusal ∙ e)).0 in
        (none_met (steps_refusal (rows l k)) (step_refusal (row_at l k)) (sym next_refusal ∙ here)).1

    -- its record lies within the records of all
    pub room_at : length (records_of (rows l k)) + length (record_of (row_at l k)) ≤ length (records_of (steps_in l))
    room_at =
        let e = ap (λ (ss : List Step). length (records_of ss)) split ∙ ap length (records_append (rows l (k + 1)) rest) in
        omega (arith, next_length, e, length-append (records_of (rows l (k + 1))) (records_of rest))

-- how many bytes the record of a row has, and the records of all
abbrev pub size_of : List ℕ → ℕ
size_of r = 2 + 4 * fields_of (get_or r 0 0)

sizes : (n : ℕ) (xs : List (List ℕ)) → fold (λ a r. a + size_of r) n xs ≡ n + length (records_of (map step_from xs))
unfolding records_of
sizes n [] = omega arith
sizes n (x ∷ xs) = omega (arith, sizes (n + size_of x) xs, record_length (step_from x), length-append (record_of (step_from x)) (records_of (map step_from xs)))

pub sizes_are : (l : List ℕ) (xs : List (List ℕ)) → xs ≡ first_chunks 4 (length l / 4) l → sum_by size_of xs ≡ length (records_of (steps_in l))
sizes_are l xs e = sizes 0 xs ∙ rw (zero-add, e) (ap (λ (ss : List Step). length (records_of ss)) (fours_are (length l / 4) l (omega arith)))

-- a record has at most three fields, and so 14 bytes
record_high : (s : Step) → length (record_of s) ≤ 14
record_high s = omega (arith, record_length s, few_fields s.kind)

pub records_high : (l : List ℕ) (n : ℕ) → length (records_of (rows l n)) ≤ 14 * n
records_high l zero = omega (arith, ap length (no_records l))
records_high l (suc n) =
    let e : n + 1 ≡ suc n = omega arith in
    omega (arith, records_high l n, record_high (row_at l n), next_length l n, ap (λ (k : ℕ). length (records_of (rows l k))) e)
