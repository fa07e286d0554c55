-- Steps handed over as rows of four numbers are those steps.
use mathlib.Core.Path.{◌≡◌, refl, sym, ap, ◌∙◌}
use mathlib.Core.List.{List, [], ◌∷◌, ◌++◌, map}
use Prim.Native.Nat.{ℕ, zero, suc, ◌+◌, ◌*◌, ◌/◌, ◌<◌, ◌≤◌}
use native.Mathlib.Nat.{add-zero}
use native.Mathlib.Omega.{arith}
use lib.ListN.{length, get_or, take, drop}
use lib.Seq.{get_or-take, get_or-drop, drop-drop}
use Rattle.std.specs.Simd.{first_chunks}
use Rattle.types.specs.Rows.{step_from}
use Rattle.types.specs.declared.Step.{Step}
use Rattle.script.specs.Layout.{step_of}
use Rattle.script.specs.Writing.{row_at, rows, steps_in, flat}

-- the first n fours of a list are its first n rows

four : (n k : ℕ) (l : List ℕ) → k < n → get_or (first_chunks 4 n l) k [] ≡ take 4 (drop (4 * k) l)
four zero k l h = absurd (omega arith)
four (suc n) zero l h = refl
four (suc n) (suc k) l h =
    let e : 4 + 4 * k ≡ 4 * suc k = omega arith in
    four n k (drop 4 l) (omega arith) ∙ ap (take 4) (drop-drop (4 * k) 4 l ∙ ap (λ (i : ℕ). drop i l) e)

number_in : (l : List ℕ) (p i : ℕ) → i < 4 → get_or (take 4 (drop p l)) i 0 ≡ get_or l (p + i) 0
number_in l p i h = get_or-take 4 (drop p l) i 0 h ∙ get_or-drop p l i 0

pub row_is : (l : List ℕ) (k : ℕ) {xs : List (List ℕ)} {s : Step} → xs ≡ first_chunks 4 (length l / 4) l → k < length l / 4
    → s ≡ step_from (get_or xs k []) → s ≡ row_at l k
row_is l k e h d =
    let p = 4 * k in
    d ∙ rw (e, four (length l / 4) k l h, number_in l p 0 (omega arith), number_in l p 1 (omega arith), number_in l p 2 (omega arith), number_in l p 3 (omega arith), add-zero)

-- behind the first row, row n + 1 is row n
row_later : (k a b c : ℕ) (l : List ℕ) (n : ℕ) → row_at (k ∷ a ∷ b ∷ c ∷ l) (suc n) ≡ row_at l n
row_later k a b c l n =
    let e₀ : 4 * suc n ≡ suc (suc (suc (suc (4 * n)))) = omega arith in
    let e₁ : 4 * suc n + 1 ≡ suc (suc (suc (suc (4 * n + 1)))) = omega arith in
    let e₂ : 4 * suc n + 2 ≡ suc (suc (suc (suc (4 * n + 2)))) = omega arith in
    let e₃ : 4 * suc n + 3 ≡ suc (suc (suc (suc (4 * n + 3)))) = omega arith in
    rw (e₁, e₂, e₃, e₀)

rows_later : (k a b c : ℕ) (l : List ℕ) (n : ℕ) → rows (k ∷ a ∷ b ∷ c ∷ l) (suc n) ≡ step_of k a b c ∷ rows l n
unfolding rows
rows_later k a b c l zero = refl
rows_later k a b c l (suc n) = rw (row_later k a b c l n) (ap (λ (ss : List Step). ss ++ (row_at l n ∷ [])) (rows_later k a b c l n))

-- so the fours of a list are its rows
pub fours_are : (n : ℕ) (l : List ℕ) → 4 * n ≤ length l → map step_from (first_chunks 4 n l) ≡ rows l n
unfolding rows
fours_are zero l h = refl
fours_are (suc n) [] h = absurd (omega arith)
fours_are (suc n) (a ∷ []) h = absurd (omega arith)
fours_are (suc n) (a ∷ b ∷ []) h = absurd (omega arith)
fours_are (suc n) (a ∷ b ∷ c ∷ []) h = absurd (omega arith)
fours_are (suc n) (a ∷ b ∷ c ∷ d ∷ l) h =
    ap (λ (ss : List Step). step_of a b c d ∷ ss) (fours_are n l (omega arith)) ∙ sym (rows_later a b c d l n)

flat_rows : (ss : List Step) → rows (flat ss) (length ss) ≡ ss
unfolding rows flat
flat_rows [] = refl
flat_rows (s ∷ ss) = rows_later s.kind s.first s.second s.third (flat ss) (length ss) ∙ ap (λ (ts : List Step). s ∷ ts) (flat_rows ss)

flat_length : (ss : List Step) → length (flat ss) ≡ 4 * length ss
unfolding flat
flat_length [] = refl
flat_length (s ∷ ss) = omega (arith, flat_length ss)

pub steps_in_flat : (ss : List Step) → steps_in (flat ss) ≡ ss
steps_in_flat ss =
    let e : length (flat ss) / 4 ≡ length ss = omega (arith, flat_length ss) in
    rw e (flat_rows ss)
