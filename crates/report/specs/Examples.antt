-- The digits of a few numbers: the least, one digit, the first of two digits, the first of ten, and the greatest of 32 bits.
use Rattle.std.specs.Prelude.{◌≡◌, refl, List, [], ◌∷◌, map, ℕ}
use Rattle.report.specs.Lines.{digits, decimal}

record Row : Type 0 where
  number : ℕ
  gives : List ℕ

row : ℕ → List ℕ → Row
row n g = record { number = n; gives = g }

table : List Row
table =
    row 0 (48 ∷ [])
    ∷ row 7 (55 ∷ [])
    ∷ row 10 (49 ∷ 48 ∷ [])
    ∷ row 1000000000 (49 ∷ 48 ∷ 48 ∷ 48 ∷ 48 ∷ 48 ∷ 48 ∷ 48 ∷ 48 ∷ 48 ∷ [])
    ∷ row 4294967295 (52 ∷ 50 ∷ 57 ∷ 52 ∷ 57 ∷ 54 ∷ 55 ∷ 50 ∷ 57 ∷ 53 ∷ [])
    ∷ []

examples_hold : map (λ x. decimal x.number) table ≡ map (λ x. x.gives) table
unfolding digits row table
examples_hold = refl
