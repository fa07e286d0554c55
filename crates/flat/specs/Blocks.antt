-- Lists of numbers made of blocks of equal width.
use Rattle.std.specs.List.{range_with_len}
use Rattle.std.specs.Prelude.{◌≡◌, Bool, List, map, ℕ, ◌+◌, ◌*◌, ◌<◌, eqb, length, get_or}
use Rattle.rules.specs.Conditions.{◌and◌, all}

-- n blocks of so many numbers each, from place p of l on
unfoldable pub each_in : {A : Type 0} → (List ℕ → ℕ → A) → ℕ → ℕ → List ℕ → ℕ → List A
each_in read width n l p = map (λ i. read l (p + width * i)) (range_with_len 0 n)

-- l has the numbers v from place p on
pub record Holds (l : List ℕ) (p : ℕ) (v : List ℕ) : Type 0 where
  pub at : (j : ℕ) → j < length v → get_or l (p + j) 0 ≡ get_or v j 0

-- x has the shape of its type and so many numbers, and where a list holds them they read as x
pub record IsFlat {A : Type 0} (Shaped : A → Type 0) (numbers : A → List ℕ) (read : List ℕ → ℕ → A) (width : ℕ) (x : A) : Type 0 where
  pub shaped : Shaped x
  pub wide : length (numbers x) ≡ width
  pub reads : (l : List ℕ) (p : ℕ) → Holds l p (numbers x) → read l p ≡ x

-- whether two lists are the same numbers
unfoldable pub is_same : List ℕ → List ℕ → Bool
is_same v l = eqb (length v) (length l) and all (λ i. eqb (get_or v i 0) (get_or l i 0)) (length l)

-- whether a list has so many numbers and is the flat form of what it reads as
unfoldable pub codes : {A : Type 0} → (A → List ℕ) → (List ℕ → ℕ → A) → ℕ → List ℕ → Bool
codes numbers read width l = eqb (length l) width and is_same (numbers (read l 0)) l
