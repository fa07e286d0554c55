-- The lines that the rig prints, as bytes.
use Rattle.std.specs.Prelude.{cond, List, [], ◌∷◌, ◌++◌, ℕ, zero, suc, ◌+◌, ◌/◌, ◌%◌, ltb}
use Rattle.types.specs.declared.Config.{Config}

-- the decimal digits of a number that has at most k
unfoldable pub digits : ℕ → ℕ → List ℕ
digits zero n = []
digits (suc k) n = cond (ltb n 10) ((48 + n) ∷ []) (digits k (n / 10) ++ ((48 + n % 10) ∷ []))

-- a number of 32 bits has at most ten digits
abbrev pub decimal : ℕ → List ℕ
decimal n = digits 10 n

-- a space and a number
abbrev pub spaced : ℕ → List ℕ
spaced n = (32 ∷ []) ++ decimal n

abbrev pub line_end : List ℕ
line_end = 10 ∷ []

-- "its number from 1, refusal (0 if none), outcome (0 if refused), true time, waiting messages"
unfoldable pub record_line : ℕ → ℕ → ℕ → ℕ → ℕ → List ℕ
record_line k r o t w = decimal k ++ spaced r ++ spaced o ++ spaced t ++ spaced w ++ line_end

-- `facade`
abbrev pub facade_word : List ℕ
facade_word = 102 ∷ 97 ∷ 99 ∷ 97 ∷ 100 ∷ 101 ∷ []

-- "facade S C A"
unfoldable pub facade_line : Config → List ℕ
facade_line c = facade_word ++ spaced c.servers ++ spaced c.clients ++ spaced c.addresses ++ line_end

-- `held`
abbrev pub held_word : List ℕ
held_word = 104 ∷ 101 ∷ 108 ∷ 100 ∷ []

-- "held and how many clients hold"
unfoldable pub held_line : ℕ → List ℕ
held_line n = held_word ++ spaced n ++ line_end
