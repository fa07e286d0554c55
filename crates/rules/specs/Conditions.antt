-- Conditions and repetitions that the rules are written with.
use Rattle.std.specs.Prelude.{Bool, true, false, cond, List, ℕ, zero, suc, ◌+◌, leb, set}

infixr 6 ◌and◌
unfoldable pub ◌and◌ : Bool → Bool → Bool
true and b = b
false and b = false

infixr 5 ◌or◌
unfoldable pub ◌or◌ : Bool → Bool → Bool
true or b = true
false or b = b

-- low ≤ x ≤ high
unfoldable pub is_within : ℕ → ℕ → ℕ → Bool
is_within low high x = leb low x and leb x high

-- the number of a refusal where its test fails, and else what the refusals below it give
unfoldable pub unless : Bool → ℕ → ℕ → ℕ
unless true n below = below
unless false n below = n

-- whether p holds at each number below n
unfoldable pub all : (ℕ → Bool) → ℕ → Bool
all p zero = true
all p (suc n) = p n and all p n

-- at how many numbers below n p holds
unfoldable pub counted : (ℕ → Bool) → ℕ → ℕ
counted p zero = 0
counted p (suc n) = cond (p n) (counted p n + 1) (counted p n)

-- the lowest of the n numbers from k on at which p holds; k + n where there is none
unfoldable pub lowest : (ℕ → Bool) → ℕ → ℕ → ℕ
lowest p k zero = k
lowest p k (suc n) = cond (p k) k (lowest p (suc k) n)

-- the list with g i at place i, for each i below n; the places from n on stay
unfoldable pub filled : {A : Type 0} → (ℕ → A) → ℕ → List A → List A
filled g zero l = l
filled g (suc n) l = set (filled g n l) n (g n)
