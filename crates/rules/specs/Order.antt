-- The order of the servers for an address.
use Rattle.std.specs.Prelude.{Bool, not, List, ℕ, ◌+◌, ◌-◌, ◌%◌, leb}
use Rattle.rules.specs.Conditions.{◌and◌, ◌or◌, all}
use Rattle.rules.specs.Parts.{believes}

-- "The order for address a puts server j at rank (j − a) mod S, lowest first."
unfoldable pub rank : ℕ → ℕ → ℕ → ℕ
rank n a j = (j + (n - a % n)) % n

-- server k, of n, is first among those believed live (b) in the order of address a
unfoldable pub is_first : ℕ → ℕ → ℕ → List Bool → Bool
is_first n a k b = believes b k and all (λ j. not (believes b j) or leb (rank n a k) (rank n a j)) n
