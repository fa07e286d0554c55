-- "four bytes each, big-endian", "e in two's complement", and bytes put into a buffer.
use Rattle.std.specs.Prelude.{List, [], ◌∷◌, ◌++◌, ℕ, ◌+◌, ◌-◌, ◌*◌, ◌/◌, ◌%◌, ℤ, pos, negsuc, length, get_or, take, drop}

-- the number in the four bytes of s from place i on, the most significant byte first
abbrev pub number_at : List ℕ → ℕ → ℕ
number_at s i = get_or s i 0 * 16777216 + get_or s (i + 1) 0 * 65536 + get_or s (i + 2) 0 * 256 + get_or s (i + 3) 0

-- the four bytes of a number, the most significant first
abbrev pub bytes_of : ℕ → List ℕ
bytes_of x = (x / 16777216) % 256 ∷ (x / 65536) % 256 ∷ (x / 256) % 256 ∷ x % 256 ∷ []

-- a signed number in two's complement
abbrev pub complement : ℤ → ℕ
complement (pos n) = n
complement (negsuc n) = 4294967295 - n

-- the buffer l with the bytes v in place of its own from place i on
abbrev pub over : List ℕ → ℕ → List ℕ → List ℕ
over l i v = take i l ++ v ++ drop (i + length v) l
