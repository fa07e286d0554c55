-- Clocks: a number with a signed amount added.
use Rattle.std.specs.Prelude.{Bool, true, cond, ℕ, suc, ◌+◌, ◌-◌, ltb, ℤ, pos, negsuc}

-- a clock reads true time plus the amount by which it is ahead
abbrev pub clock_reading : ℕ → ℤ → ℕ
clock_reading t (pos n) = t + n
clock_reading t (negsuc n) = t - suc n

-- and the sum is not negative
abbrev pub not_negative : ℕ → ℤ → Bool
not_negative t (pos n) = true
not_negative t (negsuc n) = ltb n t

-- a number of four bytes in two's complement
unfoldable pub as_signed : ℕ → ℤ
as_signed x = cond (ltb x 2147483648) (pos x) (negsuc (4294967295 - x))
