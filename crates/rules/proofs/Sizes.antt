-- How large the numbers of a facade in range are.
use Prim.Native.Nat.{ℕ, ◌≤◌, ◌<◌}
use native.Mathlib.Omega.{arith}
use lib.Dec.{T, leb→le}
use lib.IntN.{ℤ, pos, negsuc, nat_abs}
use Rattle.types.specs.declared.Facade.{Facade}
use Rattle.rules.specs.Clock.{clock_reading}
use Rattle.rules.specs.Parts.{offset_at, clock, parties}
use Rattle.rules.specs.Ranges.{in_range, offset_in_range, last_time, last_reading, after_last}
use Rattle.rules.proofs.Laws.{and_l}
use Rattle.rules.proofs.Kept.{Configured, configured, ranged}

module _ (f : Facade) (t : T (in_range f)) where
  pub sizes : Configured f.config
  sizes = configured f.config (ranged f t).config

  pub time_high : f.time ≤ last_time
  time_high = (ranged f t).time

  pub next_high : f.next ≤ after_last
  next_high = (ranged f t).next_high

  pub waiting_high : f.waiting ≤ 128
  waiting_high = (ranged f t).waiting

  pub offset_high : (p : ℕ) → p < parties f.config → nat_abs (offset_at f p) ≤ 1000
  unfolding offset_in_range
  offset_high p h = omega (arith, sizes, leb→le (nat_abs (offset_at f p)) f.config.skew (and_l _ _ ((ranged f t).offset p h)))

-- The world of a facade is in range as far as clocks and tests look at it: its servers, clients and messages may be any.
pub record WorldInRange (f : Facade) : Type 0 where
  pub sizes : Configured f.config
  pub time : f.time ≤ last_time
  pub offset : (p : ℕ) → p < parties f.config → nat_abs (offset_at f p) ≤ 1000

pub world_of_sound : (f : Facade) → T (in_range f) → WorldInRange f
world_of_sound f t = record { sizes = sizes f t; time = time_high f t; offset = offset_high f t }

module _ (f : Facade) (w : WorldInRange f) where
  pub world_sizes : Configured f.config
  world_sizes = w.sizes

  pub world_time : f.time ≤ last_time
  world_time = w.time

  pub world_offset : (p : ℕ) → p < parties f.config → nat_abs (offset_at f p) ≤ 1000
  world_offset = w.offset

  pub world_reading : (p : ℕ) → p < parties f.config → clock f p ≤ last_reading
  world_reading p h = near (offset_at f p) (w.offset p h) where
    near : (z : ℤ) → nat_abs z ≤ 1000 → clock_reading f.time z ≤ last_reading
    near (pos n) h = omega (arith, h, w.time)
    near (negsuc n) h = omega (arith, w.time)
