use Rattle.std.proofs.Common.{◌≡◌, get_or, Option}
use Rattle.std.specs.Prelude.{None}
use Rattle.types.specs.declared.Reservation.{Reservation}
use Rattle.arith.proofs.Chains.{Written}
use Rattle.lending.proofs.reservations_by.Given as goal

abbrev pub invariant-loop-x : goal.invariant-loop-x
invariant-loop-x g l =
    (h : Option Reservation → Option Reservation) → ((x y : Option Reservation) → goal.F-post g l.keep x y → y ≡ h x)
    → Written (λ a. h (get_or l.fn.rs a None)) l.n l.fn.rs l.x-index l.x-items
