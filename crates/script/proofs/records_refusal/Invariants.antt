use mathlib.Core.Path.{◌≡◌}
use Prim.Native.Nat.{◌-◌}
use lib.ListN.{length}
use Rattle.script.specs.Layout.{first_record}
use Rattle.script.specs.Reading.{records_refusal}
use Rattle.script.proofs.records_refusal.Given as goal

-- the records that are read already met no refusal
abbrev pub invariant-loop-p : goal.invariant-loop-p
invariant-loop-p l = records_refusal (length l.s) l.s first_record ≡ records_refusal (length l.s) l.s l.p

-- the bytes that are left
abbrev pub decreases-loop-p : goal.decreases-loop-p
decreases-loop-p l = length l.s - l.p
