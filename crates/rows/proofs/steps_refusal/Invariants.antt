use mathlib.Core.Path.{◌≡◌}
use Rattle.script.specs.Writing.{rows, steps_refusal}
use Rattle.rows.proofs.steps_refusal.Given as goal

-- no row before this one is refused
abbrev pub invariant-loop-row : goal.invariant-loop-row
invariant-loop-row l = steps_refusal (rows l.l l.row-index) ≡ 0
