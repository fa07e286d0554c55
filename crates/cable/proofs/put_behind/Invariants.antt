use mathlib.Core.Path.{◌≡◌}
use Rattle.rules.specs.Messages.{sent_behind}
use Rattle.cable.proofs.put_behind.Given as goal

abbrev pub invariant-loop-k : goal.invariant-loop-k
invariant-loop-k l = l.ms ≡ sent_behind l.initial.ms l.w l.o l.k
