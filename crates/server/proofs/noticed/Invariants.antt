use Rattle.std.proofs.Common.{◌≡◌, ◌%◌}
use Rattle.leading.proofs.Laws.{led}
use Rattle.server.proofs.noticed.Given as goal

abbrev pub invariant-loop-a : goal.invariant-loop-a
invariant-loop-a l = let w = l.who in (l.first ≡ l.a % w.config.servers) × (l.s ≡ led w.config w.number w.reading l.initial.s l.b l.a)
