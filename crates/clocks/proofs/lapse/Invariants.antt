use Rattle.rules.specs.Steps.{lapsed_at}
use Rattle.arith.proofs.Chains.{Written}
use Rattle.clocks.proofs.lapse.Given as goal

abbrev pub invariant-loop-i : goal.invariant-loop-i
invariant-loop-i l = Written (lapsed_at l.fn.f.config l.time l.offsets l.fn.f.clients) l.count l.fn.f.clients l.i l.y-items
