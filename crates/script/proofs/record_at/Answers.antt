use mathlib.Core.Path.{◌∙◌, ap}
use native.Mathlib.Omega.{arith}
use Rattle.script.specs.Reading.{decode}
use Rattle.script.proofs.Results.{ok_said}
use Rattle.script.proofs.Walk.{part_from_to}
use Rattle.script.proofs.record_at.Goals as goal

pub returns-in-Ok-clause-says : goal.returns-in-Ok-clause-says
returns-in-Ok-clause-says c =
    ok_said c.args.s.now c.args.p c.in-Ok.step c.from-n.result c.from-n.ensures (omega (arith, c.if-end-p.false, c.if-end-p-2.false))
    (rw c.in-Ok.is at c.decode.ensures.says ∙ ap decode (part_from_to c.args.s.now c.args.p c.from-n.result c.from-n.ensures))
