use mathlib.Core.Path.{sym, ◌∙◌}
use Rattle.script.specs.Reading.{decode}
use Rattle.script.proofs.decode.Goals as goal

pub returns-then-is_framed-clause-says : goal.returns-then-is_framed-clause-says
unfolding decode
returns-then-is_framed-clause-says c = rw (sym c.is_framed.ensures ∙ c.if-is_framed.true, c.step_in.ensures)

pub returns-else-is_framed-clause-says : goal.returns-else-is_framed-clause-says
unfolding decode
returns-else-is_framed-clause-says c = rw (sym c.is_framed.ensures ∙ c.if-is_framed.false)
