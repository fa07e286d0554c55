use Rattle.replay.proofs.Whole.{begins}
use Rattle.replay.proofs.begin.Goals as goal

pub returns-clause-run : goal.returns-clause-run
returns-clause-run c =
    rw (c.fresh.ensures, c.is_err.ensures.value) (begins c.args.s.now c.config_of.result c.header_in.result c.config_of.ensures c.header_in.ensures)
