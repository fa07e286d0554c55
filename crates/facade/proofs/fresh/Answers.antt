use Rattle.rules.specs.Steps.{fresh}
use Rattle.facade.proofs.fresh.Goals as goal

pub returns : goal.returns
unfolding fresh
returns c = rw (c.no_message-empty.ensures, c.cleared_server-s.ensures)
