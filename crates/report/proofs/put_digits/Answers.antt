use native.Mathlib.Omega.{arith}
use Rattle.report.proofs.Laws.{digits_one}
use Rattle.report.proofs.put_digits.Goals as goal

pub put_byte-requires : goal.put_byte-requires
put_byte-requires c = rw (digits_one 10 c.args.n (omega arith) (omega arith)) at c.requires

pub returns-then-n-lt10 : goal.returns-then-n-lt10
returns-then-n-lt10 c = rw (digits_one 10 c.args.n (omega arith) (omega arith)) c.put_byte.ensures
