use mathlib.Core.Path.{refl}
use native.Mathlib.Omega.{arith}
use Rattle.replay.proofs.Whole.{whole_fits}
use Rattle.replay.proofs.put_output.Goals as goal

pub put_all-requires : goal.put_all-requires
put_all-requires c = whole_fits c.args.s.now _ refl (omega (arith, c.if-out-lt-MOST_OUTPUT.false))
