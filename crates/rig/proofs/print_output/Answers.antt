use Prim.Native.Nat.{ℕ, ◌<◌}
use native.Mathlib.Omega.{arith}
use lib.ListN.{length, length-replicate}
use Rattle.std.proofs.lemmas.Result.{on_ok_weaker}
use Rattle.rig.proofs.Laws.{input_is_read}
use Rattle.rig.proofs.print_output.Goals as goal

pub returns : goal.returns
returns g c =
    let n = c.in_ok-n in
    let buf = c.read_full.new.buf in
    let large : 65536 < length buf = omega (arith, c.read_full.auto.buf, length-replicate {0} {A = ℕ} 65537 0) in
    on_ok_weaker c.print_run.result (input_is_read _ _ _ _ buf n.n large n.ensures.within n.ensures.bytes n.ensures.full) c.print_run.ensures
