use mathlib.Core.Path.{ap}
use Prim.Native.Nat.{suc}
use native.Mathlib.Omega.{arith}
use lib.ListN.{length}
use Rattle.std.proofs.lemmas.Fmt.{length-decimal-le}
use Rattle.report.proofs.Laws.{decimal_is, count_is, written_over}
use Rattle.report.proofs.put_long.Goals as goal

pub write_digits-requires : goal.write_digits-requires
write_digits-requires c =
    let d = c.ilog10.ensures in
    let few = length-decimal-le (suc c.ilog10.result) c.from.result (omega arith) (omega (arith, c.from.ensures, d.next_power_gt)) (omega (arith, c.from.ensures)) in
    let count = count_is c.args.n c.ilog10.result (omega arith) d.bound d.power_le d.next_power_gt in
    (omega (arith, few), omega (arith, count, c.requires, ap length (decimal_is c.args.n (omega arith))))

pub returns-clause-value : goal.returns-clause-value
returns-clause-value c =
    let d = c.ilog10.ensures in
    let count = count_is c.args.n c.ilog10.result (omega arith) d.bound d.power_le d.next_power_gt in
    omega (arith, count, ap length (decimal_is c.args.n (omega arith)))

pub returns-clause-out_after : goal.returns-clause-out_after
returns-clause-out_after c =
    let d = c.ilog10.ensures in
    let count = count_is c.args.n c.ilog10.result (omega arith) d.bound d.power_le d.next_power_gt in
    let w = rw c.from.ensures at c.write_digits.ensures in
    rw (decimal_is c.args.n (omega arith)) (written_over c.args.out.now _ c.args.at _ _ (omega (arith, count)) w.start w.written w.before)
