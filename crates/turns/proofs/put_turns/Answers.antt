use mathlib.Core.Path.{sym, ◌∙◌}
use Prim.Native.Nat.{◌+◌, ◌-◌}
use native.Mathlib.Omega.{arith}
use Rattle.turns.proofs.Turns.{line_fits, none_left, last_fit, last_put, goes_on}
use Rattle.turns.proofs.put_turns.Goals as goal

pub put_last_lines-requires : goal.put_last_lines-requires
put_last_lines-requires c =
    last_fit c.loop-i.invariant (c.args.most - (c.loop-i.i + 1)) (omega (arith, c.loop-i-test.true)) (sym c.in-Err.is ∙ c.record_at.ensures.found)

-- the record that is not found ends the run
pub returns-in-Err : goal.returns-in-Err
returns-in-Err c =
    let o = last_put c.loop-i.invariant (c.args.most - (c.loop-i.i + 1)) (omega (arith, c.loop-i-test.true)) (sym c.in-Err.is ∙ c.record_at.ensures.found) c.put_last_lines.ensures in
    record { progress_after = o.run; page_after = o.page }

pub put_result_line-requires : goal.put_result_line-requires
put_result_line-requires c =
    line_fits c.loop-i.invariant (c.args.most - (c.loop-i.i + 1)) (omega (arith, c.loop-i-test.true)) (sym c.in-Ok.is ∙ c.record_at.ensures.found) _ c.take_step-x.ensures

pub loop-i-preserved : goal.loop-i-preserved
loop-i-preserved c =
    goes_on c.loop-i.invariant (c.args.most - (c.loop-i.i + 1)) (omega (arith, c.loop-i-test.true)) (sym c.in-Ok.is ∙ c.record_at.ensures.found) c.take_step-x.result c.take_step-x.new.f c.take_step-x.ensures c.put_result_line.ensures

pub returns : goal.returns
returns c =
    let o = none_left c.loop-i.invariant (omega (arith, c.loop-i-test.false)) in
    record { progress_after = o.run; page_after = o.page }
