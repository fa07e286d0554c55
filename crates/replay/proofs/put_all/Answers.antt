use native.Mathlib.Omega.{arith}
use Rattle.replay.proofs.Whole.{is_begun, rest_fits}
use Rattle.replay.proofs.put_all.Goals as goal

-- the run goes on behind its first line

pub overflow_cast-s : goal.overflow_cast-s
overflow_cast-s c = omega (arith, (is_begun c.args.s.now c.begin-r.result c.begin-r.ensures.run c.if-not-r.true).short)

pub overflow_add-s : goal.overflow_add-s
overflow_add-s c = omega (arith, (is_begun c.args.s.now c.begin-r.result c.begin-r.ensures.run c.if-not-r.true).short)

pub put_turns-requires : goal.put_turns-requires
put_turns-requires c =
    let s = c.args.s.now in
    let e = c.begin-r.ensures in
    (is_begun s c.begin-r.result e.run c.if-not-r.true, rw e.page_after (rest_fits s c.begin-r.result e.run c.if-not-r.true c.args.page.now c.requires))
