use native.Mathlib.Omega.{arith}
use Rattle.std.proofs.lemmas.Grind.{common_steps}
use Rattle.script.proofs.Rows.{row_is}
use Rattle.rows.proofs.Laws.{refused_at}
use Rattle.rows.proofs.steps_refusal.Goals as goal

pub returns-in_err-step_refusal : goal.returns-in_err-step_refusal
returns-in_err-step_refusal c =
    let h = row_is _ _ c.as_chunks.ensures.front (omega arith) c.from.ensures in
    grind (arith, common_steps, refused_at, h)
