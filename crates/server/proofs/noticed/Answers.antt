use Rattle.std.proofs.Common.{sym, ap, ◌∙◌, arith}
use native.Mathlib.Nat.{mod-eq_of_lt}
use Rattle.types.specs.declared.Outcome.TheVariants.{Done}
use Rattle.rules.specs.Messages.{answer, nothing}
use Rattle.rules.specs.Server.{leads_after, record_after, leading_with, noticed}
use Rattle.leading.proofs.Laws.{led_none, led_more, led_all}
use Rattle.leading.proofs.Walk.{may_lead_lem, next_first}
use Rattle.server.proofs.noticed.Goals as goal

pub loop-a-init : goal.loop-a-init
loop-a-init c = (sym (mod-eq_of_lt (omega arith)), led_none _ _ _ _ _)

pub loop-a-preserved : goal.loop-a-preserved
loop-a-preserved c =
    let w = c.args.who in
    (c.next_server-first.ensures ∙ next_first _ _ _ c.loop-a.invariant.0, led_more _ _ _ _ _ _ _ _ _ c.loop-a.invariant.1 (rw (c.loop-a.invariant.0, c.known-c.ensures) at c.may_lead-now.ensures ∙ may_lead_lem w.config w.number w.reading c.loop-a.s.returned _ _ c.loop-a.a) (rw c.known-c.ensures at c.raised.ensures))

pub returns : goal.returns
unfolding noticed leading_with leads_after record_after
returns c = ap (λ s. answer s Done nothing) (led_all _ _ _ _ _ _ _ (omega arith) c.loop-a.invariant.1)
