use Rattle.std.proofs.Common.{refl, sym, ap, ◌∙◌, arith}
use Rattle.types.specs.declared.Outbox.{Outbox}
use Rattle.rules.specs.Messages.{to_servers}
use Rattle.outbox.proofs.Laws.{servers_more, servers_without}
use Rattle.outbox.proofs.to_servers.Goals as goal
use Rattle.outbox.proofs.to_servers.Goals.{then-not-left_out, else-not-left_out}

pub loop-j-init : goal.loop-j-init
unfolding to_servers
loop-j-init g c = record { few = omega arith; sent = λ h e. refl }

pub loop-j-preserved : goal.loop-j-preserved
loop-j-preserved g c = let kept = c.loop-j.invariant in elim c.if-not-left_out.branch [
  | then-not-left_out w ↦ record {
    few = omega (arith, ap (λ (x : Outbox). x.count) (w.out-is ∙ w.post-out.ensures));
    sent = λ h e. w.out-is ∙ rw (w.post-out.ensures, kept.sent h e) (servers_more h _ _ _ (sym (e _ _ c.left_out.ensures) ∙ w.if-not-left_out.true));
  }
  | else-not-left_out w ↦ record {
    few = omega (arith, ap (λ (x : Outbox). x.count) w.out-is);
    sent = λ h e. w.out-is ∙ kept.sent h e ∙ servers_without h _ _ _ (sym (e _ _ c.left_out.ensures) ∙ w.if-not-left_out.false);
  }
]
