use Rattle.std.proofs.Common.{◌≡◌, ℕ, ◌+◌, ◌≤◌, Bool}
use Rattle.rules.specs.Parts.{message}
use Rattle.rules.specs.Messages.{to_servers}
use Rattle.outbox.proofs.to_servers.Given as goal

abbrev pub invariant-loop-j : goal.invariant-loop-j
invariant-loop-j g l = record {
  few : l.out.count ≤ l.initial.out.count + l.j;
  sent : (h : ℕ → Bool) → ((x : ℕ) (y : Bool) → goal.F-post g l.left_out x y → y ≡ h x)
      → l.out ≡ to_servers h (λ i. message l.m.sender i l.m.interaction l.m.body) l.j l.initial.out;
}
