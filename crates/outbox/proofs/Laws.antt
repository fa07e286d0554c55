-- To the servers that are not left out: server j is sent the message, or is left out.
use mathlib.Core.Path.{◌≡◌}
use mathlib.Core.Bool.{Bool, true, false}
use Prim.Native.Nat.{ℕ, suc, ◌+◌}
use native.Mathlib.Omega.{arith}
use Rattle.types.specs.declared.Message.{Message}
use Rattle.types.specs.declared.Outbox.{Outbox}
use Rattle.rules.specs.Messages.{post, post_unless, to_servers}

module _ (out : ℕ → Bool) (g : ℕ → Message) (o : Outbox) (j : ℕ) where
  pub servers_more : out j ≡ false → post (to_servers out g j o) (g j) ≡ to_servers out g (j + 1) o
  unfolding to_servers post_unless
  servers_more e = let next : j + 1 ≡ suc j = omega arith in rw (next, e)

  pub servers_without : out j ≡ true → to_servers out g j o ≡ to_servers out g (j + 1) o
  unfolding to_servers post_unless
  servers_without e = let next : j + 1 ≡ suc j = omega arith in rw (next, e)
