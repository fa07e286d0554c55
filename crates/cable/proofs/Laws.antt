-- Laws of what the exchange of the waiting messages does: those behind the one taken out move up, then others are put behind the rest.
use mathlib.Core.Path.{◌≡◌, sym}
use mathlib.Core.Bool.{Bool, true, false}
use mathlib.Core.List.{List, ◌++◌}
use Prim.Native.Nat.{ℕ, suc, ◌+◌, ◌-◌, ◌≤◌, ◌<◌}
use native.Mathlib.Numerals.{add-one}
use native.Mathlib.Omega.{arith}
use lib.ListN.{length, get_or, set, take, drop, length-append, length-take, length-drop}
use lib.Seq.{set_out, drop-cons}
use Rattle.std.specs.List.{copy_within}
use Rattle.std.proofs.lemmas.List.{set_at}
use Rattle.types.specs.declared.Message.{Message}
use Rattle.types.specs.declared.Outbox.{Outbox}
use Rattle.rules.specs.Parts.{no_message}
use Rattle.rules.specs.Messages.{sent_behind, removed}
use Rattle.rules.proofs.Cable.{length_sent}
use Rattle.cable.specs.Exchange.{rest_of}

-- no more stay than wait
pub rest_high : (n : ℕ) (taken : Bool) → rest_of n taken ≤ n
rest_high n true = omega arith
rest_high n false = omega arith

-- and at most one less
pub rest_low : (n : ℕ) (taken : Bool) → n ≤ rest_of n taken + 1
rest_low n true = omega arith
rest_low n false = omega arith

-- the messages behind that at p move up, and the last of the n places is emptied
pub moved_up : (ms : List Message) (p n : ℕ) → p < n → n ≤ length ms → set (copy_within ms (p + 1) n p) (n - 1) no_message ≡ removed ms p n
unfolding removed
moved_up ms p n h l =
    let at : p + (n - suc p) ≡ n - 1 = omega arith in
    let next : suc (n - 1) ≡ n = omega arith in
    rw (add-one, at, drop-cons ms (n - 1) no_message (omega arith), next)
    (set_at (take p ms ++ take (n - suc p) (drop (suc p) ms)) _ _ _ _ (simp (length-append, length-take, length-drop) (omega arith)))

-- one message more is put behind the rest
pub sent_more : (ms : List Message) (w : ℕ) (o : Outbox) (k : ℕ) → set (sent_behind ms w o k) (w + k) (get_or o.messages k no_message) ≡ sent_behind ms w o (k + 1)
unfolding sent_behind
sent_more ms w o k = rw add-one

-- or dropped, where there is no place for it
pub sent_full : (ms : List Message) (w : ℕ) (o : Outbox) (k : ℕ) → length ms ≤ w + k → sent_behind ms w o k ≡ sent_behind ms w o (k + 1)
unfolding sent_behind
sent_full ms w o k h = rw add-one (sym (set_out (sent_behind ms w o k) (w + k) _ (omega (arith, length_sent ms w o k))))
