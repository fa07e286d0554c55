-- The script that is read of an input says what the whole input says.
use mathlib.Core.Path.{◌≡◌, sym, ap, ◌∙◌, subst}
use mathlib.Core.Logic.{dite}
use mathlib.Core.List.{List, [], ◌++◌, append-nil}
use Prim.Native.Nat.{ℕ, ◌≤◌, ◌<◌}
use native.Mathlib.Decide.{dec_le}
use native.Mathlib.Omega.{arith}
use lib.ListN.{length, take, length-append}
use lib.Seq.{length-take-le}
use Rattle.std.proofs.Common.{None, Some, IfSome}
use Rattle.std.specs.declared.option.Option.{Option}
use Rattle.std.specs.Io.KnownBytes.{Appends, Consumes, IsAtEnd}
use Rattle.replay.specs.Output.{output}
use Rattle.replay.proofs.Whole.{long_alike}

-- n bytes are read of xs, all of them or more than a script has
read_enough : (xs ys buf : List ℕ) (n : ℕ) → 65536 < length buf → n ≤ length buf → xs ≡ take n buf ++ ys → (n < length buf → ys ≡ []) → output (take n buf) ≡ output xs
read_enough xs ys buf n large fits e full =
    let read = length-take-le n buf fits in
    dite (dec_le (length buf) n)
    (λ h. long_alike (take n buf) xs (omega (arith, h, large, read)) (rw e (omega (arith, h, large, read, length-append (take n buf) ys))))
    (λ h. ap output (sym (e ∙ ap (λ l. take n buf ++ l) (full (omega (arith, h))) ∙ append-nil (take n buf))))

-- so what is written for it is written for the input
pub input_is_read : (a b w v : Option (List ℕ)) (buf : List ℕ) (n : ℕ) → 65536 < length buf → n ≤ length buf
    → Consumes a b (take n buf) → (n < length buf → IsAtEnd b) → Appends w v (output (take n buf)) → IfSome a (λ s. Appends w v (output s))
input_is_read None b w v buf n large fits e full p = tt
input_is_read (Some xs) None w v buf n large fits e full p = absurd e
input_is_read (Some xs) (Some ys) w v buf n large fits e full p = subst (Appends w v) (read_enough xs ys buf n large fits e full) p
