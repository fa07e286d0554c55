-- A number written reads as itself, in four bytes and in two's complement.
use mathlib.Core.Path.{◌≡◌, sym, ap, ◌∙◌}
use mathlib.Core.List.{List, ◌++◌, append_assoc}
use Prim.Native.Nat.{ℕ, ◌+◌, ◌-◌, ◌<◌, ◌≤◌}
use native.Mathlib.Nat.{add-zero}
use native.Mathlib.Omega.{arith}
use borrow.Author.Tests.{lt-ltb, le-ltb}
use lib.IntN.{ℤ, pos, negsuc}
use lib.ListN.{length, take, drop}
use lib.Seq.{get_or-append-add, length-take-le}
use mir.Syntax.{w32}
use mir.Val.{SFits}
use Rattle.std.proofs.lemmas.Nat.{from_be_bytes-to_be_bytes_4}
use Rattle.rules.specs.Clock.{as_signed}
use Rattle.wire.specs.Numbers.{number_at, bytes_of, complement, over}

-- a number at the front of a list
pub number_front : (x : ℕ) → x < 4294967296 → (rest : List ℕ) → number_at (bytes_of x ++ rest) 0 ≡ x
number_front x h rest = from_be_bytes-to_be_bytes_4 x h

-- a number behind other bytes
pub number_behind : (p s : List ℕ) (i : ℕ) → number_at (p ++ s) (length p + i) ≡ number_at s i
number_behind p s i =
    let e₁ : length p + i + 1 ≡ length p + (i + 1) = omega arith in
    let e₂ : length p + i + 2 ≡ length p + (i + 2) = omega arith in
    let e₃ : length p + i + 3 ≡ length p + (i + 3) = omega arith in
    simp (e₁, e₂, e₃, get_or-append-add)

-- the number that was put into a buffer is the number that is read there
pub put_read : (l : List ℕ) (i x : ℕ) → x < 4294967296 → i + 4 ≤ length l → number_at (over l i (bytes_of x)) i ≡ x
put_read l i x h fits =
    let len : length (take i l) ≡ i = length-take-le i l (omega arith) in
    let e : i ≡ length (take i l) + 0 = sym (add-zero _ ∙ len) in
    ap (λ (s : List ℕ). number_at s i) (append_assoc (take i l) (bytes_of x) (drop (i + 4) l))
    ∙ ap (λ (j : ℕ). number_at (take i l ++ (bytes_of x ++ drop (i + 4) l)) j) e
    ∙ number_behind (take i l) (bytes_of x ++ drop (i + 4) l) 0
    ∙ number_front x h (drop (i + 4) l)

-- a signed number of 32 bits reads as itself in two's complement
pub complement_signed : (z : ℤ) → SFits w32 z → as_signed (complement z) ≡ z
unfolding as_signed
complement_signed (pos n) f = rw (lt-ltb n 2147483648 (omega (arith, f.sfits)))
complement_signed (negsuc n) f =
    let back : 4294967295 - (4294967295 - n) ≡ n = omega (arith, f.sfits) in
    rw (le-ltb (4294967295 - n) 2147483648 (omega (arith, f.sfits)), back)
