-- What is put over a list, and lists that are the same.
use mathlib.Core.Path.{◌≡◌, ap, ◌∙◌}
use mathlib.Core.Bool.{Bool}
use mathlib.Core.List.{List, [], ◌++◌, append-nil}
use Prim.Native.Nat.{ℕ, ◌+◌, ◌≤◌, ◌<◌}
use native.Mathlib.Omega.{arith}
use lib.ListN.{length, get_or, get_or-append, take, drop, drop_of_length-le, length-append}
use lib.Seq.{get_or-append-add, length-take-le}
use Rattle.std.specs.Str.{bytes_eq}
use Rattle.std.proofs.lemmas.Bool.Decides.{same_from_decides, Decides-eqb}
use Rattle.std.proofs.lemmas.Slice.Eq.{slice_eq-Decides}
use Rattle.rules.proofs.Laws.{true_of}
use Rattle.wire.specs.Numbers.{over}
use Rattle.flat.specs.Blocks.{Holds, IsFlat, is_same}
use Rattle.flat.proofs.Blocks.{same_self, same_eq}

-- What is put over a list is held there, and reads back.
holds_over : (l : List ℕ) (p : ℕ) (v : List ℕ) → p + length v ≤ length l → Holds (over l p v) p v
holds_over l p v h =
    let front = take p l in
    let wide : length front ≡ p = length-take-le p l (omega arith) in
    record {
      at = λ j k.
          let at : p + j ≡ length front + j = omega (arith, wide) in
          let within : length front + j < length (front ++ v) = omega (arith, length-append front v) in
          ap (λ (n : ℕ). get_or (over l p v) n 0) at
          ∙ get_or-append (front ++ v) (drop (p + length v) l) 0 (length front + j) within
          ∙ get_or-append-add front v j 0;
    }

pub put_back : {A : Type 0} {P : A → Type 0} {f : A → List ℕ} {r : List ℕ → ℕ → A} {w : ℕ} {x : A}
    → IsFlat P f r w x → (l : List ℕ) (p : ℕ) → p + w ≤ length l → r (over l p (f x)) p ≡ x
put_back {f = f} {x = x} b l p h = b.reads _ p (holds_over l p (f x) (omega (arith, b.wide, h)))

-- a list put over a whole one of its length
pub over_whole : {n : ℕ} (l v : List ℕ) → length l ≡ n → length v ≡ n → over l 0 v ≡ v
over_whole l v h k =
    let none : drop (0 + length v) l ≡ [] = drop_of_length-le l (omega arith) in
    rw none (append-nil v)

-- `==` of two lists of numbers is whether they are the same
pub is_same_of_eq : (v l : List ℕ) (r : Bool) → r ≡ bytes_eq v l → r ≡ is_same v l
is_same_of_eq v l r e =
    same_from_decides r (is_same v l) (slice_eq-Decides Decides-eqb v l r e)
    ((λ t. same_eq v l (rw t tt)), (λ q. true_of (is_same v l) (rw q (same_self l))))
