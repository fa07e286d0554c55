-- Bytes put over a buffer: what is put is there, what is not stays, and what is put after it goes on behind it.
use mathlib.Core.Path.{◌≡◌, sym, ap, ◌∙◌}
use mathlib.Core.List.{List, [], ◌∷◌, ◌++◌, append_assoc, append-nil}
use Prim.Native.Nat.{ℕ, ◌+◌, ◌≤◌}
use native.Mathlib.Nat.{add-zero, add_assoc}
use native.Mathlib.Omega.{arith}
use lib.ListN.{length, set, take, drop, length-append, length-drop, take-append-drop}
use lib.Seq.{sets-eq, take_at, drop-append-add, drop-drop, length-take-le}
use Rattle.wire.specs.Numbers.{over}

pub over_none : (l : List ℕ) (i : ℕ) → over l i [] ≡ l
over_none l i = simp (add-zero, append-nil, take-append-drop)

pub over_one : (l : List ℕ) (i x : ℕ) → i + 1 ≤ length l → set l i x ≡ over l i (x ∷ [])
over_one l i x h = sets-eq (x ∷ []) l i h

module _ (l : List ℕ) (i : ℕ) (v : List ℕ) (fits : i + length v ≤ length l) where
  front : length (take i l ++ v) ≡ i + length v
  front = simp length-append (ap (λ (k : ℕ). k + length v) (length-take-le i l (omega arith)))

  pub over_length : length (over l i v) ≡ length l
  over_length = simp (length-append, length-drop) (omega (arith, length-take-le i l (omega arith)))

  pub take_over : take (i + length v) (over l i v) ≡ take i l ++ v
  take_over = take_at (take i l ++ v) (drop (i + length v) l) (i + length v) front

  pub drop_over : (n : ℕ) → drop (i + length v + n) (over l i v) ≡ drop (i + length v + n) l
  drop_over n =
      ap (λ (k : ℕ). drop (k + n) (over l i v)) (sym front)
      ∙ drop-append-add (take i l ++ v) (drop (i + length v) l) n
      ∙ drop-drop n (i + length v) l

  pub over_over : (w : List ℕ) → over (over l i v) (i + length v) w ≡ over l i (v ++ w)
  over_over w =
      rw (take_over, drop_over (length w), length-append v w, append_assoc (take i l) v w, add_assoc i (length v) (length w))

-- a second put right behind a first
pub over_then : (l v w : List ℕ) (i j : ℕ) {l₁ l₂ : List ℕ} → i + length v ≤ length l → j ≡ i + length v → l₁ ≡ over l i v → l₂ ≡ over l₁ j w
    → l₂ ≡ over l i (v ++ w)
over_then l v w i j h e p q = q ∙ rw (p, e) (over_over l i v h w)
