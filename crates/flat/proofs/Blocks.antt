-- Blocks of equal width: what a list holds at a place, block i of it, and reading all blocks back.
use mathlib.Core.Path.{◌≡◌, refl, sym, ap, ◌∙◌, subst}
use mathlib.Core.Bool.{true}
use mathlib.Core.List.{List, [], ◌∷◌, ◌++◌}
use Prim.Native.Nat.{ℕ, zero, suc, ◌+◌, ◌*◌, ◌<◌}
use native.Mathlib.Nat.{mul-suc, mul-zero}
use native.Mathlib.Omega.{arith}
use lib.Dec.{T, eqb, eqb→eq, eqb_refl}
use lib.ListN.{length, get_or, take, length-append, get_or-append}
use lib.Seq.{get_or-append-add, ext_get_or}
use Rattle.std.specs.List.{All, concat, flat_map}
use Rattle.std.proofs.lemmas.List.Elements.{All-head, All-tail, All-weaker}
use Rattle.std.proofs.lemmas.List.FromFn.{fill_by_all}
use Rattle.rules.proofs.Laws.{true_of, and_l, and_r, and_both, all_at, all_by}
use Rattle.flat.specs.Blocks.{each_in, Holds, IsFlat, is_same, codes}
use Rattle.flat.specs.Shape.{Has}

holds_all : (l : List ℕ) → Holds l 0 l
holds_all l = record { at = λ j h. ap (λ (k : ℕ). get_or l k 0) (omega arith) }

module _ {l : List ℕ} {p : ℕ} (v w : List ℕ) (h : Holds l p (v ++ w)) where
  holds_left : Holds l p v
  holds_left = record { at = λ j k. h.at j (omega (arith, length-append v w)) ∙ get_or-append v w 0 j k }

  holds_right : (q : ℕ) → q ≡ p + length v → Holds l q w
  holds_right q e = record {
    at = λ j k.
        let at : q + j ≡ p + (length v + j) = omega arith in
        ap (λ (i : ℕ). get_or l i 0) at ∙ h.at (length v + j) (omega (arith, length-append v w)) ∙ get_or-append-add v w j 0;
  }

-- part i of lists one behind the other
pub holds_part : {l : List ℕ} (vs : List (List ℕ)) (i p q : ℕ) → Holds l p (concat vs) → i < length vs → q ≡ p + length (concat (take i vs)) → Holds l q (get_or vs i [])
holds_part [] i p q h k e = absurd (omega arith)
holds_part {l} (v ∷ vs) zero p q h k e = subst (λ (r : ℕ). Holds l r v) (omega arith) (holds_left v (concat vs) h)
holds_part (v ∷ vs) (suc i) p q h k e =
    let rest = holds_right v (concat vs) h (p + length v) refl in
    holds_part vs i (p + length v) q rest (omega arith) (omega (arith, length-append v (concat (take i vs))))

-- Blocks of w numbers each.
module _ {A : Type 0} (f : A → List ℕ) (w : ℕ) where
  blocks_length : (xs : List A) → All (λ x. length (f x) ≡ w) xs → length (flat_map f xs) ≡ w * length xs
  blocks_length [] e = sym (mul-zero w)
  blocks_length (x ∷ xs) e =
      let s : w * suc (length xs) ≡ w * length xs + w = mul-suc w (length xs) in
      let here = All-head (λ x. length (f x) ≡ w) x xs e in
      let rest = blocks_length xs (All-tail (λ x. length (f x) ≡ w) x xs e) in
      omega (arith, s, length-append (f x) (flat_map f xs), rest, here)

  -- block i
  block : (l : List ℕ) (xs : List A) (d : A) → All (λ x. length (f x) ≡ w) xs
      → (p : ℕ) → Holds l p (flat_map f xs) → (i : ℕ) → i < length xs → Holds l (p + w * i) (f (get_or xs i d))
  block l [] d e p h i k = absurd (omega arith)
  block l (x ∷ xs) d e p h zero k =
      let at : p ≡ p + w * 0 = omega (arith, mul-zero w) in
      subst (λ (q : ℕ). Holds l q (f x)) at (holds_left (f x) (flat_map f xs) h)
  block l (x ∷ xs) d e p h (suc i) k =
      let at : p + w + w * i ≡ p + w * suc i = omega (arith, mul-suc w i) in
      let here = All-head (λ x. length (f x) ≡ w) x xs e in
      let rest : Holds l (p + w) (flat_map f xs) = holds_right (f x) (flat_map f xs) h (p + w) (omega arith) in
      subst (λ (q : ℕ). Holds l q (f (get_or xs i d))) at
      (block l xs d (All-tail (λ x. length (f x) ≡ w) x xs e) (p + w) rest i (omega arith))

-- so many flat values, one behind the other
module _ {A : Type 0} {P : A → Type 0} {numbers : A → List ℕ} {read : List ℕ → ℕ → A} {w : ℕ} where
  pub array_flat : (n : ℕ) (xs : List A) → length xs ≡ n → All (IsFlat P numbers read w) xs
      → IsFlat (Has n P) (flat_map numbers) (each_in read w n) (w * n) xs
  unfolding each_in
  array_flat n xs many each =
      let wide = All-weaker (IsFlat P numbers read w) (λ x. length (numbers x) ≡ w) (λ x h. h.wide) xs each in
      record {
        shaped = record { many = many; each = All-weaker (IsFlat P numbers read w) P (λ x h. h.shaped) xs each };
        wide = blocks_length numbers w xs wide ∙ ap (λ (k : ℕ). w * k) many;
        reads = λ l p h.
            let d = read l p in
            sym (fill_by_all (λ i. read l (p + w * i)) xs n d many
            (λ k b. sym ((each k d (omega arith)).reads l (p + w * k) (block numbers w l xs d wide p h k (omega arith)))));
      }

-- Two lists are the same numbers, and a list that codes something.

pub same_self : (l : List ℕ) → T (is_same l l)
unfolding is_same
same_self l = and_both _ _ (eqb_refl (length l)) (all_by _ (length l) (λ i h. eqb_refl (get_or l i 0)))

pub same_eq : (v l : List ℕ) → T (is_same v l) → v ≡ l
unfolding is_same
same_eq v l t =
    let e = eqb→eq (length v) (length l) (and_l _ _ t) in
    let a = and_r (eqb (length v) (length l)) _ t in
    ext_get_or 0 v l e (λ i h. eqb→eq _ _ (all_at _ (length l) a i (omega arith)))

module _ {A : Type 0} (numbers : A → List ℕ) (read : List ℕ → ℕ → A) (w : ℕ) where
  pub coded_length : (l : List ℕ) → codes numbers read w l ≡ true → length l ≡ w
  unfolding codes
  coded_length l e =
      let t : T (codes numbers read w l) = rw e tt in
      eqb→eq (length l) w (and_l (eqb (length l) w) (is_same (numbers (read l 0)) l) t)

  pub coded : (l : List ℕ) → codes numbers read w l ≡ true → numbers (read l 0) ≡ l
  unfolding codes
  coded l e =
      let t : T (codes numbers read w l) = rw e tt in
      same_eq (numbers (read l 0)) l (and_r (eqb (length l) w) (is_same (numbers (read l 0)) l) t)

  -- the numbers of a flat value read as the value, and code it
  module _ {P : A → Type 0} {x : A} (h : IsFlat P numbers read w x) where
    pub own_reads : read (numbers x) 0 ≡ x
    own_reads = h.reads (numbers x) 0 (holds_all (numbers x))

    pub own_coded : codes numbers read w (numbers x) ≡ true
    unfolding codes
    own_coded =
        let wide : T (eqb (length (numbers x)) w) = rw h.wide (eqb_refl w) in
        true_of _ (and_both _ _ wide (rw own_reads (same_self (numbers x))))
