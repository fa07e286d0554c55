-- What chains over the first numbers and places give, by `all`, `counted`, `lowest` and `filled` of the rules.
use mathlib.Core.Bool.{Bool, true, false, cond, ◌&&◌}
use mathlib.Core.List.{List, [], ◌∷◌, ◌++◌}
use mathlib.Core.Path.{◌≡◌, refl, sym, ap, ◌∙◌}
use Prim.Native.Nat.{ℕ, zero, suc, ◌+◌, ◌-◌, ◌≤◌, ◌<◌, min}
use native.Mathlib.Decide.{dec_lt, ℕ_discrete}
use native.Mathlib.Numerals.{add-one}
use native.Mathlib.Omega.{arith}
use borrow.Author.Tests.{lt-ltb, le-ltb}
use denote.Param.Members.{Mut}
use denote.Ref.{Bor}
use lib.Dec.{ltb}
use lib.ListN.{length, get_or, take, drop, set, take-append-drop, get_or-append}
use Rattle.std.specs.Fn.{Called, CalledAt}
use Rattle.std.specs.Iterator.Adapters.{take_source, take_count, take_steps, filter_source, filter_callee, filter_steps, enumerate_source, enumerate_count, enumerate_steps}
use Rattle.std.specs.Iterator.{YieldsThen, Drains}
use Rattle.std.specs.List.{range_with_len, list_all, FoldsTo, filter, enumerate_from}
use Rattle.std.specs.Prelude.{Option, Some, None, MatchOption, unwrap_or}
use Rattle.std.specs.Slice.Iter.{iter_rest}
use Rattle.std.specs.declared.ops.Range.{Range}
use Rattle.std.specs.declared.slice.Iter.{Iter}
use Rattle.std.proofs.iter.Yields.{nat_range_steps, fronts}
use Rattle.std.proofs.lemmas.Iterator.Consumers.{YieldsList-from_filter, YieldsList-from_enumerate, count_from_yields_List}
use Rattle.std.proofs.lemmas.Iterator.Search.{all_from_yields_List}
use Rattle.std.proofs.lemmas.Iterator.{first_from_Range, YieldsList-from_range, YieldsList-from_slice, YieldsList-from_take}
use Rattle.std.proofs.lemmas.List.Filters.{length-filter_more}
use Rattle.std.proofs.lemmas.List.Folds.{list_all_more}
use Rattle.std.proofs.lemmas.List.{set-append_left, take_min, length-take-le, get_or-take}
use Rattle.rules.proofs.Laws.{filled_ahead}
use Rattle.rules.specs.Conditions.{◌and◌, all, counted, lowest, filled}

-- `(0..n).all(f)`.

turned : (x l y : Bool) → (l and (x and y)) ≡ ((x && l) and y)
unfolding ◌and◌
turned true true y = refl
turned true false y = refl
turned false true y = refl
turned false false y = refl

turned_back : (x y : Bool) → (x && y) ≡ (y and x)
unfolding ◌and◌
turned_back true true = refl
turned_back true false = refl
turned_back false true = refl
turned_back false false = refl

same_end : (l : Bool) → (l and true) ≡ l
unfolding ◌and◌
same_end true = refl
same_end false = refl

-- the numbers below a, then n more
all_from : (p : ℕ → Bool) (n a : ℕ) → all p (a + n) ≡ (list_all p (range_with_len a n) and all p a)
unfolding all ◌and◌
all_from p zero a = ap (all p) (omega arith)
all_from p (suc n) a = let m : a + suc n ≡ (a + 1) + n = omega arith in
    rw (m, all_from p n (a + 1)) (rw add-one (turned (p a) (list_all p (range_with_len (suc a) n)) (all p a)))

all_listed : (p : ℕ → Bool) (n : ℕ) → list_all p (range_with_len 0 n) ≡ all p n
unfolding all
all_listed p n = let m : n ≡ 0 + n = omega arith in sym (ap (all p) m ∙ all_from p n 0 ∙ same_end (list_all p (range_with_len 0 n)))

-- by its clause `ran`, where f answers p and stays as it is
pub all_below : {F : Type 0} {g : Mut F (ℕ × Unit {0}) Bool} {u : Range ℕ} {f : F} {r : Bool} (p : ℕ → Bool) (n : ℕ)
    → (xs : List ℕ) × (o : Option ℕ) × (j : F) × YieldsThen nat_range_steps (record { start = 0; end = n }) xs o u × FoldsTo (λ a x b. Called g a (x, tt) true b) f xs j × MatchOption o (r ≡ true) (λ x. (r ≡ false) × ((h : F) × Called g j (x, tt) false h))
    → ((x : ℕ) (b : Bool) (q : F) → Called g f (x, tt) b q → (q ≡ f) × (b ≡ p x)) → r ≡ all p n
all_below p n d k = let m : n - 0 ≡ n = omega arith in
    all_from_yields_List p _ _ _ d (YieldsList-from_range 0 n n refl m) k ∙ all_listed p n

-- `xs[..n].iter().all(f)`.

all_taken : {A : Type 0} (test : A → Bool) (xs : List A) (d : A) (n : ℕ) → n ≤ length xs → list_all test (take n xs) ≡ all (λ k. test (get_or xs k d)) n
unfolding all
all_taken test xs d zero h = refl
all_taken test xs d (suc n) h = rw (← add-one) (list_all_more test xs n d (omega arith)) ∙ turned_back _ _ ∙ ap (λ b. test (get_or xs n d) and b) (all_taken test xs d n (omega arith))

-- where f answers `test` of what it is shown
pub all_in_first : {A F : Type 0} {g : Mut F (Bor A × Unit {0}) Bool} {s u : Iter A} {f : F} {r : Bool} (test : A → Bool) (xs : List A) (d : A) (n : ℕ) → n ≤ length xs → iter_rest s ≡ take n xs
    → (ys : List (Bor A)) × (o : Option (Bor A)) × (j : F) × YieldsThen fronts s ys o u × FoldsTo (λ a x b. Called g a (x, tt) true b) f ys j × MatchOption o (r ≡ true) (λ x. (r ≡ false) × ((h : F) × Called g j (x, tt) false h))
    → ((x : Bor A) (b : Bool) (q : F) → Called g f (x, tt) b q → (q ≡ f) × (b ≡ test x.now)) → r ≡ all (λ k. test (get_or xs k d)) n
all_in_first test xs d n h e a k = all_from_yields_List test _ _ _ a (YieldsList-from_slice _ e) k ∙ all_taken test xs d n h

-- `xs[..n].iter().enumerate().all(f)`.

-- the places of ys, numbered from a on, where test gives what p gives of the number
module _ {A : Type 0} (test : ℕ → A → Bool) (p : ℕ → Bool) (d : A) where
  all_numbered : (ys : List A) (a : ℕ) → ((i k : ℕ) → i < length ys → k ≡ a + i → test k (get_or ys i d) ≡ p k)
      → list_all (λ y. test y.0 y.1) (enumerate_from a ys) ≡ list_all p (range_with_len a (length ys))
  all_numbered [] a h = refl
  all_numbered (y ∷ ys) a h = rw (h 0 a (omega arith) (omega arith), all_numbered ys (a + 1) (λ i k b e. h (suc i) k (omega arith) (omega arith))) refl

-- where f answers `test` of a place's number and what it is shown
pub all_numbered_first : {A F : Type 0} {g : Mut F ((ℕ × Bor A) × Unit {0}) Bool} {s u : _} {f : F} {r : Bool} (test : ℕ → A → Bool) (xs : List A) (d : A) (n : ℕ)
    → n ≤ length xs → iter_rest (enumerate_source s) ≡ take n xs → enumerate_count s ≡ 0
    → (ys : List (ℕ × Bor A)) × (o : Option (ℕ × Bor A)) × (j : F) × YieldsThen (enumerate_steps fronts) s ys o u × FoldsTo (λ a x b. Called g a (x, tt) true b) f ys j × MatchOption o (r ≡ true) (λ x. (r ≡ false) × ((h : F) × Called g j (x, tt) false h))
    → ((x : ℕ × Bor A) (b : Bool) (q : F) → Called g f (x, tt) b q → (q ≡ f) × (b ≡ test x.0 x.1.now)) → r ≡ all (λ k. test k (get_or xs k d)) n
all_numbered_first test xs d n h e z a k =
    let p : ℕ → Bool = λ i. test i (get_or xs i d) in
    let m : length (take n xs) ≡ n = length-take-le n xs h in
    all_from_yields_List (λ y. test y.0 y.1) _ _ _ a (YieldsList-from_enumerate (YieldsList-from_slice _ e) z) k
    ∙ all_numbered test p d (take n xs) 0 (λ i j b q. let w : j ≡ i = omega arith in rw (w, get_or-take n xs i d (omega arith)) refl)
    ∙ rw m (all_listed p n)

-- `xs.iter().take(n).filter(f).count()`.

one_or_none : (b : Bool) (x : ℕ) → x + cond b 1 0 ≡ cond b (x + 1) x
one_or_none true x = refl
one_or_none false x = omega arith

module _ {A : Type 0} (test : A → Bool) (xs : List A) (d : A) (n : ℕ) where
  -- how many of the first k places, and of the first n, pass
  abbrev found : ℕ → ℕ
  found k = length (filter test (take (min n k) xs))

  found_next : (k : ℕ) → k < length xs → Dec (k < n) → found (suc k) ≡ cond (ltb k n and test (get_or xs k d)) (found k + 1) (found k)
  unfolding ◌and◌
  found_next k h (yes l) = let a : min n (suc k) ≡ k + 1 = omega arith in let b : min n k ≡ k = omega arith in
      rw (lt-ltb k n l, a, b) (length-filter_more test xs k d h ∙ one_or_none _ _)
  found_next k h (no nl) = let a : min n (suc k) ≡ n = omega arith in let b : min n k ≡ n = omega arith in rw (le-ltb k n (omega arith), a, b) refl

  found_below : (k : ℕ) → k ≤ length xs → found k ≡ counted (λ i. ltb i n and test (get_or xs i d)) k
  unfolding counted
  found_below zero h = let a : min n 0 ≡ 0 = omega arith in rw a refl
  found_below (suc k) h = found_next k (omega arith) (dec_lt k n) ∙ ap (λ c. cond (ltb k n and test (get_or xs k d)) (c + 1) c) (found_below k (omega arith))

  counted_taken : length (filter test (take n xs)) ≡ counted (λ i. ltb i n and test (get_or xs i d)) (length xs)
  counted_taken = ap (λ l. length (filter test l)) (sym (take_min n xs)) ∙ found_below (length xs) (omega arith)

-- where f answers `test` of what it is shown
pub count_of_first : {A F : Type 0} {g : Mut F (Bor (Bor A) × Unit {0}) Bool} {s : _} {f : F} {r : ℕ} (test : A → Bool) (xs : List A) (d : A) (n : ℕ)
    → iter_rest (take_source (filter_source s)) ≡ xs → take_count (filter_source s) ≡ n → filter_callee s ≡ f
    → (ys : List (Bor A)) × Drains (filter_steps (take_steps fronts) g) s ys × (r ≡ length ys)
    → ((x : Bor A) (b : Bool) (q : F) → CalledAt g f x b q → (q ≡ f) × (b ≡ test x.now)) → r ≡ counted (λ i. ltb i n and test (get_or xs i d)) (length xs)
count_of_first {g = g} test xs d n e h k a t =
    count_from_yields_List _ _ a (YieldsList-from_filter g test (YieldsList-from_take n (YieldsList-from_slice xs e) h) k t) ∙ counted_taken test xs d n

-- `(0..n).find(f)`.

none_low : (p : ℕ → Bool) (m k : ℕ) → ((j : ℕ) → k ≤ j → j < k + m → false ≡ p j) → lowest p k m ≡ k + m
unfolding lowest
none_low p zero k f = omega arith
none_low p (suc m) k f = rw (← f k (omega arith) (omega arith)) (none_low p m (suc k) (λ j a b. f j (omega arith) (omega arith)) ∙ omega arith)

one_low : (p : ℕ → Bool) (m k i : ℕ) → true ≡ p i → (k < i → false ≡ p k) → (k < i → lowest p (suc k) m ≡ i) → k ≤ i → Dec (k ≡ i) → lowest p k (suc m) ≡ i
unfolding lowest
one_low p m k i e f go h (yes q) = rw (q, ← e) refl
one_low p m k i e f go h (no ne) = let l : k < i = omega arith in rw (← f l) (go l)

some_low : (p : ℕ → Bool) (m k i : ℕ) → k ≤ i → i < k + m → true ≡ p i → ((j : ℕ) → k ≤ j → j < i → false ≡ p j) → lowest p k m ≡ i
some_low p zero k i a b e f = absurd (omega arith)
some_low p (suc m) k i a b e f =
    one_low p m k i e (f k (omega arith)) (λ l. some_low p m (suc k) i (omega arith) (omega arith) e (λ j c d. f j (omega arith) d)) a (ℕ_discrete k i)

lowest_of : (p : ℕ → Bool) (n : ℕ) (r : Option ℕ) → MatchOption r ((k : ℕ) → 0 ≤ k → k < n → false ≡ p k) (λ i. (0 ≤ i) × (i < n) × (true ≡ p i) × ((k : ℕ) → 0 ≤ k → k < i → false ≡ p k))
    → unwrap_or r 0 ≡ cond (ltb (lowest p 0 n) n) (lowest p 0 n) 0
lowest_of p n None h = let e : lowest p 0 n ≡ n = none_low p n 0 (λ j a b. h j a (omega arith)) ∙ omega arith in rw (e, le-ltb n n (omega arith)) refl
lowest_of p n (Some i) h = let e : lowest p 0 n ≡ i = some_low p n 0 i h.0 (omega arith) h.2 h.3 in rw (e, lt-ltb i n h.1) refl

-- where f answers p: the lowest of the numbers, or 0 where there is none
pub lowest_below : {F : Type 0} {g : Mut F (Bor ℕ × Unit {0}) Bool} {f : F} (p : ℕ → Bool) (n : ℕ) (u : Range ℕ) (r : Option ℕ)
    → (xs : List ℕ) × (j : F) × YieldsThen nat_range_steps (record { start = 0; end = n }) xs r u × FoldsTo (λ a x b. CalledAt g a x false b) f xs j × MatchOption r (Unit {0}) (λ x. (h : F) × CalledAt g j x true h)
    → ((x : ℕ) (b : Bool) (q : F) → CalledAt g f x b q → (q ≡ f) × (b ≡ p x)) → unwrap_or r 0 ≡ cond (ltb (lowest p 0 n) n) (lowest p 0 n) 0
lowest_below p n u r d k = lowest_of p n r (first_from_Range _ _ _ r (λ x. true ≡ p x) (λ x. false ≡ p x) d (λ x q c. (k x true q c).1) (λ x q. k x false q))

-- `for x in xs[..n].iter_mut()`.

-- The loop over the first n places of l is at place i: g has written those before, and front is what the loop has of the n.
pub record Written {A : Type 0} (g : ℕ → A) (n : ℕ) (l : List A) (i : ℕ) (front : List A) : Type 0 where
  pub is : front ++ drop n l ≡ filled g i l

pub written_none : {A : Type 0} (g : ℕ → A) (n : ℕ) (l : List A) → Written g n l 0 (take n l)
unfolding filled
written_none g n l = record { is = take-append-drop n l }

module _ {A : Type 0} {g : ℕ → A} {n : ℕ} {l : List A} {i : ℕ} {front : List A} (w : Written g n l i front) where
  -- the place that comes next is as it was
  pub next_still : (d : A) → i < length front → get_or front i d ≡ get_or l i d
  next_still d h = sym (get_or-append front (drop n l) d i h) ∙ ap (λ k. get_or k i d) w.is ∙ filled_ahead g i l d

  pub written_more : (x : A) → i < length front → x ≡ g i → Written g n l (i + 1) (set front i x)
  unfolding filled
  written_more x h e = record { is = sym (set-append_left front (drop n l) i x h) ∙ rw (w.is, e, add-one) refl }

  pub written_all : i ≡ n → front ++ drop n l ≡ filled g n l
  written_all h = w.is ∙ ap (λ k. filled g k l) h
