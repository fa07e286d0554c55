-- The walk over the servers, of n, in the order of address a, up to server k: b is the set believed live.
use mathlib.Core.Path.{◌≡◌, refl, sym, ap, ◌∙◌}
use mathlib.Core.Logic.{◌≢◌}
use mathlib.Core.Bool.{Bool, true, false, not}
use mathlib.Core.List.{List}
use Prim.Native.Nat.{ℕ, ◌+◌, ◌-◌, ◌%◌, ◌≤◌, ◌<◌}
use native.Mathlib.Nat.{mod-lt, mod_self, mod-mod, mod-eq_of_lt, mod-add-mod}
use native.Mathlib.Omega.{arith}
use lib.Dec.{T, le→leb, leb→le}
use Rattle.types.specs.declared.Config.{Config}
use Rattle.rules.specs.Conditions.{◌and◌, ◌or◌}
use Rattle.rules.specs.Parts.{believes}
use Rattle.rules.specs.Order.{rank, is_first}
use Rattle.rules.specs.Server.{may_lead}
use Rattle.rules.proofs.Laws.{true_of, and_r, or_elim, all_at, all_by}
use Rattle.rules.proofs.Leadership.{rank_one}

when_or : (x y : Bool) → (T x → T y) → T (not x or y)
unfolding ◌or◌
when_or true y f = f tt
when_or false y f = tt

and_true : (x y : Bool) → T y → x ≡ (x and y)
unfolding ◌and◌
and_true true y t = sym (true_of y t)
and_true false y t = refl

false_of : (x : Bool) → (T x → ⊥) → false ≡ x
false_of true f = absurd (f tt)
false_of false f = refl

-- Ranks.

rank_below : (n a j : ℕ) → 1 ≤ n → rank n a j < n
unfolding rank
rank_below n a j h = mod-lt (j + (n - a % n)) h

-- the walk starts at rank 0
rank_start : (n a : ℕ) → 1 ≤ n → rank n a (a % n) ≡ 0
unfolding rank
rank_start n a h = let e : a % n + (n - a % n) ≡ n = omega (arith, mod-lt a h) in rw e (mod_self n)

-- the next in the round is the next in rank
rank_next : (n a j : ℕ) → rank n a j + 1 < n → rank n a ((j + 1) % n) ≡ rank n a j + 1
unfolding rank
rank_next n a j h =
    let d = n - a % n in
    let same : j + 1 + d ≡ j + d + 1 = omega arith in
    mod-add-mod (j + 1) n d ∙ ap (λ (x : ℕ). x % n) same ∙ sym (mod-add-mod (j + d) n 1) ∙ mod-eq_of_lt h

-- the walk is at server j: not behind k, and no server of lower rank is believed live
pub record Reached (n a k : ℕ) (b : List Bool) (j : ℕ) : Type 0 where
  pub server : j < n
  pub low : rank n a j ≤ rank n a k
  pub first : (i : ℕ) → i < n → T (believes b i) → rank n a j ≤ rank n a i

module _ (n a k : ℕ) (b : List Bool) where
  pub reached_start : a < n → Reached n a k b a
  reached_start h =
      let e : rank n a a ≡ 0 = rw (mod-eq_of_lt h) at (rank_start n a (omega arith)) in
      record { server = h; low = omega arith; first = λ i p t. omega arith }

  -- at k: it is first if it is believed live
  pub reached_end : Reached n a k b k → believes b k ≡ is_first n a k b
  unfolding is_first
  reached_end r = and_true (believes b k) _ (all_by _ n (λ i h. when_or (believes b i) _ (λ t. le→leb _ _ (r.first i h t))))

  -- at another server
  module _ (j : ℕ) (r : Reached n a k b j) (at : (n ≤ 4) × (k < n) × (j ≢ k)) where
    apart : (i : ℕ) → i < n → i ≢ j → rank n a i ≢ rank n a j
    apart i h ne e = ne (rank_one n a i j (omega arith) at.0 h r.server e)

    lower : rank n a j < rank n a k
    lower = omega (arith, apart k (omega arith) (omega arith))

    next : rank n a ((j + 1) % n) ≡ rank n a j + 1
    next = rank_next n a j (omega (arith, lower, rank_below n a k (omega arith)))

    -- that is believed live: k is not first
    pub reached_other : believes b j ≡ true → false ≡ is_first n a k b
    unfolding is_first
    reached_other e =
        false_of (is_first n a k b)
        (λ t. or_elim (not (believes b j)) _ (all_at _ n (and_r (believes b k) _ t) j r.server) (λ x. rw e at x) (λ x. omega (arith, lower, leb→le)))

    -- that is not: the walk goes on
    pub reached_next : believes b j ≡ false → Reached n a k b ((j + 1) % n)
    reached_next e = record {
      server = mod-lt (j + 1) (omega arith);
      low = omega (arith, next, lower);
      first = λ i h t. let ne : i ≢ j = λ q. rw (q, e) at t in omega (arith, next, apart i h ne, r.first i h t);
    }

    pub nearer : rank n a k - rank n a ((j + 1) % n) < rank n a k - rank n a j
    nearer = omega (arith, next, lower)

-- The order of an address is that of its remainder.
same_first : (n a k : ℕ) (b : List Bool) → is_first n (a % n) k b ≡ is_first n a k b
unfolding is_first rank
same_first n a k b = rw (mod-mod a n)

pub may_lead_lem : (c : Config) (k r returned : ℕ) (before : Bool) (b : List Bool) (a : ℕ) → may_lead c k r returned before b (a % c.servers) ≡ may_lead c k r returned before b a
may_lead_lem c k r returned before b a = rw (same_first c.servers a k b)

-- and that of the next address begins with the next server
pub next_first : (n a j : ℕ) → j ≡ a % n → (j + 1) % n ≡ (a + 1) % n
next_first n a j e = rw e (mod-add-mod a n 1)
