-- Laws of the tests and repetitions that the rules are written with, and of lists with a place replaced.
use mathlib.Core.Path.{◌≡◌, refl, ◌∙◌}
use mathlib.Core.Logic.{◌≢◌}
use mathlib.Core.Bool.{Bool, true, false, not, cond}
use mathlib.Core.List.{List}
use Prim.Native.Nat.{ℕ, zero, suc, ◌+◌, ◌≤◌, ◌<◌}
use native.Mathlib.Nat.{not-suc-le-zero}
use native.Mathlib.Omega.{arith}
use native.Mathlib.Decide.{ℕ_discrete, dec_lt}
use lib.Dec.{T, eqb, leb→le, eqb_refl}
use lib.ListN.{length, get_or, set, replicate, length-set}
use lib.Seq.{get_or-set_same, get_or-set_other, set_out}
use Rattle.rules.specs.Conditions.{◌and◌, ◌or◌, is_within, unless, all, counted, filled}

pub data Or (A B : Type 0) : Type 0 where
  inl : A → Or A B
  inr : B → Or A B

-- Tests.

pub true_of : (b : Bool) → T b → b ≡ true
true_of true t = refl
true_of false t = absurd t

pub and_l : (a b : Bool) → T (a and b) → T a
unfolding ◌and◌
and_l true b t = tt
and_l false b t = t

pub and_r : (a b : Bool) → T (a and b) → T b
unfolding ◌and◌
and_r true b t = t
and_r false b t = absurd t

pub and_both : (a b : Bool) → T a → T b → T (a and b)
unfolding ◌and◌
and_both true b s t = t
and_both false b s t = s

-- what a test that the code makes in two gives: the second where the first holds, and else the first
pub and_true : (a b : Bool) → a ≡ true → (a and b) ≡ b
unfolding ◌and◌
and_true a b e = rw e

pub and_false : (a b : Bool) → a ≡ false → (a and b) ≡ false
unfolding ◌and◌
and_false a b e = rw e

pub or_true : (a b : Bool) → a ≡ true → (a or b) ≡ true
unfolding ◌or◌
or_true a b e = rw e

pub or_false : (a b : Bool) → a ≡ false → (a or b) ≡ b
unfolding ◌or◌
or_false a b e = rw e

pub ruleset tests = (and_true, and_false, or_true, or_false)

pub or_elim {ℓ} : {X : Type ℓ} (a b : Bool) → T (a or b) → (T a → X) → (T b → X) → X
unfolding ◌or◌
or_elim true b t f g = f tt
or_elim false b t f g = g t

pub or_l : (a b : Bool) → T a → T (a or b)
unfolding ◌or◌
or_l true b t = t
or_l false b t = absurd t

pub or_r : (a b : Bool) → T b → T (a or b)
unfolding ◌or◌
or_r true b t = tt
or_r false b t = t

pub clash {ℓ} : {X : Type ℓ} (a : Bool) → T a → T (not a) → X
clash true p q = absurd q
clash false p q = absurd p

pub not_eqb : (m n : ℕ) → T (not (eqb m n)) → m ≢ n
not_eqb m n t = λ e. clash (eqb m n) (rw e (eqb_refl n)) t

-- what holds in each case of a test holds of the choice
pub cond_case : {A : Type 0} (P : A → Type 0) (b : Bool) (x y : A) → (T b → P x) → (T (not b) → P y) → P (cond b x y)
cond_case P true x y p q = p tt
cond_case P false x y p q = q tt

pub within_low : (low high x : ℕ) → T (is_within low high x) → low ≤ x
unfolding is_within
within_low low high x t = leb→le low x (and_l _ _ t)

pub within_high : (low high x : ℕ) → T (is_within low high x) → x ≤ high
unfolding is_within
within_high low high x t = leb→le x high (and_r _ _ t)

-- a chain of rules that gives 0 has kept the first and gives 0 below it
pub unless_ok : (b : Bool) (n below : ℕ) → 0 < n → unless b n below ≡ 0 → T b × (below ≡ 0)
unfolding unless
unless_ok true n below h e = (tt, e)
unless_ok false n below h e = absurd (omega arith)

all_at_go : (p : ℕ → Bool) (n : ℕ) → T (p n) → ((i : ℕ) → i < n → T (p i)) → (i : ℕ) → i < suc n → Dec (i ≡ n) → T (p i)
all_at_go p n t f i h (yes e) = rw e t
all_at_go p n t f i h (no ne) = f i (omega arith)

pub all_at : (p : ℕ → Bool) (n : ℕ) → T (all p n) → (i : ℕ) → i < n → T (p i)
unfolding all
all_at p zero t i h = absurd (not-suc-le-zero h)
all_at p (suc n) t i h = all_at_go p n (and_l (p n) (all p n) t) (all_at p n (and_r (p n) (all p n) t)) i h (ℕ_discrete i n)

pub all_by : (p : ℕ → Bool) (n : ℕ) → ((i : ℕ) → i < n → T (p i)) → T (all p n)
unfolding all
all_by p zero f = tt
all_by p (suc n) f = and_both (p n) (all p n) (f n (omega arith)) (all_by p n (λ i h. f i (omega arith)))

-- no more numbers are counted than there are
counted_go : (b : Bool) (x n : ℕ) → x ≤ n → cond b (x + 1) x ≤ suc n
counted_go true x n h = omega arith
counted_go false x n h = omega arith

pub counted_high : (p : ℕ → Bool) (n : ℕ) → counted p n ≤ n
unfolding counted
counted_high p zero = omega arith
counted_high p (suc n) = counted_go (p n) (counted p n) n (counted_high p n)

-- Lists.

-- a place of a list with place i replaced by x
set_case_go : {A : Type 0} (P : A → Type 0) (l : List A) (i : ℕ) (x d : A) (k : ℕ) → i < length l
    → (k ≡ i → P x) → (k ≢ i → P (get_or l k d)) → Dec (k ≡ i) → P (get_or (set l i x) k d)
set_case_go P l i x d k h same other (yes e) = rw (e, get_or-set_same l i x d h) (same e)
set_case_go P l i x d k h same other (no ne) = rw (get_or-set_other l i k x d ne) (other ne)

pub set_case : {A : Type 0} (P : A → Type 0) (l : List A) (i : ℕ) (x d : A) (k : ℕ) → i < length l
    → (k ≡ i → P x) → (k ≢ i → P (get_or l k d)) → P (get_or (set l i x) k d)
set_case P l i x d k h same other = set_case_go P l i x d k h same other (ℕ_discrete k i)

-- the same where the list may be too short, if the old value would do as well
set_any_go : {A : Type 0} (P : A → Type 0) (l : List A) (i : ℕ) (x d : A) (k : ℕ) → (k ≡ i → P x) → P (get_or l k d) → Dec (i < length l) → P (get_or (set l i x) k d)
set_any_go P l i x d k new old (yes h) = set_case P l i x d k h new (λ _. old)
set_any_go P l i x d k new old (no nh) = rw (set_out l i x (omega arith)) old

pub set_any : {A : Type 0} (P : A → Type 0) (l : List A) (i : ℕ) (x d : A) (k : ℕ) → (k ≡ i → P x) → P (get_or l k d) → P (get_or (set l i x) k d)
set_any P l i x d k new old = set_any_go P l i x d k new old (dec_lt i (length l))

-- every place of a repeat
pub rep_ind : {A : Type 0} (P : A → Type 0) (n : ℕ) (x d : A) (i : ℕ) → P x → P d → P (get_or (replicate n x) i d)
rep_ind P zero x d i p q = q
rep_ind P (suc n) x d zero p q = p
rep_ind P (suc n) x d (suc i) p q = rep_ind P n x d i p q

pub rep_true : (n j : ℕ) → j < n → T (get_or (replicate n true) j false)
rep_true zero j h = absurd (not-suc-le-zero h)
rep_true (suc n) zero h = tt
rep_true (suc n) (suc j) h = rep_true n j (omega arith)

pub rep_false : (n a : ℕ) → T (get_or (replicate n false) a false) → ⊥
rep_false n a = rep_ind (λ b. T b → ⊥) n false false a (λ t. t) (λ t. t)

-- a list filled below n

pub length_filled : {A : Type 0} (g : ℕ → A) (n : ℕ) (l : List A) → length (filled g n l) ≡ length l
unfolding filled
length_filled g zero l = refl
length_filled g (suc n) l = length-set (filled g n l) n (g n) ∙ length_filled g n l

filled_at_go : {A : Type 0} (g : ℕ → A) (n : ℕ) (l : List A) (d : A) (i : ℕ) → i < suc n → i < length l
    → (i < n → get_or (filled g n l) i d ≡ g i) → Dec (i ≡ n) → get_or (set (filled g n l) n (g n)) i d ≡ g i
filled_at_go g n l d i h h' ih (yes e) = rw (e, get_or-set_same (filled g n l) n (g n) d (omega (arith, length_filled g n l)))
filled_at_go g n l d i h h' ih (no ne) = get_or-set_other (filled g n l) n i (g n) d ne ∙ ih (omega arith)

pub filled_at : {A : Type 0} (g : ℕ → A) (n : ℕ) (l : List A) (d : A) (i : ℕ) → i < n → i < length l → get_or (filled g n l) i d ≡ g i
unfolding filled
filled_at g zero l d i h h' = absurd (not-suc-le-zero h)
filled_at g (suc n) l d i h h' = filled_at_go g n l d i h h' (λ h''. filled_at g n l d i h'' h') (ℕ_discrete i n)

pub filled_any : {A : Type 0} (P : A → Type 0) (g : ℕ → A) (n : ℕ) (l : List A) (d : A) (i : ℕ)
    → (i < n → P (g i)) → P (get_or l i d) → P (get_or (filled g n l) i d)
unfolding filled
filled_any P g zero l d i new old = old
filled_any P g (suc n) l d i new old =
    set_any P (filled g n l) n (g n) d i (λ e. rw (← e) (new (omega arith))) (filled_any P g n l d i (λ h. new (omega arith)) old)

-- the place that is filled next is as it was
pub filled_ahead : {A : Type 0} (g : ℕ → A) (n : ℕ) (l : List A) (d : A) → get_or (filled g n l) n d ≡ get_or l n d
filled_ahead g n l d = filled_any (λ x. x ≡ get_or l n d) g n l d n (λ h. absurd (omega arith)) refl
