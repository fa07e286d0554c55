-- Laws of the waiting messages: which messages wait after a sending or a removal, and which an outbox holds.
use mathlib.Core.Path.{◌≡◌, refl, sym, ap, ◌∙◌}
use mathlib.Core.Logic.{◌≢◌}
use mathlib.Core.Bool.{Bool, true, false, not}
use mathlib.Core.List.{List, ◌∷◌, ◌++◌}
use Prim.Native.Nat.{ℕ, zero, suc, ◌+◌, ◌-◌, ◌≤◌, ◌<◌}
use native.Mathlib.Nat.{not-suc-le-zero}
use native.Mathlib.Omega.{arith}
use native.Mathlib.Decide.{ℕ_discrete, dec_lt}
use lib.Dec.{T, eqb}
use lib.ListN.{length, get_or, set, take, drop, length-set, length-append, length-take, length-drop, get_or-append}
use lib.Seq.{get_or-set_same, get_or-set_other, get_or-take, get_or-drop, get_or-append-add, length-take-le}
use Rattle.types.specs.declared.Message.{Message}
use Rattle.types.specs.declared.Outbox.{Outbox}
use Rattle.types.specs.declared.Facade.{Facade}
use Rattle.rules.specs.Parts.{no_message}
use Rattle.rules.specs.Messages.{nothing, post, post_unless, to_servers, to_each, to_others, sent_behind, send_all, removed, without}
use Rattle.rules.proofs.Laws.{Or, inl, inr, not_eqb}

-- message m is among the first n
pub record Among (ms : List Message) (n : ℕ) (m : Message) : Type 0 where
  pub at : ℕ
  pub below : at < n
  pub is : get_or ms at no_message ≡ m

-- message m waits
abbrev pub Waits : Facade → Message → Type 0
Waits f m = Among f.messages f.waiting m

-- message m is sent with outbox o
abbrev pub Posted : Outbox → Message → Type 0
Posted o m = Among o.messages o.count m

-- Sending.

pub length_sent : (ms : List Message) (w : ℕ) (o : Outbox) (n : ℕ) → length (sent_behind ms w o n) ≡ length ms
unfolding sent_behind
length_sent ms w o zero = refl
length_sent ms w o (suc n) = length-set (sent_behind ms w o n) (w + n) _ ∙ length_sent ms w o n

-- what stands at each place, the first w being as they were
module _ (P : Message → Type 0) (ms : List Message) (w : ℕ) (o : Outbox) where
  sent_go : (n i : ℕ) → w + n < length ms → P (get_or o.messages n no_message) → (i ≢ w + n → P (get_or (sent_behind ms w o n) i no_message)) → Dec (i ≡ w + n)
      → P (get_or (set (sent_behind ms w o n) (w + n) (get_or o.messages n no_message)) i no_message)
  sent_go n i h new old (yes e) = rw (e, get_or-set_same (sent_behind ms w o n) (w + n) (get_or o.messages n no_message) no_message (omega (arith, length_sent ms w o n))) new
  sent_go n i h new old (no ne) = rw (get_or-set_other (sent_behind ms w o n) (w + n) i (get_or o.messages n no_message) no_message ne) (old ne)

  sent_case : (n : ℕ) → w + n ≤ length ms → (i : ℕ) → i < w + n
      → (i < w → P (get_or ms i no_message)) → ((j : ℕ) → j < n → P (get_or o.messages j no_message)) → P (get_or (sent_behind ms w o n) i no_message)
  unfolding sent_behind
  sent_case zero h i l old new = old (omega arith)
  sent_case (suc n) h i l old new =
      sent_go n i (omega arith) (new n (omega arith)) (λ ne. sent_case n (omega arith) i (omega arith) old (λ j h'. new j (omega arith))) (ℕ_discrete i (w + n))

-- a message that waits after a sending waited before, or was sent
pub waits_sent : (f : Facade) (o : Outbox) → f.waiting + o.count ≤ length f.messages → (m : Message) → Waits (send_all f o) m → Or (Waits f m) (Posted o m)
waits_sent f o h m x =
    sent_case (λ y. y ≡ m → Or (Waits f m) (Posted o m)) f.messages f.waiting o o.count h x.at x.below
    (λ l e. inl (record { at = x.at; below = l; is = e }))
    (λ j l e. inr (record { at = j; below = l; is = e }))
    x.is

pub posted_nothing : {X : Type 0} (m : Message) → Posted nothing m → X
posted_nothing m x = absurd (not-suc-le-zero x.below)

pub waits_unsent : (f : Facade) → f.waiting ≤ 128 → length f.messages ≡ 128 → (m : Message) → Waits (send_all f nothing) m → Waits f m
waits_unsent f h len m x = go (waits_sent f nothing (omega arith) m x)
  where
    go : Or (Waits f m) (Posted nothing m) → Waits f m
    go (inl y) = y
    go (inr y) = posted_nothing m y

-- Removal: of n waiting messages that at p is taken out.

module _ (ms : List Message) (p n : ℕ) (h : p < n) (l : n ≤ length ms) where
  front : List Message
  front = take p ms ++ take (n - suc p) (drop (suc p) ms)

  length_front : length front ≡ n - 1
  unfolding front
  length_front = simp (length-append, length-take, length-drop) (omega arith)

  pub length_removed : length (removed ms p n) ≡ length ms
  unfolding removed front
  length_removed = rw (length-append front (no_message ∷ drop n ms)) (omega (arith, length_front, length-drop n ms))

  removed_go : (P : Message → Type 0) (i : ℕ) → i < n - 1 → (i < p → P (get_or ms i no_message)) → (p ≤ i → P (get_or ms (suc i) no_message)) → Dec (i < p) → P (get_or front i no_message)
  unfolding front
  removed_go P i b lower upper (yes x) =
      rw (get_or-append (take p ms) (take (n - suc p) (drop (suc p) ms)) no_message i (omega (arith, length-take-le p ms (omega arith))), get_or-take p ms i no_message x) (lower x)
  removed_go P i b lower upper (no nx) =
      rw (← back)
      (rw (
        get_or-append-add (take p ms) (take (n - suc p) (drop (suc p) ms)) (i - p) no_message,
        get_or-take (n - suc p) (drop (suc p) ms) (i - p) no_message (omega arith),
        get_or-drop (suc p) ms (i - p) no_message,
        there,
      )
      (upper (omega arith)))
    where
      back : length (take p ms) + (i - p) ≡ i
      back = omega (arith, length-take-le p ms (omega arith))

      there : suc p + (i - p) ≡ suc i
      there = omega arith

  pub removed_case : (P : Message → Type 0) (i : ℕ) → i < n - 1 → (i < p → P (get_or ms i no_message)) → (p ≤ i → P (get_or ms (suc i) no_message)) → P (get_or (removed ms p n) i no_message)
  unfolding removed front
  removed_case P i b lower upper =
      rw (get_or-append front (no_message ∷ drop n ms) no_message i (omega (arith, length_front))) (removed_go P i b lower upper (dec_lt i p))

-- a message that waits after a removal waited before
pub waits_removed : (f : Facade) (p : ℕ) → p < f.waiting → f.waiting ≤ length f.messages → (m : Message) → Waits (without f p) m → Waits f m
waits_removed f p h l m x =
    removed_case f.messages p f.waiting h l (λ y. y ≡ m → Waits f m) x.at x.below
    (λ b e. record { at = x.at; below = omega arith; is = e })
    (λ b e. record { at = suc x.at; below = omega (arith, x.below); is = e })
    x.is

-- Outboxes.

posted_go : (o : Outbox) (y m : Message) (i : ℕ) → o.count < length o.messages → i < o.count + 1
    → Dec (i ≡ o.count) → get_or (set o.messages o.count y) i no_message ≡ m → Or (Posted o m) (y ≡ m)
posted_go o y m i h l (yes e) x = inr (sym (get_or-set_same o.messages o.count y no_message h) ∙ ap (λ k. get_or (set o.messages o.count y) k no_message) (sym e) ∙ x)
posted_go o y m i h l (no ne) x = inl (record { at = i; below = omega arith; is = sym (get_or-set_other o.messages o.count i y no_message ne) ∙ x })

pub posted_post : (o : Outbox) (y : Message) → o.count < length o.messages → (m : Message) → Posted (post o y) m → Or (Posted o m) (y ≡ m)
posted_post o y h m x = posted_go o y m x.at h x.below (ℕ_discrete x.at o.count) x.is

pub posted_one : (y m : Message) → Posted (post nothing y) m → y ≡ m
posted_one y m x = go (posted_post nothing y (omega arith) m x)
  where
    go : Or (Posted nothing m) (y ≡ m) → y ≡ m
    go (inl z) = posted_nothing m z
    go (inr e) = e

-- m is what g says to one of n servers
pub record ToServer (g : ℕ → Message) (n : ℕ) (m : Message) : Type 0 where
  pub to : ℕ
  pub below : to < n
  pub is : g to ≡ m

module _ (out : ℕ → Bool) (g : ℕ → Message) (o : Outbox) where
  unless_case : (P : Outbox → Type 0) (b : Bool) (x : Outbox) (y : Message) → (T b → P x) → (T (not b) → P (post x y)) → P (post_unless b x y)
  unfolding post_unless
  unless_case P true x y p q = p tt
  unless_case P false x y p q = q tt

  servers_length : (n : ℕ) → length (to_servers out g n o).messages ≡ length o.messages
  unfolding to_servers
  servers_length zero = refl
  servers_length (suc n) = unless_case (λ x. length x.messages ≡ length o.messages) (out n) (to_servers out g n o) (g n)
      (λ _. servers_length n) (λ _. length-set (to_servers out g n o).messages _ (g n) ∙ servers_length n)

  pub servers_count : (n : ℕ) → (to_servers out g n o).count ≤ o.count + n
  unfolding to_servers
  servers_count zero = omega arith
  servers_count (suc n) = unless_case (λ x. x.count ≤ o.count + suc n) (out n) (to_servers out g n o) (g n)
      (λ _. omega (arith, servers_count n)) (λ _. omega (arith, servers_count n))

  later : (n : ℕ) (m : Message) → Or (Posted o m) (ToServer g n m) → Or (Posted o m) (ToServer g (suc n) m)
  later n m (inl x) = inl x
  later n m (inr x) = inr (record { to = x.to; below = omega (arith, x.below); is = x.is })

  last : (n : ℕ) (m : Message) → (Posted (to_servers out g n o) m → Or (Posted o m) (ToServer g n m)) → Or (Posted (to_servers out g n o) m) (g n ≡ m) → Or (Posted o m) (ToServer g (suc n) m)
  last n m ih (inl x) = later n m (ih x)
  last n m ih (inr e) = inr (record { to = n; below = omega arith; is = e })

  -- where the outbox has room, what it holds was in it before or goes to a server
  posted_servers : (n : ℕ) → ((j : ℕ) → j < n → T (not (out j)) → (to_servers out g j o).count < length o.messages)
      → (m : Message) → Posted (to_servers out g n o) m → Or (Posted o m) (ToServer g n m)
  unfolding to_servers
  posted_servers zero room m = λ x. inl x
  posted_servers (suc n) room m =
      let ih : Posted (to_servers out g n o) m → Or (Posted o m) (ToServer g n m) = posted_servers n (λ j h. room j (omega arith)) m in
      unless_case (λ y. Posted y m → Or (Posted o m) (ToServer g (suc n) m)) (out n) (to_servers out g n o) (g n)
      (λ _ x. later n m (ih x))
      (λ t x. last n m ih (posted_post (to_servers out g n o) (g n) (omega (arith, servers_length n, room n (omega arith) t)) m x))

-- a broadcast to at most four servers
pub posted_each : (g : ℕ → Message) (n : ℕ) → n ≤ 4 → (m : Message) → Posted (to_each g n nothing) m → ToServer g n m
posted_each g n h m x = go (posted_servers (λ j. false) g nothing n (λ j l _. omega (arith, servers_count (λ j. false) g nothing j)) m x)
  where
    go : Or (Posted nothing m) (ToServer g n m) → ToServer g n m
    go (inl y) = posted_nothing m y
    go (inr y) = y

-- one message, then one to each server other than k
module _ (k : ℕ) (g : ℕ → Message) (o : Outbox) where
  pub others_count : (n : ℕ) → k < n → (to_others k g n o).count + 1 ≤ o.count + n
  unfolding to_servers
  others_count zero h = absurd (not-suc-le-zero h)
  others_count (suc n) h = unless_case (λ j. eqb j k) g o (λ x. x.count + 1 ≤ o.count + suc n) (eqb n k) (to_others k g n o) (g n)
      (λ _. omega (arith, servers_count (λ j. eqb j k) g o n))
      (λ t. omega (arith, others_count n (omega (arith, not_eqb n k t))))

pub posted_others : (k : ℕ) (g : ℕ → Message) (y : Message) (n : ℕ) → n ≤ 4 → k < 4 → (m : Message)
    → Posted (to_others k g n (post nothing y)) m → Or (y ≡ m) (ToServer g n m)
posted_others k g y n h k4 m x = go (posted_servers (λ j. eqb j k) g (post nothing y) n room m x)
  where
    room : (j : ℕ) → j < n → T (not (eqb j k)) → (to_others k g j (post nothing y)).count < 4
    room j l t = by (dec_lt k j)
      where
        by : Dec (k < j) → (to_others k g j (post nothing y)).count < 4
        by (yes b) = omega (arith, others_count k g (post nothing y) j b)
        by (no nb) = omega (arith, servers_count (λ j. eqb j k) g (post nothing y) j, not_eqb j k t)

    go : Or (Posted (post nothing y) m) (ToServer g n m) → Or (y ≡ m) (ToServer g n m)
    go (inl z) = inl (posted_one y m z)
    go (inr z) = inr z
