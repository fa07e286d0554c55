-- One record: a step that is written reads as itself, and a record that is read and accepted is written as its own bytes.
use mathlib.Core.Path.{◌≡◌, refl, sym, ap, ◌∙◌}
use mathlib.Core.Bool.{Bool, true, false, cond}
use mathlib.Core.List.{List, [], ◌∷◌, ◌++◌}
use Prim.Native.Nat.{ℕ, zero, suc, ◌+◌, ◌*◌, ◌<◌, ◌≤◌}
use native.Mathlib.Numerals.{add-one}
use native.Mathlib.Nat.{add-zero}
use native.Mathlib.Omega.{arith}
use borrow.Author.Tests.{lt-ltb, eq-eqb}
use lib.Dec.{T, ltb, ltb→lt, eqb→eq, T_not}
use lib.ListN.{length, get_or, take, drop, length-append, length-drop, take-append-drop}
use lib.Seq.{get_or-drop, drop-drop, drop-cons, take_at, length-take-le}
use Rattle.types.specs.declared.Step.{Step}
use Rattle.rules.specs.Conditions.{◌and◌, ◌or◌}
use Rattle.rules.specs.Steps.{action_of, is_known, malformed}
use Rattle.rules.proofs.Laws.{and_l, and_r, or_elim, unless_ok}
use Rattle.wire.specs.Numbers.{bytes_of}
use Rattle.wire.proofs.Numbers.{number_front}
use Rattle.script.specs.Layout.{step_of, fields_of, length_of, step_refusal, record_of}
use Rattle.script.specs.Reading.{Decoded, Found, field_in, step_in, is_framed, decode, part, is_whole, record_at}
use Rattle.script.specs.Writing.{canonical}
use Rattle.script.proofs.Tests.{test_passed}
use Rattle.script.proofs.Canonical.{few_fields, action_canonical}
use Rattle.script.proofs.Fours.{Bytes, Fours, none, more, fours, joined, take_bytes, drop_bytes}

-- the fields of a step are numbers of four bytes
pub record InWords (s : Step) : Type 0 where
  pub low₁ : s.first < 4294967296
  pub low₂ : s.second < 4294967296
  pub low₃ : s.third < 4294967296

-- From a step to its record.

-- the bytes of the first n fields
abbrev first_fields : ℕ → ℕ → ℕ → ℕ → List ℕ
first_fields n a b c = take (4 * n) (bytes_of a ++ bytes_of b ++ bytes_of c)

-- the step that n fields behind a kind say
abbrev fields_read : ℕ → ℕ → List ℕ → Step
fields_read n k l = step_of k (field_in (k ∷ l) n 0) (field_in (k ∷ l) n 1) (field_in (k ∷ l) n 2)

fields_length : (n a b c : ℕ) → n ≤ 3 → length (first_fields n a b c) ≡ 4 * n
fields_length zero a b c h = refl
fields_length (suc zero) a b c h = refl
fields_length (suc (suc zero)) a b c h = refl
fields_length (suc (suc (suc zero))) a b c h = refl
fields_length (suc (suc (suc (suc n)))) a b c h = absurd (omega arith)

fields_read_lem : (n k a b c : ℕ) → n ≤ 3 → a < 4294967296 → b < 4294967296 → c < 4294967296
    → fields_read n k (first_fields n a b c) ≡ step_of k (cond (ltb 0 n) a 0) (cond (ltb 1 n) b 0) (cond (ltb 2 n) c 0)
fields_read_lem zero k a b c h ha hb hc = refl
fields_read_lem (suc zero) k a b c h ha hb hc = simp (number_front a ha [])
fields_read_lem (suc (suc zero)) k a b c h ha hb hc = simp (number_front a ha [], number_front b hb [])
fields_read_lem (suc (suc (suc zero))) k a b c h ha hb hc = simp (number_front a ha [], number_front b hb [], number_front c hc [])
fields_read_lem (suc (suc (suc (suc n)))) k a b c h ha hb hc = absurd (omega arith)

-- what stands behind the length byte
abbrev behind : Step → List ℕ
behind s = s.kind ∷ first_fields (fields_of s.kind) s.first s.second s.third

behind_length : (s : Step) → length (behind s) ≡ length_of s.kind
behind_length s =
    let k = s.kind in
    omega (arith, fields_length (fields_of k) s.first s.second s.third (few_fields k))

pub record_length : (s : Step) → length (record_of s) ≡ 1 + length_of s.kind
unfolding record_of
record_length s = omega (arith, behind_length s)

or_true : (b : Bool) → (b or true) ≡ true
unfolding ◌or◌
or_true true = refl
or_true false = refl

module _ (s : Step) (w : InWords s) where
  behind_read : step_in (behind s) ≡ canonical s
  unfolding step_in canonical
  behind_read =
      fields_read_lem (fields_of s.kind) s.kind s.first s.second s.third (few_fields s.kind) w.low₁ w.low₂ w.low₃

  behind_framed : is_framed (behind s) ≡ true
  unfolding is_framed ◌and◌
  behind_framed =
      rw (lt-ltb 0 (length (behind s)) (omega (arith, behind_length s)), eq-eqb _ _ (behind_length s)) (or_true _)

  behind_decoded : decode (behind s) ≡ record { refusal = step_refusal s; step = canonical s }
  unfolding decode malformed
  behind_decoded = rw (behind_framed, behind_read, action_canonical s)

-- The record at a place of a script.

-- a place seen from what the script is from there on
module _ (s : List ℕ) (p : ℕ) where
  get_or_from : get_or s p 0 ≡ get_or (drop p s) 0 0
  get_or_from = sym (get_or-drop p s 0 0 ∙ ap (λ (i : ℕ). get_or s i 0) (add-zero p))

  module _ (t rest : List ℕ) (e : drop p s ≡ length t ∷ t ++ rest) where
    length_from : length s ≡ p + 1 + length t + length rest
    length_from = omega (arith, length-drop p s, ap length e, length-append t rest)

    first_from : get_or s p 0 ≡ length t
    first_from = get_or_from ∙ ap (λ (l : List ℕ). get_or l 0 0) e

    part_from : part s p ≡ t
    part_from = rw (first_from, ← drop-drop 1 p s, e) (take_at t rest (length t) refl)

    whole_from : is_whole s p ≡ true
    unfolding ◌and◌
    whole_from = rw (first_from, lt-ltb p (length s) (omega (arith, length_from)), lt-ltb (p + length t) (length s) (omega (arith, length_from)))

    record_from : record_at s p ≡ record { refusal = (decode t).refusal; step = (decode t).step; next = p + 1 + length t }
    unfolding record_at
    record_from = rw (whole_from, part_from, first_from)

-- a step that was written is read there, and the place behind it is next
pub record_read : (s : List ℕ) (p : ℕ) (x : Step) (rest : List ℕ) → InWords x → drop p s ≡ record_of x ++ rest
    → record_at s p ≡ record { refusal = step_refusal x; step = canonical x; next = p + length (record_of x) }
unfolding record_of
record_read s p x rest w e =
    let l = behind_length x in
    let n : p + 1 + length (behind x) ≡ p + length (record_of x) = omega arith in
    record_from s p (behind x) rest (rw l e) ∙ rw (behind_decoded x w, n)

-- From a record to its step.

-- the fields that were read have the bytes that they were read from
fields_written : (n k : ℕ) (l : List ℕ) → Fours n l → n ≤ 3
    → first_fields n (field_in (k ∷ l) n 0) (field_in (k ∷ l) n 1) (field_in (k ∷ l) n 2) ≡ l
fields_written n k l none h = refl
fields_written n k l (more e none) h = e
fields_written n k l (more e (more f none)) h = joined e f
fields_written n k l (more e (more f (more g none))) h = joined (joined e f) g
fields_written n k l (more e (more f (more g (more i j)))) h = absurd (omega arith)

-- a record with as many bytes as its kind has is written as itself
record_written : (r : List ℕ) → Bytes r → 0 < length r → length r ≡ length_of (get_or r 0 0) → record_of (step_in r) ≡ length r ∷ r
unfolding record_of step_in
record_written [] h o e = absurd (omega arith)
record_written (k ∷ l) h o e =
    let n = fields_of k in
    rw (fields_written n k l (fours n l (omega arith) (drop_bytes 1 (k ∷ l) h)) (few_fields k), e)

known_length : (r : List ℕ) → T (is_framed r) → T (is_known (action_of (step_in r))) → (0 < length r) × (length r ≡ length_of (get_or r 0 0))
unfolding is_framed
known_length r t k = (
  ltb→lt 0 (length r) (and_l _ _ t),
  or_elim _ _ (and_r _ _ t) (λ n. absurd (T_not (is_known (action_of (step_in r))) n k)) (λ e. eqb→eq (length r) (length_of (get_or r 0 0)) e),
)

module _ (r : List ℕ) (h : Bytes r) (ok : (decode r).refusal ≡ 0) where
  framed : T (is_framed r) × (decode r ≡ record { refusal = step_refusal (step_in r); step = step_in r })
  unfolding decode
  framed = test_passed (λ (d : Decoded). d.refusal) (is_framed r) _ _ (omega arith) ok

  in_range_lem : step_refusal (step_in r) ≡ 0
  in_range_lem = rw framed.1 at ok

  known : T (is_known (action_of (step_in r)))
  unfolding malformed
  known = (unless_ok _ 4 _ (omega arith) in_range_lem).0

  decoded_written : (record_of (decode r).step ≡ length r ∷ r) × (step_refusal (decode r).step ≡ 0)
  decoded_written =
      let l = known_length r framed.0 known in
      rw framed.1 (record_written r h l.0 l.1, in_range_lem)

-- what is read and accepted at a place: it is written as the bytes from there to the next place
pub record Accepted (s : List ℕ) (p : ℕ) (x : Found) : Type 0 where
  pub in_range_lem : step_refusal x.step ≡ 0
  pub low : p < x.next
  pub bytes : record_of x.step ++ drop x.next s ≡ drop p s

module _ (s : List ℕ) (p : ℕ) (h : Bytes s) (ok : (record_at s p).refusal ≡ 0) where
  whole : T (is_whole s p) × (record_at s p ≡ record { refusal = (decode (part s p)).refusal; step = (decode (part s p)).step; next = p + 1 + get_or s p 0 })
  unfolding record_at
  whole = test_passed (λ (x : Found). x.refusal) (is_whole s p) _ _ (omega arith) ok

  inside : p + get_or s p 0 < length s
  inside = ltb→lt (p + get_or s p 0) (length s) (and_r _ _ whole.0)

  part_length : length (part s p) ≡ get_or s p 0
  part_length = length-take-le (get_or s p 0) (drop (p + 1) s) (omega (arith, inside, length-drop (p + 1) s))

  part_written : (record_of (decode (part s p)).step ≡ length (part s p) ∷ part s p) × (step_refusal (decode (part s p)).step ≡ 0)
  part_written =
      decoded_written (part s p) (take_bytes (get_or s p 0) (drop (p + 1) s) (drop_bytes (p + 1) s h)) (rw whole.1 at ok)

  split_here : get_or s p 0 ∷ part s p ++ drop (p + 1 + get_or s p 0) s ≡ drop p s
  split_here =
      let i : p < length s = omega (arith, inside) in
      rw (drop-cons s p 0 i, ← add-one p, ← drop-drop (get_or s p 0) (p + 1) s)
      (ap (λ (l : List ℕ). get_or s p 0 ∷ l) (take-append-drop (get_or s p 0) (drop (p + 1) s)))

  pub record_accepted : Accepted s p (record_at s p)
  record_accepted =
      rw whole.1
      (record {
        in_range_lem = part_written.1;
        low = omega arith;
        bytes = rw (part_written.0, part_length) split_here;
      })
