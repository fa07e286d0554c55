-- The digits of a number and how many they are; the most bytes of each line; pieces put one behind the other.
use mathlib.Core.Path.{◌≡◌, sym, ap, ◌∙◌}
use mathlib.Core.List.{List, [], ◌∷◌, ◌++◌, append_assoc, append-nil}
use Prim.Native.Nat.{ℕ, zero, suc, ◌+◌, ◌*◌, ◌/◌, ◌%◌, ◌^◌, ◌≤◌, ◌<◌}
use native.Mathlib.Nat.{pow-le-pow_right}
use native.Mathlib.Omega.{arith}
use borrow.Author.Tests.{lt-ltb, le-ltb}
use lib.Dec.{ltb}
use lib.ListN.{length, get_or, take, drop, length-append, take-append-drop}
use Rattle.std.specs.List.{flat_map}
use Rattle.std.specs.Fmt.{decimal as decimal'}
use Rattle.std.proofs.lemmas.Fmt.{AppendsLastDigit, decimal_from_appends, length-decimal-le}
use Rattle.wire.specs.Numbers.{over}
use Rattle.wire.specs.declared.Page.{Page}
use Rattle.wire.specs.Pages.{put, HasRoom}
use Rattle.wire.proofs.Pages.{room_first, next_fits, next_put}
use Rattle.types.specs.declared.Config.{Config}
use Rattle.rules.proofs.Laws.{cond_case}
use Rattle.report.specs.Lines.{digits, decimal, spaced, line_end, record_line, facade_word, facade_line, held_word, held_line}

-- a number of one digit
pub digits_one : (k n : ℕ) → 1 ≤ k → n < 10 → digits k n ≡ (48 + n) ∷ []
unfolding digits
digits_one zero n p h = absurd (omega arith)
digits_one (suc k) n p h = rw (lt-ltb n 10 h)

digits_more : (k n : ℕ) → 10 ≤ n → digits (suc k) n ≡ digits k (n / 10) ++ ((48 + n % 10) ∷ [])
unfolding digits
digits_more k n h = rw (le-ltb n 10 h)

-- the digits are those of the library
pub decimal_is : (n : ℕ) → n < 4294967296 → decimal n ≡ decimal' n
decimal_is n h =
    let appends : AppendsLastDigit digits = record { one = λ k n h. digits_one (suc k) n (omega arith) h; more = digits_more } in
    decimal_from_appends digits appends 10 n (omega arith) (length-decimal-le 10 n (omega arith) (omega arith) (omega arith))

-- at most k digits
digits_few : (k n : ℕ) → length (digits k n) ≤ k
unfolding digits
digits_few zero n = omega arith
digits_few (suc k) n =
    cond_case (λ (l : List ℕ). length l ≤ suc k) (ltb n 10) _ _ (λ _. omega arith)
    (λ _. simp length-append (omega (arith, digits_few k (n / 10))))

-- a number from 10 to the power i on and below the next power has one digit more than i
digits_count : (i k n : ℕ) → i < k → 10 ^ i ≤ n → n < 10 * 10 ^ i → length (digits k n) ≡ i + 1
digits_count i zero n h low high = absurd (omega arith)
digits_count zero (suc k) n h low high = ap length (digits_one (suc k) n (omega arith) (omega arith))
digits_count (suc i) (suc k) n h low high =
    rw (digits_more k n (omega (arith, pow-le-pow_right {n = 10} (omega arith) {i = 0} {j = i} (omega arith))))
    (simp length-append (omega (arith, digits_count i k (n / 10) (omega arith) (omega arith) (omega arith))))

-- how many digits the library writes of a number of 32 bits
pub count_is : (n k : ℕ) → n < 4294967296 → k < 10 → 10 ^ k ≤ n → n < 10 * 10 ^ k → length (decimal' n) ≡ k + 1
count_is n k small bound low high = ap length (sym (decimal_is n small)) ∙ digits_count k 10 n bound low high

-- a number below 10 to the power i has at most i digits
short : (i n : ℕ) → 1 ≤ i → n < 10 ^ i → n < 4294967296 → length (decimal n) ≤ i
short i n p h small = rw (decimal_is n small) (length-decimal-le i n (omega arith) h (omega arith))

-- The most bytes of each line: 26 where the number of the record has at most five digits, its refusal two, its outcome one
-- and the waiting messages three; and ten digits a number in the first and the last line.

pub record_line_short : (k r o t w : ℕ) → k ≤ 99999 → r ≤ 99 → o ≤ 9 → w ≤ 999 → length (record_line k r o t w) ≤ 26
unfolding record_line
record_line_short k r o t w hk hr ho hw =
    let k₅ : length (decimal k) ≤ 5 = short 5 k (omega arith) (omega arith) (omega arith) in
    let r₂ : length (decimal r) ≤ 2 = short 2 r (omega arith) (omega arith) (omega arith) in
    let o₁ : length (decimal o) ≤ 1 = short 1 o (omega arith) (omega arith) (omega arith) in
    let w₃ : length (decimal w) ≤ 3 = short 3 w (omega arith) (omega arith) (omega arith) in
    simp length-append (omega (arith, k₅, r₂, o₁, digits_few 10 t, w₃))

pub facade_line_short : (c : Config) → length (facade_line c) ≤ 40
unfolding facade_line
facade_line_short c =
    simp length-append (omega (arith, digits_few 10 c.servers, digits_few 10 c.clients, digits_few 10 c.addresses))

pub held_line_short : (n : ℕ) → length (held_line n) ≤ 16
unfolding held_line
held_line_short n = simp length-append (omega (arith, digits_few 10 n))

-- The numbers of a line, one more at a time.
module _ (p : Page) (ns : List ℕ) (room : HasRoom p (flat_map spaced ns ++ line_end)) (i : ℕ) (h : i < length ns) where
  pub number_fits : HasRoom (put p (flat_map spaced (take i ns))) (spaced (get_or ns i 0))
  number_fits = next_fits spaced p ns (room_first _ line_end room) i h

  pub number_more : put (put p (flat_map spaced (take i ns))) (spaced (get_or ns i 0)) ≡ put p (flat_map spaced (take (i + 1) ns))
  number_more = next_put spaced p ns (room_first _ line_end room) i h

-- Each line is a first piece, and then numbers and its end.

three : (v a b c e : List ℕ) → v ++ a ++ b ++ c ++ e ≡ v ++ ((a ++ (b ++ (c ++ []))) ++ e)
three v a b c e = simp (append_assoc, append-nil)

pub record_is : (k r o t w : ℕ) → record_line k r o t w ≡ decimal k ++ (flat_map spaced (r ∷ o ∷ t ∷ w ∷ []) ++ line_end)
unfolding record_line
record_is k r o t w =
    three (decimal k ++ spaced r) (spaced o) (spaced t) (spaced w) line_end
    ∙ append_assoc (decimal k) (spaced r) _
    ∙ ap (λ (l : List ℕ). decimal k ++ l) (sym (append_assoc (spaced r) (flat_map spaced (o ∷ t ∷ w ∷ [])) line_end))

pub facade_is : (c : Config) → facade_line c ≡ facade_word ++ (flat_map spaced (c.servers ∷ c.clients ∷ c.addresses ∷ []) ++ line_end)
unfolding facade_line
facade_is c = three facade_word (spaced c.servers) (spaced c.clients) (spaced c.addresses) line_end

pub held_is : (n : ℕ) → held_line n ≡ held_word ++ (flat_map spaced (n ∷ []) ++ line_end)
unfolding held_line
held_is n =
    append_assoc held_word (spaced n) line_end ∙ ap (λ (l : List ℕ). held_word ++ (l ++ line_end)) (sym (append-nil (spaced n)))

-- digits written up to a place: those before it are as they were
pub written_over : (l v : List ℕ) (at start end : ℕ) {l₁ : List ℕ} → end ≡ at + length v → start + length v ≡ end
    → drop start l₁ ≡ v ++ drop end l → take start l₁ ≡ take start l → l₁ ≡ over l at v
written_over l v at start end {l₁} e s behind before =
    let here : start ≡ at = omega arith in
    sym (take-append-drop start l₁) ∙ rw (before, behind, here, e, append_assoc (take at l) v (drop (at + length v) l))
