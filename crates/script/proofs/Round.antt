-- The round trips of whole scripts: what is written reads as what it was written from, and an accepted script is written as itself.
use mathlib.Core.Path.{◌≡◌, refl, sym, ap, ◌∙◌}
use mathlib.Core.List.{List, [], ◌∷◌, ◌++◌, map}
use Prim.Native.Nat.{ℕ, zero, suc, ◌+◌, ◌*◌, ◌/◌, ◌<◌, ◌≤◌}
use native.Mathlib.Omega.{arith}
use native.Mathlib.Decide.{dec_lt}
use borrow.Author.Tests.{le-leb, lt-leb}
use lib.Dec.{T, eqb, leb→le, eqb→eq}
use lib.ListN.{length, get_or, take, drop, length-append, length-drop, drop_of_length-le, take-append-drop}
use lib.Seq.{drop-drop, drop_at, take_at, length-take-le}
use Rattle.types.specs.declared.Config.{Config}
use Rattle.types.specs.declared.Step.{Step}
use Rattle.rules.specs.Conditions.{◌and◌, is_within, unless}
use Rattle.rules.specs.Ranges.{config_in_range}
use Rattle.rules.proofs.Laws.{true_of, and_l, and_r, within_low, within_high, unless_ok, cond_case}
use Rattle.wire.specs.Numbers.{over}
use Rattle.wire.proofs.Numbers.{number_front}
use Rattle.script.specs.Layout.{step_refusal, first_record, header_of, record_of, records_of, script_of}
use Rattle.script.specs.Reading.{Header, longest, config_read, is_script, header_in, record_at, or_else, records_refusal, steps_from, verdict, steps_of}
use Rattle.script.specs.Writing.{row_at, rows, steps_in, steps_refusal, write_refusal, written, script_into, flat, canonical}
use Rattle.script.proofs.Tests.{test_passed, none_met}
use Rattle.script.proofs.Walk.{none_from_the_end}
use Rattle.script.proofs.Fours.{Bytes, Fours, none, more, fours, joined, take_bytes, drop_bytes}
use Rattle.script.proofs.Rows.{steps_in_flat}
use Rattle.script.proofs.Records.{InWords, record_length, record_read, record_accepted}

-- the fields of every step are numbers of four bytes, as a u32 holds
abbrev pub Words : List Step → Type 0
Words [] = Unit {0}
Words (s ∷ ss) = InWords s × Words ss

words_append : (ss ts : List Step) → Words ss → Words ts → Words (ss ++ ts)
words_append [] ts v w = w
words_append (s ∷ ss) ts v w = (v.0, words_append ss ts v.1 w)

module _ (l : List ℕ) (h : (i : ℕ) → i < length l → get_or l i 0 < 4294967296) where
  rows_in_words : (n : ℕ) → 4 * n ≤ length l → Words (rows l n)
  unfolding rows
  rows_in_words zero k = tt
  rows_in_words (suc n) k =
      words_append (rows l n) (row_at l n ∷ []) (rows_in_words n (omega arith))
      (record { low₁ = h (4 * n + 1) (omega arith); low₂ = h (4 * n + 2) (omega arith); low₃ = h (4 * n + 3) (omega arith) }, tt)

  -- the steps that are handed over as a list of u32 have such fields
  pub steps_in_words : Words (steps_in l)
  steps_in_words = rows_in_words (length l / 4) (omega arith)

-- The records.

module _ (s : List ℕ) (p : ℕ) where
  -- past the end there are none
  none_left : (n : ℕ) → length s ≤ p → (records_refusal n s p ≡ 0) × (steps_from n s p ≡ [])
  unfolding steps_from
  none_left zero h = (none_from_the_end zero s p h, refl)
  none_left (suc n) h = (none_from_the_end (suc n) s p h, rw (le-leb (length s) p h))

  one_more : (n : ℕ) → p < length s
      → (records_refusal (suc n) s p ≡ or_else (record_at s p).refusal (records_refusal n s (record_at s p).next))
      × (steps_from (suc n) s p ≡ (record_at s p).step ∷ steps_from n s (record_at s p).next)
  unfolding records_refusal steps_from
  one_more n h = let e = lt-leb (length s) p h in (rw e, rw e)

-- from a place on, a script of written steps reads as those steps
records_read : (ss : List Step) (n : ℕ) (s : List ℕ) (p : ℕ) → Words ss → steps_refusal ss ≡ 0 → drop p s ≡ records_of ss → length s ≤ n + p
    → (records_refusal n s p ≡ 0) × (steps_from n s p ≡ map canonical ss)
unfolding records_of steps_refusal
records_read [] n s p w ok e fuel = none_left s p n (omega (arith, length-drop p s, ap length e))
records_read (x ∷ xs) zero s p w ok e fuel =
    absurd (omega (arith, length-drop p s, ap length e, length-append (record_of x) (records_of xs), record_length x))
records_read (x ∷ xs) (suc n) s p w ok e fuel =
    let l = length-append (record_of x) (records_of xs) in
    let m : length s ≡ p + length (record_of x) + length (records_of xs) = omega (arith, length-drop p s, ap length e, record_length x) in
    let o = none_met (step_refusal x) (steps_refusal xs) ok in
    let d : drop (p + length (record_of x)) s ≡ records_of xs
    = sym (drop-drop (length (record_of x)) p s) ∙ ap (drop (length (record_of x))) e ∙ drop_at (record_of x) (records_of xs) _ refl in
    let t = one_more s p n (omega (arith, record_length x)) in
    let r = records_read xs n s (p + length (record_of x)) w.1 o.1 d (omega (arith, record_length x)) in
    rw (t.0, t.1, record_read s p x (records_of xs) w.0 e, o.0) (r.0, ap (λ (l : List Step). canonical x ∷ l) r.1)

-- at most n records from a place on are written as their bytes, and with the numbers that the writer takes
unfoldable AsBytes : ℕ → List ℕ → ℕ → Type 0
AsBytes n s p = (records_of (steps_from n s p) ≡ drop p s) × (steps_refusal (steps_from n s p) ≡ 0)

written_none : (n : ℕ) (s : List ℕ) (p : ℕ) → length s ≤ p → AsBytes n s p
unfolding AsBytes records_of steps_refusal
written_none n s p h = rw ((none_left s p n h).1, drop_of_length-le s h) (refl, refl)

written_more : (n : ℕ) (s : List ℕ) (p : ℕ) → Bytes s → length s ≤ suc n + p → records_refusal (suc n) s p ≡ 0
    → ((q : ℕ) → length s ≤ n + q → records_refusal n s q ≡ 0 → AsBytes n s q) → Dec (p < length s) → AsBytes (suc n) s p
unfolding AsBytes records_of steps_refusal
written_more n s p b fuel ok ih (yes h) =
    let t = one_more s p n h in
    let o = none_met _ _ (rw t.0 at ok) in
    let a = record_accepted s p b o.0 in
    let r = ih (record_at s p).next (omega (arith, a.low)) o.1 in
    rw (t.1, r.0, a.in_range_lem) (a.bytes, r.1)
written_more n s p b fuel ok ih (no h) = written_none (suc n) s p (omega arith)

-- from a place on, accepted records are written as their bytes
records_written : (n : ℕ) (s : List ℕ) (p : ℕ) → Bytes s → length s ≤ n + p → records_refusal n s p ≡ 0 → AsBytes n s p
records_written zero s p b fuel ok = written_none zero s p (omega arith)
records_written (suc n) s p b fuel ok = written_more n s p b fuel ok (λ q. records_written n s q b) (dec_lt p (length s))

-- The header.

pub header_length : (c : Config) → length (header_of c) ≡ first_record
unfolding header_of
header_length c = refl

pub script_length : (c : Config) (rest : List ℕ) → length (header_of c ++ rest) ≡ first_record + length rest
script_length c rest = rw (length-append, header_length)

module _ (c : Config) (rest : List ℕ) (t : T (config_in_range c)) where
  config_read_lem : config_read (header_of c ++ rest) ≡ c
  unfolding config_read header_of config_in_range
  config_read_lem =
      let t₂ = and_r _ _ t in
      let t₃ = and_r _ _ t₂ in
      let t₄ = and_r _ _ t₃ in
      let t₅ = and_r _ _ t₄ in
      let t₆ = and_r _ _ t₅ in
      let t₇ = and_r _ _ t₆ in
      simp (
        number_front c.servers (omega (arith, within_high 2 4 c.servers (and_l _ _ t))) [],
        number_front c.clients (omega (arith, within_high 1 32 c.clients (and_l _ _ t₂))) [],
        number_front c.addresses (omega (arith, within_high 1 32 c.addresses (and_l _ _ t₃))) [],
        number_front c.skew (omega (arith, leb→le c.skew 1000 (and_l _ _ t₄))) [],
        number_front c.detection (omega (arith, within_high 1 10000 c.detection (and_l _ _ t₅))) [],
        number_front c.mclt (omega (arith, within_high 1 1000000 c.mclt (and_l _ _ t₆))) [],
        number_front c.retention (omega (arith, leb→le c.retention 1000000 t₇)) [],
      )

  header_read : length (header_of c ++ rest) ≤ longest → header_in (header_of c ++ rest) ≡ record { refusal = 0; config = c }
  unfolding header_in header_of is_within ◌and◌ unless
  header_read h =
      let s = header_of c ++ rest in
      let l : first_record ≤ length s = omega (arith, script_length c rest) in
      rw (le-leb first_record (length s) l, le-leb (length s) longest h, config_read_lem, true_of (config_in_range c) t)

config_written : (q rest : List ℕ) → Fours 7 q → header_of (config_read (1 ∷ q ++ rest)) ≡ 1 ∷ q
unfolding header_of config_read
config_written q rest (more a (more b (more c (more d (more e (more f (more g none))))))) =
    joined (joined (joined (joined (joined (joined (joined {a = 1 ∷ []} refl a) b) c) d) e) f) g

front_written : (s : List ℕ) → Bytes s → first_record ≤ length s → get_or s 0 0 ≡ 1 → header_of (config_read s) ≡ take first_record s
front_written [] b h e = absurd (omega arith)
front_written (v ∷ l) b h e =
    let q = take 28 l in
    let f = fours 7 q (length-take-le 28 l (omega arith)) (take_bytes 28 l (drop_bytes 1 (v ∷ l) b)) in
    rw e (ap (λ (t : List ℕ). header_of (config_read (1 ∷ t))) (sym (take-append-drop 28 l)) ∙ config_written q (drop 28 l) f)

-- what the header of an accepted script says
record HeaderOk (s : List ℕ) (c : Config) : Type 0 where
  in_range_lem : T (config_in_range c)
  short : length s ≤ longest
  front : header_of c ≡ take first_record s

module _ (s : List ℕ) (b : Bytes s) (ok : (header_in s).refusal ≡ 0) where
  is_script_lem : T (is_script s) × (header_in s ≡ record { refusal = unless (config_in_range (config_read s)) 2 0; config = config_read s })
  unfolding header_in
  is_script_lem = test_passed (λ (h : Header). h.refusal) (is_script s) _ _ (omega arith) ok

  header_accepted : HeaderOk s (header_in s).config
  header_accepted =
      let w = and_l _ _ is_script_lem.0 in
      let l = within_low first_record longest (length s) w in
      rw is_script_lem.1
      (record {
        in_range_lem = (unless_ok (config_in_range (config_read s)) 2 0 (omega arith) (rw is_script_lem.1 at ok)).0;
        short = within_high first_record longest (length s) w;
        front = front_written s b l (eqb→eq (get_or s 0 0) 1 (and_r _ _ is_script_lem.0));
      })

-- The theorems.

-- s is accepted, and says configuration c and steps ss
pub record Reads (s : List ℕ) (c : Config) (ss : List Step) : Type 0 where
  pub accepted : verdict s ≡ 0
  pub config : (header_in s).config ≡ c
  pub steps : steps_of s ≡ ss

module _ (c : Config) (ss : List Step) (n : ℕ) where
  -- the tests of the writer
  pub not_refused : write_refusal c ss n ≡ 0
      → T (config_in_range c) × (steps_refusal ss ≡ 0) × (length (script_of c ss) ≤ longest) × (length (script_of c ss) ≤ n)
  unfolding write_refusal
  not_refused e =
      let a = unless_ok (config_in_range c) 2 _ (omega arith) e in
      let o = none_met (steps_refusal ss) _ a.1 in
      let t = (unless_ok _ 1 0 (omega arith) o.1).0 in
      (a.0, o.0, leb→le (length (script_of c ss)) longest (and_l _ _ t), leb→le (length (script_of c ss)) n (and_r _ _ t))

  -- what the writer says that it wrote lies within the buffer
  pub written_fits : (written c ss n).length ≤ n
  unfolding written
  written_fits =
      cond_case (λ (k : ℕ). k ≤ n) (eqb (write_refusal c ss n) 0) _ _ (λ t. (not_refused (eqb→eq _ _ t)).3) (λ t. omega arith)

  tests_passed : T (config_in_range c) → steps_refusal ss ≡ 0 → length (script_of c ss) ≤ longest → length (script_of c ss) ≤ n
      → write_refusal c ss n ≡ 0
  unfolding write_refusal unless ◌and◌
  tests_passed t e h k = rw (true_of (config_in_range c) t, e, le-leb _ _ h, le-leb _ _ k)

  -- a script that is written reads as the configuration and the steps that it was written from (`canonical`: reading gives 0 where
  -- a kind has no field, and nothing looks there: `action_canonical`)
  pub write_read : Words ss → write_refusal c ss n ≡ 0 → Reads (script_of c ss) c (map canonical ss)
  unfolding verdict steps_of
  write_read w e =
      let a = not_refused e in
      let s = script_of c ss in
      let h = header_read c (records_of ss) a.0 a.2 in
      let d : drop first_record s ≡ records_of ss = drop_at (header_of c) (records_of ss) first_record (header_length c) in
      let r = records_read ss (length s) s first_record w a.1 d (omega arith) in
      record { accepted = rw (h, r.0); config = rw h; steps = r.1 }

-- what the writer says that it wrote is in the buffer, and reads the same
pub buffer_reads : (c : Config) (ss : List Step) (l : List ℕ) → Words ss → (written c ss (length l)).refusal ≡ 0
    → Reads (take (written c ss (length l)).length (script_into c ss l)) c (map canonical ss)
unfolding written script_into
buffer_reads c ss l w e =
    rw (e, take_at (script_of c ss) (drop (0 + length (script_of c ss)) l) (length (script_of c ss)) refl) (write_read c ss (length l) w e)

-- an accepted script, read and written again, is its own bytes
module _ (s : List ℕ) (b : Bytes s) (e : verdict s ≡ 0) where
  pub read_write : script_of (header_in s).config (steps_of s) ≡ s
  unfolding verdict steps_of AsBytes
  read_write =
      let o = none_met (header_in s).refusal _ e in
      let h = header_accepted s b o.0 in
      let r = records_written (length s) s first_record b (omega arith) o.1 in
      rw (h.front, r.0) (take-append-drop first_record s)

  not_refused_again : (n : ℕ) → length s ≤ n → write_refusal (header_in s).config (steps_of s) n ≡ 0
  unfolding verdict steps_of AsBytes
  not_refused_again n room =
      let o = none_met (header_in s).refusal _ e in
      let h = header_accepted s b o.0 in
      let r = records_written (length s) s first_record b (omega arith) o.1 in
      let l : length (script_of (header_in s).config (steps_of s)) ≡ length s = ap length read_write in
      tests_passed (header_in s).config (steps_of s) n h.in_range_lem r.1 (omega (arith, h.short)) (omega arith)

  -- so says the writer, of its steps handed over in rows, and so is any buffer that has room for it
  pub buffer_written : (l : List ℕ) → length s ≤ length l
      → (written (header_in s).config (steps_in (flat (steps_of s))) (length l) ≡ record { refusal = 0; length = length s })
      × (script_into (header_in s).config (steps_in (flat (steps_of s))) l ≡ over l 0 s)
  unfolding written script_into
  buffer_written l room = rw (steps_in_flat (steps_of s), not_refused_again (length l) room, read_write) (refl, refl)
