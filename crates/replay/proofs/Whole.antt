-- The output of a whole script, and the buffer that it is put into.
use mathlib.Core.Path.{◌≡◌, refl, sym, ap, ◌∙◌}
use mathlib.Core.Bool.{Bool, true, false, cond}
use mathlib.Core.List.{List, ◌++◌, append-nil}
use Prim.Native.Nat.{ℕ, ◌+◌, ◌≤◌, ◌<◌}
use native.Mathlib.Omega.{arith}
use lib.Dec.{T, eqb, leb, leb→le, eqb→eq}
use lib.ListN.{length, length-append}
use borrow.Author.Tests.{ne_eqb, not-false}
use Rattle.std.specs.Prelude.{Result, Ok, Err}
use Rattle.std.specs.Result.{is_err}
use Rattle.types.specs.declared.Config.{Config}
use Rattle.types.specs.declared.Refused.{Refused}
use Rattle.types.specs.Numbers.{refusal_number}
use Rattle.rules.specs.Ranges.{config_in_range}
use Rattle.rules.specs.Steps.{fresh}
use Rattle.rules.proofs.Refusals.{is_some_refusal}
use Rattle.rules.proofs.Laws.{and_l, cond_case, unless_ok, within_high}
use Rattle.rules.proofs.Ranges.{fresh_sound}
use Rattle.rules.proofs.Bounds.{unless_high}
use Rattle.wire.specs.Numbers.{over}
use Rattle.wire.proofs.Over.{over_length}
use Rattle.wire.specs.declared.Page.{Page}
use Rattle.wire.specs.Pages.{put, HasRoom}
use Rattle.wire.proofs.Pages.{room_first, room_then, put_then}
use Rattle.script.specs.Layout.{first_record}
use Rattle.script.specs.Reading.{Header, longest, is_script, no_config, config_read, header_in, header_as}
use Rattle.report.specs.Lines.{record_line, facade_line}
use Rattle.report.proofs.Laws.{record_line_short, facade_line_short}
use Rattle.turns.specs.declared.Progress.{Progress}
use Rattle.turns.specs.Turns.{before, lines_from, UnderWay}
use Rattle.replay.specs.Output.{first_line, beginning, output, most_output, output_length, output_into}
use Rattle.turns.proofs.Lines.{lines_fit}

-- where the header is refused, its number has a line of its own
pub refused_first : (s : List ℕ) (x : Refused Config) → header_as (Err x) ≡ header_in s → record_line 0 (refusal_number x.refusal) 0 0 0 ≡ first_line s
unfolding first_line
refused_first s x e = rw (← e, ne_eqb (refusal_number x.refusal) 0 (is_some_refusal x.refusal))

-- any other has the first line
pub accepted_first : (s : List ℕ) (c : Config) → header_as (Ok c) ≡ header_in s → facade_line c ≡ first_line s
unfolding first_line
accepted_first s c e = rw (← e)

-- the run begins with the fresh facade of the configuration, and has ended where it is refused
pub begins : (s : List ℕ) (c : Config) (h : Result Config (Refused Config)) → c ≡ (header_in s).config → header_as h ≡ header_in s
    → before (fresh c) first_record 1 (is_err h) ≡ beginning s
unfolding beginning
begins s c (Ok x) q e = rw (q, ← e)
begins s c (Err x) q e = rw (q, ← e, ne_eqb (refusal_number x.refusal) 0 (is_some_refusal x.refusal))

-- where h is the header
module _ (s : List ℕ) (h : Header) (e : h ≡ header_in s) where
  -- and is that of a script, which is not too long
  pub accepted_is_short : h.refusal ≡ 0 → length s ≤ longest
  unfolding header_in
  accepted_is_short t =
      cond_case (λ (x : Header). x.refusal ≡ 0 → length s ≤ longest) (is_script s) _ _
      (λ b z. within_high first_record longest (length s) (and_l _ _ b))
      (λ b z. absurd (omega arith))
      (rw e at t)

  -- with a configuration in range
  pub accepted_is_ranged : h.refusal ≡ 0 → T (config_in_range h.config)
  unfolding header_in
  accepted_is_ranged t =
      let ok = rw e at t in
      rw e
      (cond_case (λ (x : Header). x.refusal ≡ 0 → T (config_in_range x.config)) (is_script s) _ _
      (λ b z. (unless_ok (config_in_range (config_read s)) 2 0 (omega arith) z).0)
      (λ b z. absurd (omega arith)) ok)

-- the refusal of any header is 0, 1 or 2
refused_with_few : (s : List ℕ) → (header_in s).refusal ≤ 2
unfolding header_in
refused_with_few s = cond_case (λ (x : Header). x.refusal ≤ 2) (is_script s) _ _ (λ _. unless_high _ 2 0 2 (omega arith) (omega arith)) (λ _. omega arith)

pub first_line_short : (s : List ℕ) → length (first_line s) ≤ 40
unfolding first_line
first_line_short s =
    let h = header_in s in
    cond_case (λ (l : List ℕ). length l ≤ 40) (eqb h.refusal 0) _ _
    (λ t. facade_line_short h.config)
    (λ t. omega (arith, record_line_short 0 h.refusal 0 0 0 (omega arith) (omega (arith, refused_with_few s)) (omega arith) (omega arith)))

-- a run that has begun and not ended is under way
pub begins_under_way : (s : List ℕ) → (beginning s).ended ≡ false → UnderWay s (beginning s)
unfolding beginning fresh
begins_under_way s e =
    let h = header_in s in
    let q : eqb h.refusal 0 ≡ true = not-false (eqb h.refusal 0) e in
    let ok : h.refusal ≡ 0 = eqb→eq h.refusal 0 (rw q tt) in
    record {
      sound = fresh_sound h.config (accepted_is_ranged s h refl ok);
      counted = omega arith;
      placed = omega arith;
      short = accepted_is_short s h refl ok;
    }

-- the lines of a run that has begun
abbrev pub begun : ℕ → List ℕ → List ℕ
begun n s = lines_from n (beginning s).facade s (beginning s).place (beginning s).number

-- the output, by whether the run has ended with the first line
pub output_ended : (s : List ℕ) → (beginning s).ended ≡ true → output s ≡ first_line s
unfolding output
output_ended s e = rw e (append-nil (first_line s))

pub output_begun : (s : List ℕ) → (beginning s).ended ≡ false → output s ≡ first_line s ++ begun (length s + 1) s
unfolding output
output_begun s e = rw e

-- what is too long is no script
no_header : (s : List ℕ) → longest < length s → header_in s ≡ record { refusal = 1; config = no_config }
unfolding header_in
no_header s h =
    cond_case (λ (x : Header). x ≡ record { refusal = 1; config = no_config }) (is_script s) _ _
    (λ t. absurd (omega (arith, h, within_high first_record longest (length s) (and_l _ _ t))))
    (λ _. refl)

-- and has one output
too_long : (s : List ℕ) → longest < length s → output s ≡ record_line 0 1 0 0 0
unfolding output first_line beginning
too_long s h = rw (no_header s h) (append-nil (record_line 0 1 0 0 0))

pub long_alike : (s t : List ℕ) → longest < length s → longest < length t → output s ≡ output t
long_alike s t h k = too_long s h ∙ sym (too_long t k)

-- all the lines of a run that has begun fit behind the first
pub begun_fits : (s : List ℕ) → (beginning s).ended ≡ false → (n : ℕ) → length (begun n s) ≤ 852000
begun_fits s e n =
    let u = begins_under_way s e in
    omega (arith, lines_fit s u.short n (beginning s).facade (beginning s).place (beginning s).number u.sound u.counted, u.short)

-- where all the output has room, the first line has
pub first_fits : (s : List ℕ) (p : Page) → HasRoom p (output s) → HasRoom p (first_line s)
unfolding output
first_fits s p h = room_first _ _ h

-- a run r that has begun so and ended has put all
pub all_first : (s : List ℕ) (r : Progress) → r ≡ beginning s → r.ended ≡ true → first_line s ≡ output s
all_first s r e t = sym (output_ended s (ap (λ (x : Progress). x.ended) (sym e) ∙ t))

-- one that has not ended is under way, with room for the rest, which is then all the output
module _ (s : List ℕ) (r : Progress) (e : r ≡ beginning s) (t : r.ended ≡ false) where
  goes : (beginning s).ended ≡ false
  goes = ap (λ (x : Progress). x.ended) (sym e) ∙ t

  pub is_begun : UnderWay s r
  is_begun = rw e (begins_under_way s goes)

  both : output s ≡ first_line s ++ lines_from (length s + 1) r.facade s r.place r.number
  both = rw e (output_begun s goes)

  pub rest_fits : (p : Page) → HasRoom p (output s) → HasRoom (put p (first_line s)) (lines_from (length s + 1) r.facade s r.place r.number)
  rest_fits p h = room_then _ _ (rw both at h)

  pub all_put : (p : Page) → HasRoom p (output s) → put (put p (first_line s)) (lines_from (length s + 1) r.facade s r.place r.number) ≡ put p (output s)
  all_put p h = put_then _ _ (rw both at h) ∙ ap (put p) (sym both)

pub ruleset whole = (first_fits, all_first, all_put)

-- the output of any script fits
output_fits : (s : List ℕ) → length (output s) ≤ most_output
output_fits s = go (beginning s).ended refl where
  go : (b : Bool) → (beginning s).ended ≡ b → length (output s) ≤ most_output
  go true e = rw (output_ended s e) (omega (arith, first_line_short s))
  go false e = rw (output_begun s e) (omega (arith, length-append (first_line s) (begun (length s + 1) s), first_line_short s, begun_fits s e (length s + 1)))

-- and any buffer of that many bytes has room for it
pub whole_fits : (s : List ℕ) (p : Page) → p.end ≡ 0 → most_output ≤ length p.out.now → HasRoom p (output s)
whole_fits s p empty large = record { fits = omega (arith, output_fits s, large, empty) }

-- so what is put lies within the buffer
pub lies_within : (s l m : List ℕ) (r : ℕ) → r ≡ output_length s (length l) → m ≡ output_into s l → r ≤ length m
unfolding output_length output_into
lies_within s l m r d e = rw (d, e) (go (leb most_output (length l)) (leb→le most_output (length l))) where
  go : (b : Bool) → (T b → most_output ≤ length l) → cond b (length (output s)) 0 ≤ length (cond b (over l 0 (output s)) l)
  go true h = omega (arith, h tt, output_fits s, over_length l 0 (output s) (omega (arith, h tt, output_fits s)))
  go false h = omega arith
