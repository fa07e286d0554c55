-- The lines of the records, one record at a time.
use mathlib.Core.Path.{◌≡◌, refl}
use mathlib.Core.Bool.{Bool, true, false}
use mathlib.Core.List.{List, ◌++◌}
use Prim.Native.Nat.{ℕ, zero, suc, ◌+◌, ◌-◌, ◌*◌, ◌≤◌, ◌<◌}
use native.Mathlib.Omega.{arith}
use lib.Dec.{T, leb, ltb→lt, nleb→lt}
use lib.ListN.{length, get_or, take, drop, length-append}
use borrow.Author.Tests.{le-ltb, eq-eqb, ne_eqb}
use Rattle.types.specs.declared.Facade.{Facade}
use Rattle.types.specs.declared.Step.{Step}
use Rattle.rules.specs.Answers.{Answer}
use Rattle.rules.specs.Conditions.{◌and◌}
use Rattle.rules.specs.Ranges.{Sound}
use Rattle.rules.specs.Steps.{step, held_clients}
use Rattle.rules.proofs.Laws.{and_r, cond_case, not_eqb}
use Rattle.rules.proofs.Kept.{ranged}
use Rattle.rules.proofs.Ranges.{step_sound}
use Rattle.rules.proofs.Bounds.{step_refusal_high, step_outcome_high}
use Rattle.script.specs.Layout.{first_record}
use Rattle.script.specs.Reading.{longest, is_framed, decode, is_whole, record_at}
use Rattle.script.specs.Reading.{Found}
use Rattle.report.specs.Lines.{record_line, held_line}
use Rattle.report.proofs.Laws.{record_line_short, held_line_short}
use Rattle.turns.specs.declared.Progress.{Progress}
use Rattle.turns.specs.Turns.{before, answer_line, ends_at, last_lines, lines_from, progress_from}

true_is_not_false : {X : Type 0} → true ≡ false → X
true_is_not_false e = absurd (to_false e tt) where
  to_false : {b : Bool} → true ≡ b → T true → T b
  to_false q t = rw (← q) t

-- from the script's end on a run ends
ends_past : (s : List ℕ) (p : ℕ) → length s ≤ p → ends_at s p ≡ true
unfolding record_at ◌and◌
ends_past s p h = rw (le-ltb p (length s) h)

-- a record of no bytes has refusal 3
has_a_kind : (n : ℕ) (l : List ℕ) → ((decode (take n l)).refusal ≡ 3 → ⊥) → 1 ≤ n
unfolding decode is_framed ◌and◌
has_a_kind zero l f = absurd (f refl)
has_a_kind (suc n) l f = omega arith

-- a record with another refusal or none moves the place on by its length byte and its kind, within the script
pub moves_two : (s : List ℕ) (p : ℕ) → ((record_at s p).refusal ≡ 3 → ⊥) → (p + 2 ≤ (record_at s p).next) × ((record_at s p).next ≤ length s)
unfolding record_at
moves_two s p =
    cond_case (λ (r : Found). (r.refusal ≡ 3 → ⊥) → (p + 2 ≤ r.next) × (r.next ≤ length s)) (is_whole s p) _ _
    (λ t f. (omega (arith, has_a_kind (get_or s p 0) (drop (p + 1) s) f), omega (arith, ltb→lt (p + get_or s p 0) (length s) (and_r _ _ t))))
    (λ t f. absurd (f refl))

-- so does r, where r is that record
pub moves_past : (s : List ℕ) (p : ℕ) (r : Found) → r ≡ record_at s p → (r.refusal ≡ 3 → ⊥) → (p + 2 ≤ r.next) × (r.next ≤ length s)
moves_past s p r e t = rw e (moves_two s p (rw (← e) t))

-- where f is in range and k has at most five digits, the line of record k has at most 26 bytes

few_wait : (f : Facade) → Sound f → f.waiting ≤ 128
few_wait f v = (ranged f v.0).waiting

-- at refusal 3
pub stop_line_short : (k : ℕ) (f : Facade) → k ≤ 99999 → Sound f → length (record_line k 3 0 f.time f.waiting) ≤ 26
stop_line_short k f h v = record_line_short k 3 0 f.time f.waiting h (omega arith) (omega arith) (omega (arith, few_wait f v))

-- at the answer x to a step s
answer_line_short : (k : ℕ) (f : Facade) (s : Step) (x : Answer) → k ≤ 99999 → Sound f → x ≡ step f s → length (answer_line k x) ≤ 26
answer_line_short k f s x h v e =
    let y = step f s in
    let few = few_wait y.facade (step_sound f s v) in
    rw e
    (record_line_short k y.refusal y.outcome y.facade.time y.facade.waiting h
    (omega (arith, step_refusal_high f s)) (omega (arith, step_outcome_high f s)) (omega arith))

-- Room for the lines from record k at place p on, where k - 1 records before took two bytes or more each, from place 29 on.
module _ (s : List ℕ) (short : length s ≤ longest) where
  -- by the bytes that are left: 26 for each record, which takes two bytes or more of the script, for one at refusal 3, and 16
  -- for the last line;
  -- and by the turns
  lines_high : (n : ℕ) (f : Facade) (p k : ℕ) → Sound f → first_record + 2 * k ≤ p + 2
      → (length (lines_from n f s p k) ≤ 13 * (length s - p) + 42) × (length (lines_from n f s p k) ≤ 26 * n + 16)
  unfolding lines_from
  lines_high zero f p k v h = (omega arith, omega arith)
  lines_high (suc n) f p k v h =
      let held = held_line_short (held_clients f) in
      let r = record_at s p in
      let x = step f r.step in
      let rest = lines_from n x.facade s r.next (k + 1) in
      let Fits : List ℕ → Type 0 = λ l. (length l ≤ 13 * (length s - p) + 42) × (length l ≤ 26 * suc n + 16) in
      cond_case Fits (ends_at s p) _ _
      (λ t. cond_case (λ (l : List ℕ). Fits (l ++ held_line (held_clients f))) (leb (length s) p) _ _
      (λ u. (omega arith, omega arith))
      (λ u. let before = nleb→lt (length s) p u in
      let line = stop_line_short k f (omega arith) v in
      simp length-append (omega (arith, line), omega (arith, line))))
      (λ t. let on = moves_two s p (not_eqb _ _ t) in
      let both = length-append (answer_line k x) rest in
      let line = answer_line_short k f r.step x (omega arith) v refl in
      let later = lines_high n x.facade r.next (k + 1) (step_sound f r.step v) (omega arith) in
      (omega (arith, line, later.0), omega (arith, line, later.1)))

  pub lines_fit : (n : ℕ) (f : Facade) (p k : ℕ) → Sound f → first_record + 2 * k ≤ p + 2 → length (lines_from n f s p k) ≤ 13 * (length s - p) + 42
  lines_fit n f p k v h = (lines_high n f p k v h).0

  pub lines_few : (n : ℕ) (f : Facade) (p k : ℕ) → Sound f → first_record + 2 * k ≤ p + 2 → length (lines_from n f s p k) ≤ 26 * n + 16
  lines_few n f p k v h = (lines_high n f p k v h).1

-- One turn, where r is the record at p.
module _ (n : ℕ) (f : Facade) (s : List ℕ) (p k : ℕ) (r : Found) (e : r ≡ record_at s p) where
  -- refusal 3 ends the run
  module _ (t : r.refusal ≡ 3) where
    pub ends_with : lines_from (suc n) f s p k ≡ last_lines f s p k
    unfolding lines_from
    ends_with = rw (← e, eq-eqb r.refusal 3 t)

    pub ends_at_lem : before f p k true ≡ progress_from (suc n) f s p k
    unfolding progress_from
    ends_at_lem = rw (← e, eq-eqb r.refusal 3 t)

  -- any other record has its line, and the rest is that of the facade which its step gives back
  module _ (x : Answer) (d : x ≡ step f r.step) (t : r.refusal ≡ 3 → ⊥) where
    pub goes_with : lines_from (suc n) f s p k ≡ answer_line k x ++ lines_from n x.facade s r.next (k + 1)
    unfolding lines_from
    goes_with = rw (← e, ne_eqb r.refusal 3 t, ← d)

    pub goes_to : progress_from (suc n) f s p k ≡ progress_from n x.facade s r.next (k + 1)
    unfolding progress_from
    goes_to = rw (← e, ne_eqb r.refusal 3 t, ← d)

-- The place of a run does not go back, and a turn that does not end the run moves it on.
module _ (s : List ℕ) where
  not_back : (n : ℕ) (f : Facade) (p k : ℕ) → p ≤ (progress_from n f s p k).place
  unfolding progress_from
  not_back zero f p k = omega arith
  not_back (suc n) f p k =
      let r = record_at s p in
      let P : Progress → Type 0 = λ x. p ≤ x.place in
      cond_case P (ends_at s p) _ _ (λ t. omega arith)
      (λ t. omega (arith, moves_two s p (not_eqb _ _ t), not_back n (step f r.step).facade r.next (k + 1)))

  pub moves_on : (n : ℕ) (f : Facade) (p k : ℕ) → (progress_from (suc n) f s p k).ended ≡ false → p < (progress_from (suc n) f s p k).place
  unfolding progress_from
  moves_on n f p k =
      let r = record_at s p in
      let P : Progress → Type 0 = λ x. x.ended ≡ false → p < x.place in
      cond_case P (ends_at s p) _ _ (λ t e. true_is_not_false e)
      (λ t e. omega (arith, moves_two s p (not_eqb _ _ t), not_back n (step f r.step).facade r.next (k + 1)))
