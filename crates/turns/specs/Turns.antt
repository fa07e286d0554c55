-- The lines of the records, as the rig prints them: "per record: its number from 1, refusal (0 if none), outcome (0 if
-- refused), true time, waiting messages. Refusal 3 ends the run after its line. Last comes `held` and how many clients hold."
use Rattle.std.specs.Prelude.{Bool, true, false, cond, List, [], ◌++◌, ℕ, zero, suc, ◌+◌, ◌*◌, ◌≤◌, leb, eqb, length}
use Rattle.types.specs.declared.Facade.{Facade}
use Rattle.rules.specs.Answers.{Answer}
use Rattle.rules.specs.Steps.{step, held_clients}
use Rattle.rules.specs.Ranges.{Sound}
use Rattle.script.specs.Layout.{first_record}
use Rattle.script.specs.Reading.{longest, record_at}
use Rattle.turns.specs.declared.Progress.{Progress}
use Rattle.report.specs.Lines.{record_line, held_line}

-- the line of record k: what its step answers, with the facade that it gives back
abbrev pub answer_line : ℕ → Answer → List ℕ
answer_line k x = record_line k x.refusal x.outcome x.facade.time x.facade.waiting

-- a run before the record at place p, which is number k
abbrev pub before : Facade → ℕ → ℕ → Bool → Progress
before f p k ended = record { facade = f; place = p; number = k; ended = ended }

-- the run ends at place p: the record there has refusal 3, which reading says of every place from the script's end on
abbrev pub ends_at : List ℕ → ℕ → Bool
ends_at s p = eqb (record_at s p).refusal 3

-- the lines that end a run at place p: that of record k, which has refusal 3, unless the script is over; and the last one
abbrev pub last_lines : Facade → List ℕ → ℕ → ℕ → List ℕ
last_lines f s p k = cond (leb (length s) p) [] (record_line k 3 0 f.time f.waiting) ++ held_line (held_clients f)

-- the lines of the n turns from the record at place p on, which is number k: a turn takes one record, and the last turn ends the run
unfoldable pub lines_from : ℕ → Facade → List ℕ → ℕ → ℕ → List ℕ
lines_from zero f s p k = []
lines_from (suc n) f s p k =
    cond (ends_at s p) (last_lines f s p k)
    (answer_line k (step f (record_at s p).step) ++ lines_from n (step f (record_at s p).step).facade s (record_at s p).next (k + 1))

-- the run behind them
unfoldable pub progress_from : ℕ → Facade → List ℕ → ℕ → ℕ → Progress
progress_from zero f s p k = before f p k false
progress_from (suc n) f s p k =
    cond (ends_at s p) (before f p k true)
    (progress_from n (step f (record_at s p).step).facade s (record_at s p).next (k + 1))

-- the run r of a script of the right length is under way: its facade is in range, and each record before took two bytes or
-- more, from the first record on
pub record UnderWay (s : List ℕ) (r : Progress) : Type 0 where
  pub sound : Sound r.facade
  pub counted : first_record + 2 * r.number ≤ r.place + 2
  pub placed : r.place ≤ longest
  pub short : length s ≤ longest
