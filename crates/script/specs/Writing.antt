-- Writing a script. "The writer puts the same layout into a lent buffer."
use Rattle.std.specs.Prelude.{cond, List, [], ◌∷◌, ◌++◌, ℕ, zero, suc, ◌+◌, ◌*◌, ◌/◌, leb, eqb, ltb, length, get_or, Result, Ok, Err}
use Rattle.types.specs.declared.Config.{Config}
use Rattle.types.specs.declared.Refusal.{Refusal}
use Rattle.types.specs.declared.Step.{Step}
use Rattle.types.specs.Numbers.{refusal_number}
use Rattle.rules.specs.Conditions.{◌and◌, unless}
use Rattle.rules.specs.Ranges.{config_in_range}
use Rattle.wire.specs.Numbers.{over}
use Rattle.script.specs.Layout.{step_of, fields_of, step_refusal, script_of}
use Rattle.script.specs.Reading.{longest, or_else}

-- Steps are handed over as rows of four numbers: a kind and three fields. Row n of a list of numbers:
abbrev pub row_at : List ℕ → ℕ → Step
row_at l n = step_of (get_or l (4 * n) 0) (get_or l (4 * n + 1) 0) (get_or l (4 * n + 2) 0) (get_or l (4 * n + 3) 0)

-- the first n rows
unfoldable pub rows : List ℕ → ℕ → List Step
rows l zero = []
rows l (suc n) = rows l n ++ (row_at l n ∷ [])

-- the steps of a list of numbers: its whole rows. One that is not whole, at the end, is no step.
abbrev pub steps_in : List ℕ → List Step
steps_in l = rows l (length l / 4)

-- steps as such a list
unfoldable pub flat : List Step → List ℕ
flat [] = []
flat (s ∷ ss) = s.kind ∷ s.first ∷ s.second ∷ s.third ∷ flat ss

-- "4 and 5 step by step": the first refusal among the steps, 0 if none
unfoldable pub steps_refusal : List Step → ℕ
steps_refusal [] = 0
steps_refusal (s ∷ ss) = or_else (step_refusal s) (steps_refusal ss)

-- "It tests refusal 2, then 4 and 5 step by step, then gives 1 if the script would pass 65,536 bytes or the buffer is short
-- by any amount." The buffer has room for n bytes.
unfoldable pub write_refusal : Config → List Step → ℕ → ℕ
write_refusal c ss n =
    unless (config_in_range c) 2
    (or_else (steps_refusal ss)
    (unless (leb (length (script_of c ss)) longest and leb (length (script_of c ss)) n) 1
    0))

-- the writer's answer: the refusal, and the length of the script, 0 where it is refused
pub record Written : Type 0 where
  pub refusal : ℕ
  pub length : ℕ

unfoldable pub written : Config → List Step → ℕ → Written
written c ss n = record { refusal = write_refusal c ss n; length = cond (eqb (write_refusal c ss n) 0) (length (script_of c ss)) 0 }

-- that of a result
abbrev pub written_as : Result ℕ Refusal → Written
written_as (Ok n) = record { refusal = 0; length = n }
written_as (Err n) = record { refusal = refusal_number n; length = 0 }

-- "A refusal leaves the buffer unchanged; otherwise bytes past the script are unchanged."
unfoldable pub script_into : Config → List Step → List ℕ → List ℕ
script_into c ss l = cond (eqb (write_refusal c ss (length l)) 0) (over l 0 (script_of c ss)) l

-- a step with 0 in each field that its kind does not have: those have no bytes in a script
unfoldable pub canonical : Step → Step
canonical s =
    let n = fields_of s.kind in
    step_of s.kind (cond (ltb 0 n) s.first 0) (cond (ltb 1 n) s.second 0) (cond (ltb 2 n) s.third 0)
