-- What programs in other languages are given: fresh, step, verdict, writer and run on lists of numbers. A list of the wrong
-- length, and one with a number that codes nothing, is refused with 2: "A number of a configuration or of a facade handed in is
-- outside its range."
-- A refusal leaves every list as it was, and the outcome or length is 0.
use Rattle.std.specs.Prelude.{Bool, cond, List, ℕ, ◌%◌, eqb, length}
use Rattle.types.specs.declared.Step.{Step}
use Rattle.rules.specs.Answers.{Answer}
use Rattle.rules.specs.Conditions.{◌and◌}
use Rattle.rules.specs.Steps.{start, step}
use Rattle.flat.specs.Flat.{config_in, facade_numbers, facade_in, codes_facade}
use Rattle.script.specs.Writing.{steps_in, written, script_into}

-- the flat form of the facade that an answer gives, in the place of l, which a refusal n leaves
abbrev pub facade_left : ℕ → Answer → List ℕ → List ℕ
facade_left n x l = cond (eqb n 0) (facade_numbers x.facade) l

-- A fresh facade, of the configuration in c, into a list with room for n numbers.

unfoldable pub fresh_refusal : List ℕ → ℕ → ℕ
fresh_refusal c n = cond (eqb (length c) 7 and eqb n 2778) (start (config_in c 0)).refusal 2

unfoldable pub fresh_numbers : List ℕ → List ℕ → List ℕ
fresh_numbers c l = facade_left (fresh_refusal c (length l)) (start (config_in c 0)) l

-- A step of the facade in l.

unfoldable pub stepped_refusal : List ℕ → Step → ℕ
stepped_refusal l s = cond (codes_facade l) (step (facade_in l) s).refusal 2

unfoldable pub stepped_numbers : List ℕ → Step → List ℕ
stepped_numbers l s = facade_left (stepped_refusal l s) (step (facade_in l) s) l

-- "outcome (0 if refused)"
unfoldable pub stepped_outcome : List ℕ → Step → ℕ
stepped_outcome l s = cond (eqb (stepped_refusal l s) 0) (step (facade_in l) s).outcome 0

-- A script, of the configuration in c and the steps in l, four numbers each.

abbrev pub are_steps : List ℕ → List ℕ → Bool
are_steps c l = eqb (length c) 7 and eqb (length l % 4) 0

unfoldable pub written_refusal : List ℕ → List ℕ → ℕ → ℕ
written_refusal c l room = cond (are_steps c l) (written (config_in c 0) (steps_in l) room).refusal 2

unfoldable pub written_script : List ℕ → List ℕ → List ℕ → List ℕ
written_script c l out = cond (are_steps c l) (script_into (config_in c 0) (steps_in l) out) out

-- the length, 0 where the script is refused
unfoldable pub written_length : List ℕ → List ℕ → ℕ → ℕ
written_length c l room = cond (eqb (written_refusal c l room) 0) (written (config_in c 0) (steps_in l) room).length 0
