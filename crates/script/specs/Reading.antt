-- Reading a script. "Reading goes record by record, and the first record to meet one gives the number."
use Rattle.std.specs.Prelude.{Bool, not, cond, List, [], ◌∷◌, ℕ, zero, suc, ◌+◌, ◌*◌, leb, ltb, eqb, length, get_or, take, drop, Result, Ok, Err}
use Rattle.types.specs.declared.Config.{Config}
use Rattle.types.specs.declared.Refusal.{Refusal}
use Rattle.types.specs.declared.Refusal.TheVariants.{NoRecord}
use Rattle.types.specs.declared.Refused.{Refused}
use Rattle.types.specs.Numbers.{refusal_number}
use Rattle.types.specs.declared.Step.{Step}
use Rattle.rules.specs.Conditions.{◌and◌, ◌or◌, is_within, unless}
use Rattle.rules.specs.Ranges.{config_in_range}
use Rattle.rules.specs.Steps.{action_of, is_known}
use Rattle.wire.specs.Numbers.{number_at}
use Rattle.script.specs.Layout.{step_of, fields_of, length_of, step_refusal, first_record}
use Rattle.script.specs.declared.Record.{Record}

-- the length of the longest script
abbrev pub longest : ℕ
longest = 65536

-- the seven numbers
unfoldable pub config_read : List ℕ → Config
config_read s = record {
  servers = number_at s 1;
  clients = number_at s 5;
  addresses = number_at s 9;
  skew = number_at s 13;
  detection = number_at s 17;
  mclt = number_at s 21;
  retention = number_at s 25;
}

-- no configuration was read
abbrev pub no_config : Config
no_config = record { servers = 0; clients = 0; addresses = 0; skew = 0; detection = 0; mclt = 0; retention = 0 }

-- Refusal 1. "The script is shorter than 29 bytes, longer than 65,536, or its first byte is not 1."
abbrev pub is_script : List ℕ → Bool
is_script s = is_within first_record longest (length s) and eqb (get_or s 0 0) 1

-- what the header says: refusal 0, 1 or 2, and the configuration
pub record Header : Type 0 where
  pub refusal : ℕ
  pub config : Config

unfoldable pub header_in : List ℕ → Header
header_in s =
    cond (is_script s) (record { refusal = unless (config_in_range (config_read s)) 2 0; config = config_read s })
    (record { refusal = 1; config = no_config })

-- as the code answers it: the configuration stands beside a refusal too
abbrev pub header_as : Result Config (Refused Config) → Header
header_as (Ok c) = record { refusal = 0; config = c }
header_as (Err x) = record { refusal = refusal_number x.refusal; config = x.beside }

-- no step was read
abbrev pub no_step : Step
no_step = step_of 0 0 0 0

-- field i of a record r of n fields, 0 where it has no such field
abbrev pub field_in : List ℕ → ℕ → ℕ → ℕ
field_in r n i = cond (ltb i n) (number_at r (1 + 4 * i)) 0

-- the kind and the fields of a record r
unfoldable pub step_in : List ℕ → Step
step_in r = let k = get_or r 0 0 in step_of k (field_in r (fields_of k) 0) (field_in r (fields_of k) 1) (field_in r (fields_of k) 2)

-- Refusal 3, of a record that lies within the script: it has length 0, or a known kind with another length.
unfoldable pub is_framed : List ℕ → Bool
is_framed r = ltb 0 (length r) and (not (is_known (action_of (step_in r))) or eqb (length r) (length_of (get_or r 0 0)))

-- what a record says: refusal 0, 3, 4 or 5, and its step
pub record Decoded : Type 0 where
  pub refusal : ℕ
  pub step : Step

unfoldable pub decode : List ℕ → Decoded
decode r = cond (is_framed r) (record { refusal = step_refusal (step_in r); step = step_in r }) (record { refusal = 3; step = no_step })

-- as the code answers it: the step, whose refusals are 4 and 5, or refusal 3
abbrev pub decoded_as : Result Step Refusal → Decoded
decoded_as (Ok x) = record { refusal = step_refusal x; step = x }
decoded_as (Err n) = record { refusal = refusal_number n; step = no_step }

-- "that part of the script": the bytes behind the length byte at place p, as many as it says
abbrev pub part : List ℕ → ℕ → List ℕ
part s p = take (get_or s p 0) (drop (p + 1) s)

-- Refusal 3 too: a record that runs past the script's end. From the end on there is none.
abbrev pub is_whole : List ℕ → ℕ → Bool
is_whole s p = ltb p (length s) and ltb (p + get_or s p 0) (length s)

-- what is found at a place: the same, and the place behind the record
pub record Found : Type 0 where
  pub refusal : ℕ
  pub step : Step
  pub next : ℕ

-- the record at place p; behind one that is not whole is the end
unfoldable pub record_at : List ℕ → ℕ → Found
record_at s p =
    cond (is_whole s p)
    (record { refusal = (decode (part s p)).refusal; step = (decode (part s p)).step; next = p + 1 + get_or s p 0 })
    (record { refusal = 3; step = no_step; next = length s })

-- as a result: refusal 3 stands in place of a step, with the place behind, and 4 and 5 are those of the step
unfoldable pub result_of : Found → Result Record (Refused ℕ)
result_of x = cond (eqb x.refusal 3) (Err (record { refusal = NoRecord; beside = x.next })) (Ok (record { step = x.step; next = x.next }))

-- what a result says is found
abbrev pub found_as : Result Record (Refused ℕ) → Found
found_as (Ok r) = record { refusal = step_refusal r.step; step = r.step; next = r.next }
found_as (Err x) = record { refusal = refusal_number x.refusal; step = no_step; next = x.beside }

-- n, or m where n is no refusal
abbrev pub or_else : ℕ → ℕ → ℕ
or_else n m = cond (eqb n 0) m n

-- the first refusal that the records from place p on meet, of at most n records; 0 if none
unfoldable pub records_refusal : ℕ → List ℕ → ℕ → ℕ
records_refusal zero s p = 0
records_refusal (suc n) s p =
    cond (leb (length s) p) 0 (or_else (record_at s p).refusal (records_refusal n s (record_at s p).next))

-- the steps of the records from place p on, of at most n records
unfoldable pub steps_from : ℕ → List ℕ → ℕ → List Step
steps_from zero s p = []
steps_from (suc n) s p = cond (leb (length s) p) [] ((record_at s p).step ∷ steps_from n s (record_at s p).next)

-- "A script is accepted if reading it through meets none of refusals 1 to 5": the first that it meets, 0 if none.
-- Each record is a byte or longer, so there are no more records than bytes.
unfoldable pub verdict : List ℕ → ℕ
verdict s = or_else (header_in s).refusal (records_refusal (length s) s first_record)

-- the steps of a script
unfoldable pub steps_of : List ℕ → List Step
steps_of s = steps_from (length s) s first_record
