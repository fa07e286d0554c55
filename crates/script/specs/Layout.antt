-- The layout of a script: "Version byte 1; S, C, A, Δ, ν, μ, θ in four bytes each, big-endian; then records: a length byte
-- (1 + 4 per field), the kind byte, the fields in four big-endian bytes, e in two's complement."
use Rattle.std.specs.Prelude.{List, [], ◌∷◌, ◌++◌, ℕ, ◌+◌, ◌*◌, take}
use Rattle.types.specs.declared.Config.{Config}
use Rattle.types.specs.declared.Step.{Step}
use Rattle.rules.specs.Steps.{Action, pass, fail, return, notice, discover, request, renew, deliver, lose, cleanup, unknown, action_of, malformed}
use Rattle.wire.specs.Numbers.{bytes_of}
pub use Rattle.rules.specs.Steps.{step_of}

-- how many fields a step has
unfoldable pub field_count : Action → ℕ
field_count (pass d p e) = 3
field_count (fail k) = 1
field_count (return k) = 1
field_count (notice k j says) = 3
field_count (discover i) = 1
field_count (request i t) = 2
field_count (renew i t) = 2
field_count (deliver p keep) = 2
field_count (lose p) = 1
field_count (cleanup k) = 1
field_count unknown = 0

-- how many fields follow a kind
unfoldable pub fields_of : ℕ → ℕ
fields_of k = field_count (action_of (step_of k 0 0 0))

-- what the length byte of a record says
abbrev pub length_of : ℕ → ℕ
length_of k = 1 + 4 * fields_of k

-- refusals 4 and 5, the ones that a step alone can meet
abbrev pub step_refusal : Step → ℕ
step_refusal s = malformed (action_of s) 0

-- the place of the first record, behind the version byte and the seven numbers
abbrev pub first_record : ℕ
first_record = 29

-- the version byte and the seven numbers
unfoldable pub header_of : Config → List ℕ
header_of c =
    (1 ∷ []) ++ bytes_of c.servers ++ bytes_of c.clients ++ bytes_of c.addresses ++ bytes_of c.skew ++ bytes_of c.detection
    ++ bytes_of c.mclt ++ bytes_of c.retention

-- the record of a step: length byte, kind byte, as many fields as the kind has
unfoldable pub record_of : Step → List ℕ
record_of s = length_of s.kind ∷ s.kind ∷ take (4 * fields_of s.kind) (bytes_of s.first ++ bytes_of s.second ++ bytes_of s.third)

unfoldable pub records_of : List Step → List ℕ
records_of [] = []
records_of (s ∷ ss) = record_of s ++ records_of ss

-- the script of a configuration and steps
abbrev pub script_of : Config → List Step → List ℕ
script_of c ss = header_of c ++ records_of ss
