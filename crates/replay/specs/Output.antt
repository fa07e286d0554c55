-- What the rig prints for a script, as bytes: "`facade S C A`", then the lines of the records and the last line (`Turns` of
-- crate `turns`).
-- "Refusals 1 and 2 print only `0 1 0 0 0` or `0 2 0 0 0`."
use Rattle.std.specs.Prelude.{not, cond, List, [], ◌++◌, ℕ, ◌+◌, leb, eqb, length}
use Rattle.rules.specs.Steps.{fresh}
use Rattle.wire.specs.Numbers.{over}
use Rattle.script.specs.Reading.{header_in}
use Rattle.turns.specs.declared.Progress.{Progress}
use Rattle.turns.specs.Turns.{before, lines_from}
use Rattle.report.specs.Lines.{record_line, facade_line}
use Rattle.script.specs.Layout.{first_record}

-- the first line, or the only one of a script whose header is refused
unfoldable pub first_line : List ℕ → List ℕ
first_line s = cond (eqb (header_in s).refusal 0) (facade_line (header_in s).config) (record_line 0 (header_in s).refusal 0 0 0)

-- the run behind it, which has ended where the header is refused
unfoldable pub beginning : List ℕ → Progress
beginning s = before (fresh (header_in s).config) first_record 1 (not (eqb (header_in s).refusal 0))

-- all that the rig prints; there are no more records than bytes, and one turn more ends the run
unfoldable pub output : List ℕ → List ℕ
output s =
    first_line s
    ++ cond (beginning s).ended [] (lines_from (length s + 1) (beginning s).facade s (beginning s).place (beginning s).number)

-- room for any output: at most 32,754 lines of at most 26 bytes, and the first and the last
abbrev pub most_output : ℕ
most_output = 1048576

-- how many bytes are put into a buffer with room for n: all of the output, or none where that is less than most_output
unfoldable pub output_length : List ℕ → ℕ → ℕ
output_length s n = cond (leb most_output n) (length (output s)) 0

-- the buffer after it
unfoldable pub output_into : List ℕ → List ℕ → List ℕ
output_into s l = cond (leb most_output (length l)) (over l 0 (output s)) l

-- The same piece by piece: a piece has the lines of so many turns, and the buffer has room for any piece.
abbrev pub piece_turns : ℕ
piece_turns = 2048

abbrev pub most_piece : ℕ
most_piece = 65536
