-- A list that is read number by number, and one that numbers are put into.
use Rattle.std.specs.Prelude.{List, ℕ, ◌+◌, length}
use Rattle.wire.specs.Numbers.{over}
use Rattle.flat.specs.declared.Cursor.{Cursor}
use Rattle.flat.specs.declared.Page.{Page}

-- the cursor c past n more numbers
abbrev pub past : Cursor → ℕ → Cursor
past c n = record { list = c.list; at = c.at + n }

-- the page p with the numbers v put behind what is put
abbrev pub put : Page → List ℕ → Page
put p v = record { out = record p.out { now = over p.out.now p.end v }; end = p.end + length v }
