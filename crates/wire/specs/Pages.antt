-- A lent buffer, and how much of it is put.
use Rattle.std.specs.Prelude.{List, ℕ, ◌+◌, ◌≤◌, length}
use Rattle.wire.specs.Numbers.{over}
use Rattle.wire.specs.declared.Page.{Page}

-- the page p with the bytes v put behind what is put
abbrev pub put : Page → List ℕ → Page
put p v = record { out = record p.out { now = over p.out.now p.end v }; end = p.end + length v }

-- it has room for them
pub record HasRoom (p : Page) (v : List ℕ) : Type 0 where
  pub fits : p.end + length v ≤ length p.out.now

-- the page with nothing put
abbrev pub blank : Page → Page
blank p = record { out = p.out; end = 0 }
