-- Laws of what is put into the buffer.
use mathlib.Core.Path.{◌≡◌, refl, sym, ap, ◌∙◌}
use mathlib.Core.List.{List, [], ◌∷◌, ◌++◌}
use Prim.Native.Nat.{ℕ, zero, suc, ◌+◌, ◌*◌, ◌/◌, ◌≤◌, ◌<◌}
use native.Mathlib.Omega.{arith}
use lib.Dec.{T}
use lib.ListN.{length, get_or, take, length-append}
use Rattle.std.specs.List.{flat_map}
use Rattle.types.specs.declared.Config.{Config}
use Rattle.types.specs.declared.Step.{Step}
use Rattle.types.specs.Rows.{config_row}
use Rattle.rules.specs.Conditions.{is_within}
use Rattle.rules.specs.Steps.{action_of, is_known, malformed}
use Rattle.rules.proofs.Laws.{unless_ok, within_high}
use Rattle.rules.proofs.Actions.{known_kind}
use Rattle.wire.specs.Numbers.{bytes_of}
use Rattle.wire.specs.declared.Page.{Page}
use Rattle.wire.specs.Pages.{put, HasRoom}
use Rattle.wire.proofs.Pages.{put_none, room_first, room_then, put_then, next_put}
use Rattle.script.specs.Layout.{fields_of, step_refusal, header_of, record_of, records_of, script_of}
use Rattle.script.specs.Writing.{row_at, rows, steps_in, steps_refusal, write_refusal}
use Rattle.rows.proofs.Laws.{no_records, next_records, room_at}
use Rattle.script.proofs.Round.{not_refused}

-- a step that is not refused has a kind from 1 to 10
kind_told : (s : Step) → step_refusal s ≡ 0 → T (is_within 1 10 s.kind)
unfolding malformed
kind_told s e = rw (known_kind s) (unless_ok (is_known (action_of s)) 4 _ (omega arith) e).0

pub kind_high : (s : Step) → step_refusal s ≡ 0 → s.kind ≤ 10
kind_high s e = within_high 1 10 s.kind (kind_told s e)

-- one number more
pub number_put : (p : Page) (ns : List ℕ) → HasRoom p (flat_map bytes_of ns) → (i : ℕ) → i < length ns
    → put (put p (flat_map bytes_of (take i ns))) (bytes_of (get_or ns i 0)) ≡ put p (flat_map bytes_of (take (i + 1) ns))
number_put = next_put bytes_of

-- the version byte, and then the seven numbers
pub header_is : (c : Config) → header_of c ≡ (1 ∷ []) ++ flat_map bytes_of (config_row c)
unfolding header_of
header_is c = refl

-- the first n of three numbers
pub few_numbers : (n a b c : ℕ) → n ≤ 3 → flat_map bytes_of (take n (a ∷ b ∷ c ∷ [])) ≡ take (4 * n) (bytes_of a ++ bytes_of b ++ bytes_of c)
few_numbers zero a b c h = refl
few_numbers (suc zero) a b c h = refl
few_numbers (suc (suc zero)) a b c h = refl
few_numbers (suc (suc (suc zero))) a b c h = refl
few_numbers (suc (suc (suc (suc n)))) a b c h = absurd (omega arith)

-- A record is its length byte and its kind byte, and then the first of its numbers.
module _ (s : Step) (n : ℕ) (e : n ≡ fields_of s.kind) (h : n ≤ 3) where
  abbrev front : List ℕ
  front = (1 + 4 * n) ∷ s.kind ∷ []

  abbrev fields : List ℕ
  fields = flat_map bytes_of (take n (s.first ∷ s.second ∷ s.third ∷ []))

  record_is : record_of s ≡ front ++ fields
  unfolding record_of
  record_is = rw (← e, few_numbers n s.first s.second s.third h)

  module _ (p : Page) (room : HasRoom p (record_of s)) where
    pub front_fits : HasRoom p ((1 + 4 * n) ∷ s.kind ∷ [])
    front_fits = room_first front fields (rw record_is at room)

    pub fields_fit : HasRoom (put p ((1 + 4 * n) ∷ s.kind ∷ [])) (flat_map bytes_of (take n (s.first ∷ s.second ∷ s.third ∷ [])))
    fields_fit = room_then front fields (rw record_is at room)

    pub record_put : put (put p ((1 + 4 * n) ∷ s.kind ∷ [])) (flat_map bytes_of (take n (s.first ∷ s.second ∷ s.third ∷ []))) ≡ put p (record_of s)
    record_put = rw record_is (put_then front fields (rw record_is at room))

pub ruleset record_pieces = (kind_high, front_fits, fields_fit, record_put)

-- one record more
module _ (p : Page) (l : List ℕ) (room : HasRoom p (records_of (steps_in l))) (k : ℕ) (h : k < length l / 4) where
  both_fit : HasRoom p (records_of (rows l k) ++ record_of (row_at l k))
  both_fit = record { fits = omega (arith, room.fits, room_at l k h, length-append (records_of (rows l k)) (record_of (row_at l k))) }

  pub row_fits : HasRoom (put p (records_of (rows l k))) (record_of (row_at l k))
  row_fits = room_then _ _ both_fit

  pub row_put : put (put p (records_of (rows l k))) (record_of (row_at l k)) ≡ put p (records_of (rows l (k + 1)))
  row_put = put_then _ _ both_fit ∙ ap (put p) (sym (next_records l k))

-- none
pub none_put : (p : Page) (l : List ℕ) → put p (records_of (rows l 0)) ≡ p
none_put p l = rw (no_records l) (put_none p)

-- what is not refused has room on an empty page
pub has_room : (c : Config) (ss : List Step) (p : Page) → p.end ≡ 0 → 0 ≡ write_refusal c ss (length p.out.now) → (steps_refusal ss ≡ 0) × HasRoom p (script_of c ss)
has_room c ss p empty e =
    let a = not_refused c ss (length p.out.now) (sym e) in
    (a.1, record { fits = omega (arith, a.3, empty) })
