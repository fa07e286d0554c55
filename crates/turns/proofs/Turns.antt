-- The turns of the run: from the lines that are owed, to what is owed or put behind it.
use mathlib.Core.Path.{◌≡◌, refl, sym, ap, ◌∙◌}
use mathlib.Core.Bool.{Bool, true, false}
use mathlib.Core.List.{List, ◌++◌}
use Prim.Native.Nat.{ℕ, suc, ◌+◌, ◌*◌, ◌≤◌}
use native.Mathlib.Omega.{arith}
use Rattle.std.specs.Prelude.{Result, Err, Ok}
use Rattle.types.specs.declared.Outcome.{Outcome}
use Rattle.types.specs.declared.Facade.{Facade}
use Rattle.types.specs.declared.Refusal.{Refusal}
use Rattle.types.specs.declared.Refused.{Refused}
use Rattle.rules.specs.Answers.{Answer, answer_of}
use Rattle.rules.specs.Steps.{step}
use Rattle.rules.proofs.Ranges.{step_sound}
use Rattle.script.specs.Layout.{first_record, step_refusal}
use Rattle.script.specs.Reading.{Found, longest, record_at, result_of}
use Rattle.script.specs.declared.Record.{Record}
use Rattle.script.proofs.Results.{step_not_3, none_at, one_at}
use Rattle.wire.specs.declared.Page.{Page}
use Rattle.wire.specs.Pages.{put, HasRoom}
use Rattle.wire.proofs.Pages.{put_none, room_first, room_then, put_then}
use Rattle.turns.specs.declared.Progress.{Progress}
use Rattle.turns.specs.Turns.{before, answer_line, last_lines, lines_from, progress_from, UnderWay}
use Rattle.turns.proofs.Lines.{moves_past, ends_with, ends_at_lem, goes_with, goes_to}

-- a run is under way whether it has ended or not
pub whether_ended : (s : List ℕ) (r : Progress) (ended : Bool) → UnderWay s r → UnderWay s (before r.facade r.place r.number ended)
whether_ended s r ended u = record { sound = u.sound; counted = u.counted; placed = u.placed; short = u.short }

-- The turns of a run of script s are under way, with r to go on from and so many left: with their lines put, the page m is z, and
-- the run behind them is x.
pub record Going (s : List ℕ) (x r : Progress) (z m : Page) (left : ℕ) : Type 0 where
  pub ended : r.ended ≡ false
  pub way : UnderWay s r
  pub room : HasRoom m (lines_from left r.facade s r.place r.number)
  pub page : put m (lines_from left r.facade s r.place r.number) ≡ z
  pub run : progress_from left r.facade s r.place r.number ≡ x

-- They are over.
pub record Over (s : List ℕ) (x r : Progress) (z m : Page) : Type 0 where
  pub run : (r ≡ x) × UnderWay s r
  pub page : m ≡ z

module _ {s : List ℕ} {x r : Progress} {z m : Page} {left : ℕ} (g : Going s x r z m left) where
  -- no turn is left
  pub none_left : left ≡ 0 → Over s x r z m
  unfolding lines_from progress_from
  none_left u =
      let still : r ≡ before r.facade r.place r.number false = ap (λ (b : Bool). before r.facade r.place r.number b) g.ended in
      record { run = (still ∙ rw u at g.run, g.way); page = sym (put_none m) ∙ rw u at g.page }

  -- at least one is left
  module _ (n : ℕ) (u : left ≡ suc n) where
    has_room : HasRoom m (lines_from (suc n) r.facade s r.place r.number)
    has_room = rw u at g.room

    owes : put m (lines_from (suc n) r.facade s r.place r.number) ≡ z
    owes = rw u at g.page

    runs : progress_from (suc n) r.facade s r.place r.number ≡ x
    runs = rw u at g.run

    -- no record is found, and the lines that end the run have room
    module _ {y : Refused ℕ} (q : Err y ≡ result_of (record_at s r.place)) where
      are_last : lines_from (suc n) r.facade s r.place r.number ≡ last_lines r.facade s r.place r.number
      are_last = ends_with n r.facade s r.place r.number (record_at s r.place) refl (none_at s r.place q).1

      pub last_fit : HasRoom m (last_lines r.facade s r.place r.number)
      last_fit = rw are_last at has_room

      -- with them put it is over
      pub last_put : {m₁ : Page} → m₁ ≡ put m (last_lines r.facade s r.place r.number)
          → Over s x (before r.facade r.place r.number true) z m₁
      last_put o = record {
        run = (ends_at_lem n r.facade s r.place r.number (record_at s r.place) refl (none_at s r.place q).1 ∙ runs, whether_ended s r true g.way);
        page = o ∙ rw are_last at owes;
      }

    -- the record d is found, and its step gives the answer a
    module _ {d : Record} (q : Ok d ≡ result_of (record_at s r.place)) (a : Answer) (e : a ≡ step r.facade d.step) where
      abbrev found : Found
      found = record { refusal = step_refusal d.step; step = d.step; next = d.next }

      is : found ≡ record_at s r.place
      is = sym (one_at s r.place q)

      both : lines_from (suc n) r.facade s r.place r.number ≡ answer_line r.number a ++ lines_from n a.facade s d.next (r.number + 1)
      both = goes_with n r.facade s r.place r.number found is a e (step_not_3 d.step)

      both_fit : HasRoom m (answer_line r.number a ++ lines_from n a.facade s d.next (r.number + 1))
      both_fit = rw both at has_room

      pub line_fits : HasRoom m (answer_line r.number a)
      line_fits = room_first _ _ both_fit

      -- with its line put the turns go on from the facade that its step gives
      goes_round : {m₁ : Page} → m₁ ≡ put m (answer_line r.number a) → Going s x (before a.facade d.next (r.number + 1) r.ended) z m₁ n
      goes_round o =
          let on = moves_past s r.place found is (step_not_3 d.step) in
          let counted : first_record + 2 * (r.number + 1) ≤ d.next + 2 = omega (arith, on, g.way.counted) in
          let placed : d.next ≤ longest = omega (arith, on, g.way.short) in
          record {
            ended = g.ended;
            way = record { sound = rw e (step_sound r.facade d.step g.way.sound); counted = counted; placed = placed; short = g.way.short };
            room = rw o (room_then _ _ both_fit);
            page = rw o (put_then _ _ both_fit ∙ rw both at owes);
            run = sym (goes_to n r.facade s r.place r.number found is a e (step_not_3 d.step)) ∙ runs;
          }

    pub goes_on : {d : Record} → Ok d ≡ result_of (record_at s r.place) → (y : Result Outcome Refusal) (f : Facade) → answer_of y f ≡ step r.facade d.step
        → {m₁ : Page} → m₁ ≡ put m (answer_line r.number (answer_of y f)) → Going s x (before f d.next (r.number + 1) r.ended) z m₁ n
    goes_on q y f e o = goes_round q (answer_of y f) e o
