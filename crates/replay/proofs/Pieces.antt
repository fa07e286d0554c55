-- A run printed piece by piece: its pieces are the output, each lies within the buffer, and the run comes to its end.
use mathlib.Core.Path.{◌≡◌, refl, sym, ap, ◌∙◌}
use mathlib.Core.Bool.{Bool, true, false, cond}
use mathlib.Core.List.{List, [], ◌++◌, append-nil, append_assoc}
use Prim.Native.Nat.{ℕ, zero, suc, ◌+◌, ◌-◌, ◌≤◌, ◌<◌}
use native.Mathlib.Numerals.{add-one}
use native.Mathlib.Nat.{zero-add}
use native.Mathlib.Omega.{arith}
use lib.ListN.{length, take, drop}
use lib.Seq.{take-append_seam}
use Rattle.types.specs.declared.Facade.{Facade}
use Rattle.rules.specs.Answers.{Answer}
use Rattle.rules.specs.Steps.{step}
use Rattle.rules.proofs.Laws.{cond_case, not_eqb}
use Rattle.std.specs.Borrow.{MutBor}
use Rattle.wire.specs.declared.Page.{Page}
use Rattle.wire.specs.Pages.{put, blank, HasRoom}
use Rattle.wire.proofs.Over.{over_length}
use Rattle.script.specs.Reading.{Found, record_at}
use Rattle.turns.specs.declared.Progress.{Progress}
use Rattle.turns.specs.Turns.{before, answer_line, ends_at, last_lines, lines_from, progress_from, UnderWay}
use Rattle.replay.specs.Output.{first_line, beginning, output, piece_turns, most_piece}
use Rattle.turns.proofs.Lines.{moves_two, lines_few, moves_on}
use Rattle.replay.proofs.Whole.{first_line_short, output_begun}

none_more : (m : ℕ) → 0 + m ≡ m
none_more m = omega arith

one_more : (n m : ℕ) → suc n + m ≡ suc (n + m)
one_more n m = omega arith

-- the lines of m turns more of a run
abbrev more : List ℕ → ℕ → Progress → List ℕ
more s m r = cond r.ended [] (lines_from m r.facade s r.place r.number)

-- the lines of n turns and then of m more are those of n + m turns
pub pieces_join : (s : List ℕ) (n m : ℕ) (f : Facade) (p k : ℕ) → lines_from (n + m) f s p k ≡ lines_from n f s p k ++ more s m (progress_from n f s p k)
unfolding lines_from progress_from
pieces_join s zero m f p k = ap (λ (j : ℕ). lines_from j f s p k) (none_more m)
pieces_join s (suc n) m f p k = rw (one_more n m) (go (pieces_join s n m x.facade r.next (k + 1)) (ends_at s p)) where
  r : Found
  r = record_at s p

  x : Answer
  x = step f r.step

  last : List ℕ
  last = last_lines f s p k

  line : List ℕ
  line = answer_line k x

  go : lines_from (n + m) x.facade s r.next (k + 1) ≡ lines_from n x.facade s r.next (k + 1) ++ more s m (progress_from n x.facade s r.next (k + 1))
      → (b : Bool)
      → cond b last (line ++ lines_from (n + m) x.facade s r.next (k + 1))
      ≡ cond b last (line ++ lines_from n x.facade s r.next (k + 1)) ++ more s m (cond b (before f p k true) (progress_from n x.facade s r.next (k + 1)))
  go ih true = sym (append-nil last)
  go ih false =
      ap (λ (v : List ℕ). line ++ v) ih
      ∙ sym (append_assoc line (lines_from n x.facade s r.next (k + 1)) _)

-- a run that has ended prints nothing more
nothing_more : (s : List ℕ) (n m : ℕ) (f : Facade) (p k : ℕ) → (progress_from n f s p k).ended ≡ true → lines_from (n + m) f s p k ≡ lines_from n f s p k
nothing_more s n m f p k e =
    let r = progress_from n f s p k in
    pieces_join s n m f p k
    ∙ ap (λ (b : Bool). lines_from n f s p k ++ cond b [] (lines_from m r.facade s r.place r.number)) e ∙ append-nil (lines_from n f s p k)

-- it ends within as many turns as there are bytes, and one
in_time : (s : List ℕ) (n : ℕ) (f : Facade) (p k : ℕ) → length s ≤ n + p → (progress_from (suc n) f s p k).ended ≡ true
unfolding progress_from
in_time s zero f p k h =
    cond_case (λ (x : Progress). x.ended ≡ true) (ends_at s p) _ _ (λ _. refl) (λ t. absurd (omega (arith, moves_two s p (not_eqb _ _ t))))
in_time s (suc n) f p k h =
    let r = record_at s p in
    cond_case (λ (x : Progress). x.ended ≡ true) (ends_at s p) _ _ (λ _. refl)
    (λ t. in_time s n (step f r.step).facade r.next (k + 1) (omega (arith, moves_two s p (not_eqb _ _ t))))

-- The pieces are the output: once n turns have ended the run, what they put behind the first line is all that the rig prints.
pub pieces_are_output : (s : List ℕ) (n : ℕ) → (beginning s).ended ≡ false
    → let b = beginning s in (progress_from n b.facade s b.place b.number).ended ≡ true
    → first_line s ++ lines_from n b.facade s b.place b.number ≡ output s
pieces_are_output s n e t =
    let b = beginning s in
    let f = b.facade in
    let p = b.place in
    let k = b.number in
    let N = length s + 1 in
    let late : (progress_from N f s p k).ended ≡ true = rw add-one (in_time s (length s) f p k (omega arith)) in
    let one : lines_from (n + N) f s p k ≡ lines_from n f s p k = nothing_more s n N f p k t in
    let two : lines_from (N + n) f s p k ≡ lines_from N f s p k = nothing_more s N n f p k late in
    let swap : n + N ≡ N + n = omega arith in
    ap (λ (v : List ℕ). first_line s ++ v) (sym one ∙ ap (λ (j : ℕ). lines_from j f s p k) swap ∙ two) ∙ sym (output_begun s e)

-- what a run prints from here on
abbrev pub rest : List ℕ → Progress → List ℕ
rest s r = more s (length s + 1) r

-- nothing, where it has ended
pub rest_none : (s : List ℕ) (r : Progress) → r.ended ≡ true → rest s r ≡ []
rest_none s r e = rw e refl

-- all behind the first line, where it has begun
pub rest_begins : (s : List ℕ) (r : Progress) → r ≡ beginning s → first_line s ++ rest s r ≡ output s
unfolding output
rest_begins s r e = rw e refl

-- else the lines of n turns, and what the run prints behind them
pub rest_goes_on : (s : List ℕ) (n : ℕ) (r x : Progress) → r.ended ≡ false → x ≡ progress_from n r.facade s r.place r.number
    → lines_from n r.facade s r.place r.number ++ rest s x ≡ rest s r
rest_goes_on s n r x e q =
    let f = r.facade in
    let p = r.place in
    let k = r.number in
    let N = length s + 1 in
    let late : (progress_from N f s p k).ended ≡ true = rw add-one (in_time s (length s) f p k (omega arith)) in
    let swap : n + N ≡ N + n = omega arith in
    let joined : lines_from (n + N) f s p k ≡ lines_from N f s p k = ap (λ (j : ℕ). lines_from j f s p k) swap ∙ nothing_more s N n f p k late in
    rw (q, e) (sym (pieces_join s n N f p k) ∙ joined)

-- how far a run is from its end, at most: none where it has ended
abbrev pub turns_left : Progress → ℕ
turns_left r = cond r.ended 0 (65537 - r.place)

-- each piece brings it nearer
pub fewer_left : (s : List ℕ) (n : ℕ) (r x : Progress) → UnderWay s r → r.ended ≡ false
    → x ≡ progress_from (suc n) r.facade s r.place r.number → turns_left x < turns_left r
fewer_left s n r x u e q = rw e (go x.ended (λ h. rw q (moves_on s n r.facade r.place r.number (rw q at h)))) where
  go : (b : Bool) → (b ≡ false → r.place < x.place) → cond b 0 (65537 - x.place) < 65537 - r.place
  go true h = omega (arith, u.placed)
  go false h = omega (arith, u.placed, h refl)

-- A piece is put from the front of a page on: what is put lies within the buffer, which keeps its length, and is the piece.
pub record Piece (p m : Page) (v : List ℕ) : Type 0 where
  pub within : m.end ≤ length m.out.now
  pub same_length : length m.out.now ≡ length p.out.now
  pub put : take m.end m.out.now ≡ v

piece_is_put : (p m : Page) (v : List ℕ) → length v ≤ length p.out.now → m ≡ put (blank p) v → Piece p m v
piece_is_put p m v fits e =
    let kept : length m.out.now ≡ length p.out.now = rw e (over_length p.out.now 0 v (omega arith)) in
    record { within = rw e (omega (arith, over_length p.out.now 0 v (omega arith))); same_length = kept; put = rw (e, zero-add) (take-append_seam v (drop (length v) p.out.now)) }

-- the first line
pub first_has_room : (s : List ℕ) (p : Page) → p.end ≡ 0 → length p.out.now ≡ most_piece → HasRoom p (first_line s)
first_has_room s p empty large = record { fits = omega (arith, first_line_short s, large, empty) }

pub first_put : (s : List ℕ) (b : MutBor (List ℕ)) (m : Page) → length b.now ≡ most_piece → m ≡ put (record { out = b; end = 0 }) (first_line s)
    → Piece (record { out = b; end = 0 }) m (first_line s)
first_put s b m large e = piece_is_put (record { out = b; end = 0 }) m (first_line s) (omega (arith, first_line_short s, large)) e

-- and the next piece
pub next_put : (s : List ℕ) (p m : Page) (r : Progress) → UnderWay s r → length p.out.now ≡ most_piece
    → m ≡ put (blank p) (lines_from piece_turns r.facade s r.place r.number) → Piece p m (lines_from piece_turns r.facade s r.place r.number)
next_put s p m r u large e =
    piece_is_put p m (lines_from piece_turns r.facade s r.place r.number) (omega (arith, large, lines_few s u.short piece_turns r.facade r.place r.number u.sound u.counted)) e
