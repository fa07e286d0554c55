use mathlib.Core.Path.{refl, ap, ◌∙◌, subst}
use mathlib.Core.List.{◌++◌, append_assoc}
use Prim.Native.Nat.{ℕ}
use lib.ListN.{length-replicate}
use Rattle.std.specs.Io.KnownBytes.{Appends}
use Rattle.std.proofs.KnownBytes.{Appends-trans}
use Rattle.turns.specs.Turns.{lines_from}
use Rattle.replay.specs.Output.{first_line, piece_turns}
use Rattle.replay.proofs.Whole.{is_begun}
use Rattle.replay.proofs.Pieces.{rest_begins, rest_goes_on, fewer_left, first_has_room, first_put, next_put}
use Rattle.rig.proofs.print_run.Goals as goal

pub begin-r-requires : goal.begin-r-requires
begin-r-requires g c = first_has_room c.args.s.now _ refl (length-replicate {0} {A = ℕ} 65536 0)

pub loop-r-init : goal.loop-r-init
loop-r-init g c =
    let s = c.args.s.now in
    let x = c.begin-r.ensures in
    let p = first_put s _ _ (length-replicate {0} {A = ℕ} 65536 0) x.page_after in
    record {
      room = p.same_length ∙ length-replicate {0} {A = ℕ} 65536 0;
      under_way = is_begun s _ x.run;
      written = (first_line s, subst (Appends _ _) (c.bytes.ensures ∙ p.put) c.in_ok-write_all.ensures.bytes, rest_begins s _ x.run);
    }

pub loop-r-smaller : goal.loop-r-smaller
loop-r-smaller g c =
    let l = c.loop-r in
    let e = c.loop-r-test.true in
    fewer_left _ 2047 l.r _ (l.invariant.under_way e) e c.go_on.ensures.run.0

pub loop-r-preserved : goal.loop-r-preserved
loop-r-preserved g c =
    let s = c.args.s.now in
    let l = c.loop-r in
    let r = l.r in
    let x = c.go_on.ensures in
    let e = c.loop-r-test.true in
    let w = l.invariant.written in
    let v = lines_from piece_turns r.facade s r.place r.number in
    let p = next_put s l.page _ r (l.invariant.under_way e) l.invariant.room x.page_after in
    record {
      room = p.same_length ∙ l.invariant.room;
      under_way = λ _. x.run.1;
      written = (
        w.0 ++ v,
        Appends-trans _ _ _ w.0 v w.1 (subst (Appends _ _) (c.bytes-in-loop-r.ensures ∙ p.put) c.in_ok-write_all-2.ensures.bytes),
        append_assoc w.0 v _ ∙ ap (λ l. w.0 ++ l) (rest_goes_on s piece_turns r _ e x.run.0) ∙ w.2,
      );
    }
