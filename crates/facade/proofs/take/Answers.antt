use mathlib.Core.Path.{◌≡◌, ◌∙◌}
use mir.Syntax.{w32}
use mir.Val.{SFits}
use mir.Facts.{to_z-of_z}
use borrow.Author.Rules.{rules}
use Rattle.std.specs.Prelude.{Err}
use Rattle.rules.proofs.Refusals.{is_some_refusal}
use Rattle.rules.proofs.Sizes.{sizes}
use Rattle.facade.proofs.Steps.{is_barred, decided_there, is_done, rests_is, pass_fits, passes_is, serves_fits, asks_fits}
use Rattle.facade.proofs.take.Goals as goal

pub returns-in_err-barred : goal.returns-in_err-barred
returns-in_err-barred c =
    let same : c.from_residual.result ≡ Err c.in_err-barred.field-0.0 = search rules in
    rw same (is_barred _ c.requires _ c.args.a.keeps_rules _ c.in_err-barred.ensures (is_some_refusal _))

pub take_from-requires : goal.take_from-requires
take_from-requires c = decided_there _ c.requires _ c.args.a.keeps_rules c.in_ok-barred.ensures c.deed_of.ensures c.position_taken-taken.ensures

pub moved-requires : goal.moved-requires
moved-requires c =
    let fit : SFits w32 c.in-Passes.e = search rules in
    rw (to_z-of_z fit) (pass_fits _ c.requires _ c.args.a.keeps_rules c.in_ok-barred.ensures c.deed_of.ensures c.position_taken-taken.ensures _ _ _ c.in-Passes.is)

pub lapse-requires : goal.lapse-requires
lapse-requires c =
    rw c.moved.ensures (sizes _ c.requires, (pass_fits _ c.requires _ c.args.a.keeps_rules c.in_ok-barred.ensures c.deed_of.ensures c.position_taken-taken.ensures _ _ _ c.in-Passes.is).0)

pub serve-requires : goal.serve-requires
serve-requires c = serves_fits _ c.requires _ c.args.a.keeps_rules c.in_ok-barred.ensures c.deed_of.ensures c.position_taken-taken.ensures _ _ c.in-Serves.is

pub ask-requires : goal.ask-requires
ask-requires c = asks_fits _ c.requires _ c.args.a.keeps_rules c.in_ok-barred.ensures c.deed_of.ensures c.position_taken-taken.ensures _ _ c.in-Asks.is

pub returns-in-Rests : goal.returns-in-Rests
returns-in-Rests c = rw c.take_from.ensures (rests_is _ c.requires _ c.args.a.keeps_rules c.in_ok-barred.ensures c.deed_of.ensures c.position_taken-taken.ensures c.in-Rests.is)

pub returns-in-Passes : goal.returns-in-Passes
returns-in-Passes c =
    let fit : SFits w32 c.in-Passes.e = search rules in
    rw (c.lapse.ensures, c.moved.ensures, to_z-of_z fit) (passes_is _ c.requires _ c.args.a.keeps_rules c.in_ok-barred.ensures c.deed_of.ensures c.position_taken-taken.ensures _ _ _ c.in-Passes.is)

pub returns-in-Serves : goal.returns-in-Serves
returns-in-Serves c = c.serve.ensures ∙ rw c.in-Serves.is at (is_done _ c.requires _ c.args.a.keeps_rules c.in_ok-barred.ensures c.deed_of.ensures c.position_taken-taken.ensures)

pub returns-in-Asks : goal.returns-in-Asks
returns-in-Asks c = c.ask.ensures ∙ rw c.in-Asks.is at (is_done _ c.requires _ c.args.a.keeps_rules c.in_ok-barred.ensures c.deed_of.ensures c.position_taken-taken.ensures)
