use mathlib.Core.Path.{◌≡◌, refl}
use mathlib.Core.Bool.{true}
use borrow.Author.Rules.{rules}
use Rattle.std.specs.Prelude.{Err}
use Rattle.std.specs.Option.{is_some}
use Rattle.types.specs.declared.Refusal.TheVariants.{Full}
use Rattle.cable.specs.Exchange.{room_for}
use Rattle.facade.proofs.Laws.{serves_is, has_room_left, is_full}
use Rattle.facade.proofs.serve.Goals as goal

pub returns-in_err-fits : goal.returns-in_err-fits
returns-in_err-fits c =
    let full : c.from_residual.result ≡ Err Full = search rules in
    rw full (is_full _ _ _ _ _ (serves_is _ _ _ _ c.served-x.ensures) refl (search rules))

pub returns : goal.returns
returns c =
    let left : room_for c.args.f.now.waiting (is_some c.args.taken) c.served-x.result.outbox.count ≡ true = search rules in
    rw (c.send_all.ensures, c.take_from.ensures, c.notices_after.ensures) (has_room_left _ _ _ _ _ (serves_is _ _ _ _ c.served-x.ensures) refl left)
