use mathlib.Core.Path.{◌∙◌}
use borrow.Author.Rules.{rules}
use Rattle.flat.specs.Flat.{client_in}
use Rattle.firmware.specs.Firmware.{receive_reply_left}
use Rattle.firmware.proofs.Laws.{with_message}
use Rattle.firmware.proofs.hoyllaqe_receive_reply.Goals as goal

pub returns : goal.returns
unfolding receive_reply_left
returns c = c.replied.ensures _ (λ y h. search rules) ∙ with_message (client_in c.args.client.now 0) _ _ _ _ _ _
