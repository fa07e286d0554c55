use mathlib.Core.Path.{◌∙◌}
use borrow.Author.Rules.{rules}
use Rattle.flat.specs.Flat.{server_in}
use Rattle.firmware.specs.Firmware.{receive_message_left}
use Rattle.firmware.proofs.Laws.{with_message}
use Rattle.firmware.proofs.hoyllaqe_receive_message.Goals as goal

pub returns : goal.returns
unfolding receive_message_left
returns c = c.replied.ensures _ (λ y h. search rules) ∙ with_message (server_in c.args.server.now 0) _ _ _ _ _ _
