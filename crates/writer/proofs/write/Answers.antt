use mathlib.Core.Path.{refl}
use Rattle.writer.proofs.Laws.{has_room}
use Rattle.writer.proofs.write.Goals as goal

pub put_script-requires : goal.put_script-requires
put_script-requires c = has_room c.args.c _ _ refl c.in_ok-write_refusal.ensures
