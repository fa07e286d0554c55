use Rattle.writer.proofs.Laws.{front_fits}
use Rattle.writer.proofs.put_record.Goals as goal

pub put_word-requires : goal.put_word-requires
put_word-requires c = front_fits c.args.s _ c.fields_of-n.ensures.0 c.fields_of-n.ensures.1 c.args.page.now c.requires.1
