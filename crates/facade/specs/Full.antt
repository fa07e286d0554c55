-- Refusal 13, which is tested on what a step leaves.
use Rattle.types.specs.declared.Facade.{Facade}
use Rattle.rules.specs.Answers.{Answer}
use Rattle.rules.specs.Steps.{full, unless_refused}

-- the answer a of a step of facade f, unless it is refused with 13
unfoldable pub unless_full : Facade → Answer → Answer
unless_full f a = unless_refused f (full a.facade) a
