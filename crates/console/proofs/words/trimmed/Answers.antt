use Rattle.std.proofs.Common.{refl, arith, ◌∙◌}
use Rattle.console.proofs.Splitting.{behind-blank}
use Rattle.console.proofs.words.trimmed.Goals as goal

pub loop-rest-preserved : goal.loop-rest-preserved
loop-rest-preserved c = behind-blank c.loop-rest.rest.now _ refl (omega arith) (omega arith) ∙ c.loop-rest.invariant
