use Rattle.std.proofs.Common.{◌≡◌, length}
use Rattle.console.specs.Words.{words_in}
use Rattle.console.proofs.words.trimmed.Given as goal

abbrev pub invariant-loop-rest : goal.invariant-loop-rest
invariant-loop-rest l = words_in l.rest ≡ words_in l.fn.line

abbrev pub decreases-loop-rest : goal.decreases-loop-rest
decreases-loop-rest l = length l.rest
