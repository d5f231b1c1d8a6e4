use Rattle.archive.specs.StateBits.{LinearIn}
use Rattle.archive.proofs.build.StateBits.add_linear.Given as goal

abbrev pub invariant-loop-a : goal.invariant-loop-a
invariant-loop-a l = LinearIn l.self l.a l.initial.body l.body
