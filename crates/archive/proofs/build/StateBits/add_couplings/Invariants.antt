use Rattle.archive.specs.StateBits.{CouplingIn}
use Rattle.archive.proofs.build.StateBits.add_couplings.Given as goal

abbrev pub invariant-loop-a : goal.invariant-loop-a
invariant-loop-a l = CouplingIn l.self l.a l.initial.body l.body
