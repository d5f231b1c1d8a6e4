use Rattle.archive.specs.StateBits.{RowIn}
use Rattle.archive.proofs.build.StateBits.add_couplings_of.Given as goal

abbrev pub invariant-loop-c : goal.invariant-loop-c
invariant-loop-c l = RowIn l.self l.a l.c l.initial.body l.body
