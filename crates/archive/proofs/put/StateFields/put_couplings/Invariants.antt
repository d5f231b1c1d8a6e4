use Rattle.std.proofs.Common.{ℕ, suc, ◌<◌}
use Rattle.archive.specs.Bits.{Framed}
use Rattle.archive.specs.StateFields.{CouplingsOfIn, linear_from, coupling_from}
use Rattle.archive.proofs.put.StateFields.put_couplings.Given as goal

abbrev pub invariant-loop-a : goal.invariant-loop-a
invariant-loop-a l = record {
  there : (i : ℕ) → i < l.a → CouplingsOfIn l.self i l.buffer;
  framed : Framed l.initial.buffer l.buffer (linear_from l.self l.self.shape.k) (coupling_from l.self l.a (suc l.a));
}
