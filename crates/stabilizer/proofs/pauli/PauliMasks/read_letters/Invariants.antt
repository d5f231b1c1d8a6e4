use Rattle.stabilizer.proofs.Texts.{ReadBehind}
use Rattle.stabilizer.proofs.pauli.PauliMasks.read_letters.Given as goal

abbrev pub invariant-loop-place : goal.invariant-loop-place
invariant-loop-place l = ReadBehind l.letters l.place-iterator.iter.iter.rest.now l.place-iterator.count l.masks
