use Rattle.std.proofs.Common.{lit<}
use Rattle.cyclotomic.proofs.Residues.{low-negative}
use Rattle.cyclotomic.proofs.mod17.Mod17Ring.negative.Goals as goal

pub returns : goal.returns
returns c = rw c.reduced.ensures (low-negative (lit< tt) 2 c.args.self.residue c.args.self.small)
