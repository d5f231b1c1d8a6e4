use Rattle.std.proofs.Common.{◌≡◌, lit<, rules}
use Rattle.cyclotomic.proofs.Residues.{low-apart}
use Rattle.cyclotomic.proofs.mod17.Mod17Ring.equal.Goals as goal

pub returns-clause-complete : goal.returns-clause-complete
returns-clause-complete c = λ e.
    let x = c.args.self in
    let y = c.args.other in
    let same : x.residue ≡ y.residue = low-apart (lit< tt) x.residue y.residue x.small y.small e in
    search rules
