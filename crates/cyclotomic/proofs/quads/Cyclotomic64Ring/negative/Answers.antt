use Rattle.std.proofs.Common.{arith, lit<}
use Rattle.cyclotomic.proofs.Conj.{four}
use Rattle.cyclotomic.proofs.Residues.{low-from-zero}
use Rattle.cyclotomic.proofs.quads.Cyclotomic64Ring.negative.Goals as goal

pub returns : goal.returns
returns c =
    let x = c.args.self in
    rw (c.neg.ensures, c.neg-2.ensures, c.neg-3.ensures, c.neg-4.ensures)
    (four (low-from-zero (lit< tt) 1 x.a0.0 (omega arith)) (low-from-zero (lit< tt) 1 x.a1.0 (omega arith))
    (low-from-zero (lit< tt) 1 x.a2.0 (omega arith)) (low-from-zero (lit< tt) 1 x.a3.0 (omega arith)))
