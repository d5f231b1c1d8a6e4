use Rattle.std.proofs.Common.{◌≡◌, suc, ◌-◌, arith}
use Rattle.archive.proofs.Pairs.{pairs-split}
use Rattle.archive.proofs.shape.Shape.coupling.Goals as goal

pub returns-clause-place : goal.returns-clause-place
returns-clause-place c =
    let none : suc c.args.a - suc c.args.a ≡ 0 = omega arith in
    let left = pairs-split c.args.self.k c.args.a (omega arith) in
    omega (arith, c.linear.ensures.place, c.pairs.ensures.count, c.pairs_of.ensures.count)
