use Rattle.std.proofs.Common.{arith}
use lib.Count.{ones-le}
use Rattle.stabilizer.proofs.state.StabilizerState.depth.Goals as goal

pub returns-clause-bound : goal.returns-clause-bound
returns-clause-bound c =
    let s = c.args.self.now in
    let l = ones-le 48 s.body.space.pivots s.body.space.within in
    omega (arith, l, s.light, c.dimension.ensures)
