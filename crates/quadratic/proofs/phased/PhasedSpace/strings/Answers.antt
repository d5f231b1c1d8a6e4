use Rattle.std.proofs.Common.{◌^◌, ap, ◌∙◌, arith}
use lib.Count.{ones-le}
use Rattle.std.proofs.lemmas.Nat.{one_shl}
use Rattle.quadratic.proofs.phased.PhasedSpace.strings.Goals as goal

pub returns : goal.returns
returns c =
    let s = c.args.self.now in
    let l = ones-le 48 s.space.pivots s.space.within in
    let e = c.dimension.ensures in
    one_shl c.dimension.result 64 (omega (arith, l, e)) ∙ ap (λ n. 2 ^ n) e

pub overflow_shl-result : goal.overflow_shl-result
overflow_shl-result c =
    let s = c.args.self.now in
    let l = ones-le 48 s.space.pivots s.space.within in
    let e = c.dimension.ensures in
    omega (arith, l, e)
