use Rattle.std.proofs.Common.{◌+◌, ◌*◌, ◌^◌, ◌<◌, ◌≤◌, sym, subst, arith}
use lib.Count.{ones, ones-le}
use Rattle.quadratic.proofs.sum.sum_of.Goals as goal

pub invariant_of-sum : goal.invariant_of-sum
invariant_of-sum c =
    let P = c.pivots.result in
    let inside : P < 2 ^ 48 = subst (λ x. x < 2 ^ 48) (sym c.pivots.ensures) c.args.s.now.space.within in
    let few : 0 + 2 * ones P ≤ 96 = let l = ones-le 48 P inside in omega arith in
    record {
      inside = inside;
      few = few;
    }
