use Rattle.std.proofs.Common.{arith}
use Rattle.archive.proofs.Falling.{room, with_it, falling}
use Rattle.archive.proofs.pivots.pivots_of.Goals as goal

pub push-requires : goal.push-requires
push-requires c =
    let few = room _ _ _ _ _ c.requires c.loop-p.p-iterator.iter.inside c.in-Some.ensures.steps c.loop-p.invariant in
    omega (arith, few)

pub loop-p-preserved : goal.loop-p-preserved
loop-p-preserved c =
    with_it _ _ _ _ _ c.requires c.loop-p.p-iterator.iter.inside c.in-Some.ensures.steps c.loop-p.invariant _ c.push.ensures.items

pub returns : goal.returns
returns c = falling _ _ _ c.in-None.ensures.steps c.loop-p.invariant
