use Rattle.std.proofs.Common.{◌<◌, arith}
use Rattle.archive.specs.Held.{linear_place}
use Rattle.archive.proofs.Laws.{bits_below}
use Rattle.archive.proofs.Weighing.{linear-more}
use Rattle.archive.proofs.build.StateBits.add_linear.Goals as goal

pub add_linear-requires-clause-few : goal.add_linear-requires-clause-few
add_linear-requires-clause-few c =
    let s = c.args.self.now in
    omega (arith, c.linear.ensures, bits_below s.bytes.now (linear_place s.start s.shape.n s.shape.k c.loop-a.a) 2)

pub loop-a-preserved : goal.loop-a-preserved
loop-a-preserved c =
    let s = c.args.self.now in
    let a = c.loop-a.a in
    let l : a < s.shape.k = omega (arith, c.requires.listed.places) in
    let low = bits_below s.bytes.now (linear_place s.start s.shape.n s.shape.k a) 2 in
    linear-more _ _ _ _ s.sound a l _ _ _ _ _ (c.requires.listed.listed a l) (omega (arith, c.linear.ensures)) c.linear.ensures
    c.loop-a.invariant c.add_linear.ensures
