use Rattle.std.proofs.Common.{◌^◌, lit<}
use Rattle.cyclotomic.proofs.Wrapping.{four-times}
use Rattle.cyclotomic.proofs.quads.Cyclotomic64Ring.times.Goals as goal

-- the products and sums of each coordinate, from the last one made to the first
pub returns : goal.returns
returns c =
    let x = c.args.self in
    let y = c.args.other in
    rw (
      c.sub-3.ensures,
      c.mul-4.ensures,
      c.sub-2.ensures,
      c.mul-3.ensures,
      c.sub.ensures,
      c.mul-2.ensures,
      c.mul.ensures,
      c.sub-5.ensures,
      c.mul-8.ensures,
      c.add.ensures,
      c.mul-7.ensures,
      c.sub-4.ensures,
      c.mul-6.ensures,
      c.mul-5.ensures,
      c.sub-6.ensures,
      c.mul-12.ensures,
      c.add-3.ensures,
      c.mul-11.ensures,
      c.add-2.ensures,
      c.mul-10.ensures,
      c.mul-9.ensures,
      c.add-6.ensures,
      c.mul-16.ensures,
      c.add-5.ensures,
      c.mul-15.ensures,
      c.add-4.ensures,
      c.mul-14.ensures,
      c.mul-13.ensures,
    )
    (four-times (2 ^ 64) (lit< tt) 1 x.a0.0 x.a1.0 x.a2.0 x.a3.0 y.a0.0 y.a1.0 y.a2.0 y.a3.0)
