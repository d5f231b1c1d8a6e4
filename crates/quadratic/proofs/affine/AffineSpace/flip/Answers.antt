use Rattle.std.proofs.Common.{refl}
use Rattle.quadratic.proofs.Turning.{flip-inside, flip-clean, flip-strings}
use Rattle.quadratic.proofs.affine.AffineSpace.flip.Goals as goal

pub invariant_of-self : goal.invariant_of-self
invariant_of-self c =
    let s = c.args.self.now in
    let i = c.args.i in
    let d = c.turned.result in record {
      within = s.within;
      low = s.low;
      lead = s.lead;
      idle = s.idle;
      inside = flip-inside s i d c.turned.ensures c.requires;
      clean = flip-clean s i d c.turned.ensures;
    }

pub returns : goal.returns
returns c =
    let s = c.args.self.now in
    record { strings = flip-strings s c.args.i c.turned.result c.turned.ensures _ refl refl refl; pivots = refl }
