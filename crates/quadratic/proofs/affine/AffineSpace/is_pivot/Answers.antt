use Rattle.quadratic.proofs.Bitlaws.{bit_past, not-both}
use Rattle.quadratic.specs.Bits.{bit}
use Rattle.quadratic.proofs.affine.AffineSpace.is_pivot.Goals as goal

pub returns-else-p-lt48-clause-no : goal.returns-else-p-lt48-clause-no
returns-else-p-lt48-clause-no c = λ on.
    let s = c.args.self.now in
    absurd (not-both (bit s.pivots c.args.p) (bit_past 48 s.pivots c.args.p s.within c.if-p-lt48.false) on)
