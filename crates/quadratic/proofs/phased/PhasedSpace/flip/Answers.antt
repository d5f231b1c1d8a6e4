use Rattle.std.proofs.Common.{◌^◌, sym, subst}
use Rattle.quadratic.specs.Value.{value_at}
use Rattle.quadratic.proofs.Sight.{Seen}
use Rattle.quadratic.proofs.Turning.{moved_by, seen-moved}
use Rattle.quadratic.proofs.phased.PhasedSpace.flip.Goals as goal

pub invariant_of-self : goal.invariant_of-self
invariant_of-self c =
    let s = c.args.self.now in
    let v' = value_at c.flip-2.new.self in record {
      idle = subst (Seen v') (sym c.flip.ensures.pivots)
          (seen-moved (value_at s.form) v' s.space.pivots (2 ^ c.args.i) s.idle c.flip-2.ensures);
    }

pub returns : goal.returns
returns c = (
  c.if-i-ge48.false,
  moved_by c.args.self.now _ (2 ^ c.args.i) c.flip.ensures.strings c.flip-2.ensures,
  c.flip.ensures.pivots,
)
