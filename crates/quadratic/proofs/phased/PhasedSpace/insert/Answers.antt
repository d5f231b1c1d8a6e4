use Rattle.std.proofs.Common.{suc, ◌∙◌, lt_of_lt_of_le, pow_mono}
use lib.Bits.{and_comm}
use Rattle.quadratic.specs.Value.{value_at}
use Rattle.quadratic.proofs.Laws.{off-bit}
use Rattle.quadratic.proofs.Sight.{wider, one-wider}
use Rattle.quadratic.proofs.phased.PhasedSpace.insert.Goals as goal

pub insert-requires : goal.insert-requires
insert-requires c = record {
  low = lt_of_lt_of_le c.requires.most (pow_mono {i = suc c.args.p} {j = 48} c.requires.place);
  place = c.requires.place;
  on = c.requires.on;
  most = c.requires.most;
  off = c.requires.off;
}

pub invariant_of-self : goal.invariant_of-self
invariant_of-self c =
    let s = c.args.self.now in
    let P = s.space.pivots in
    let P' = c.insert.new.self.pivots in
    let p = c.args.p in
    let free = off-bit P c.args.row p (and_comm P c.args.row ∙ c.requires.off) c.requires.on in
    record {
      idle = wider (value_at s.form) P P' (one-wider P P' p free c.insert.ensures.pivots) s.idle;
    }
