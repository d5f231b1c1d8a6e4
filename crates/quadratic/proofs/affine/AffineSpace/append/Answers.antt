use Rattle.std.proofs.Common.{◌*◌, ◌^◌, ap, ◌∙◌, lt_of_lt_of_le, zero-mul, pow_mono}
use lib.Bits.{bit_xor, xor_zero_l, xor_zero_r}
use Rattle.quadratic.specs.Bits.{bit}
use Rattle.quadratic.specs.Echelon.{row}
use Rattle.quadratic.proofs.Append.{above, below-off}
use Rattle.quadratic.proofs.affine.AffineSpace.append.Goals as goal

pub insert-requires : goal.insert-requires
insert-requires c =
    let s = c.args.self.now in
    let p = c.in_ok-p.p in
    let f = c.in_ok-p.ensures in
    record {
      low = lt_of_lt_of_le f.most (pow_mono f.place);
      place = f.place;
      on = f.on;
      most = f.most;
      off = below-off s.pivots c.args.added p f.most (above s c.args.added p f);
    }

pub returns : goal.returns
returns c =
    let s = c.args.self.now in
    let p = c.in_ok-p.p in
    let g = c.args.added in
    let f = c.in_ok-p.ensures in
    let i = c.insert.ensures in (
      f,
      i.pivots,
      λ q. i.rows q ∙ ap (λ b. bit_xor (row s.rows q) (bit_xor b (bit (2 ^ p) q) * g)) (f.free q)
          ∙ ap (λ b. bit_xor (row s.rows q) (b * g)) (xor_zero_l (bit (2 ^ p) q)),
      i.shift ∙ ap (λ b. bit_xor s.shift (b * g)) f.clear ∙ ap (bit_xor s.shift) (zero-mul g) ∙ xor_zero_r s.shift,
    )
