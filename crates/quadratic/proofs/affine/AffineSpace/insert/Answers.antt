use Rattle.std.proofs.Common.{◌*◌, ◌^◌, ap, ◌∙◌}
use lib.Bits.{bit_xor, xor_lt}
use lib.Pow.{pow-lt}
use Rattle.quadratic.specs.Echelon.{row}
use Rattle.quadratic.proofs.Laws.{facts}
use Rattle.quadratic.proofs.Insert.{new-facts, insert-doubled, rows-with}
use Rattle.quadratic.proofs.affine.AffineSpace.insert.Goals as goal

pub xor_rows-requires : goal.xor_rows-requires
xor_rows-requires c = rw c.turned-l.ensures
    (xor_lt 48 c.column.result (2 ^ c.args.p) c.column.ensures.below (pow-lt c.requires.place))

pub invariant_of-self : goal.invariant_of-self
invariant_of-self c =
    let s = c.args.self.now in
    let g = c.args.f in
    let p = c.args.p in
    let is = rows-with (row s.rows) p c.column.result c.turned-l.result c.column.ensures.bits c.turned-l.ensures in
    let f = new-facts s.pivots (row s.rows) s.shift (facts s) g p c.requires.on c.requires.most c.requires.place
    c.requires.off c.turned-l.result is (row c.xor_rows.new.table) c.xor_rows.ensures
    c.turned-self.result c.turned-self.ensures in
    let e = ap (λ b. bit_xor s.shift (b * g)) c.bit.ensures.value in
    record {
      within = f.within;
      low = f.low;
      lead = f.lead;
      idle = f.idle;
      inside = rw e f.inside;
      clean = rw e f.clean;
    }

pub returns : goal.returns
returns c =
    let s = c.args.self.now in
    let g = c.args.f in
    let p = c.args.p in
    let is = rows-with (row s.rows) p c.column.result c.turned-l.result c.column.ensures.bits c.turned-l.ensures in
    let shifted = ap (λ b. bit_xor s.shift (b * g)) c.bit.ensures.value in
    record {
      pivots = c.turned-self.ensures;
      doubled = insert-doubled s _ g p c.turned-l.result c.requires.on c.requires.most c.requires.place c.requires.off is
          c.xor_rows.ensures c.turned-self.ensures shifted;
      rows = λ q. c.xor_rows.ensures q ∙ ap (λ b. bit_xor (row s.rows q) (b * g)) (is q);
      shift = shifted;
    }
