use Rattle.std.proofs.Common.{◌*◌, ap}
use lib.Bits.{bit_xor}
use Rattle.quadratic.specs.Bits.{flag}
use Rattle.quadratic.specs.Echelon.{row}
use Rattle.quadratic.proofs.Laws.{facts, flag-lt}
use Rattle.quadratic.proofs.Restrict.{new-facts, cut-half}
use Rattle.quadratic.proofs.affine.AffineSpace.cut.Goals as goal

pub invariant_of-self : goal.invariant_of-self
invariant_of-self c =
    let s = c.args.self.now in
    let f = new-facts s.pivots (row s.rows) s.shift (facts s) c.args.l c.requires.part c.args.p c.requires.on c.requires.least
    (row c.xor_rows.new.table) c.xor_rows.ensures c.turned-self.result c.turned-self.ensures
    (flag c.args.beta) (flag-lt c.args.beta) in
    rw c.from.ensures (record {
      within = f.within;
      low = f.low;
      lead = f.lead;
      idle = f.idle;
      inside = f.inside;
      clean = f.clean;
    })

pub returns-clause-half : goal.returns-clause-half
returns-clause-half c =
    let s = c.args.self.now in
    cut-half s _ c.args.l c.args.p (flag c.args.beta) c.requires.part c.requires.on c.requires.least (flag-lt c.args.beta)
    c.xor_rows.ensures c.turned-self.ensures (ap (λ b. bit_xor s.shift (b * row s.rows c.args.p)) c.from.ensures)
