use Rattle.std.proofs.Common.{eqb, sym, refl, ap, ◌∙◌, arith}
use lib.Bits.{bit_and, and_comm}
use Rattle.quadratic.specs.Bits.{bit, flag}
use Rattle.quadratic.specs.Echelon.{row}
use Rattle.quadratic.proofs.Extend.{extended}
use Rattle.quadratic.proofs.Laws.{facts, red-clean, off-bit, tested}
use Rattle.quadratic.proofs.Left.{left_lt, left-none}
use Rattle.quadratic.proofs.Lowest.{set_below}
use Rattle.quadratic.proofs.phased.PhasedSpace.extend.Goals as goal

pub returns-then-rest-eq0 : goal.returns-then-rest-eq0
returns-then-rest-eq0 c =
    (refl, λ l. left-none c.args.self.now.space c.args.d (sym c.rest-rest.ensures ∙ c.if-rest-eq0.true))

pub returns-then-p-ge48 : goal.returns-then-p-ge48
returns-then-p-ge48 c = (
  refl,
  λ l.
      let g = c.rest-rest.result in
      let i = set_below 48 g c.highest-p.result (rw c.rest-rest.ensures (left_lt c.args.self.now.space c.args.d l))
      c.highest-p.ensures.on in
      absurd (omega (arith, i, c.if-p-ge48.true)),
)

pub insert-requires : goal.insert-requires
insert-requires c =
    let s = c.args.self.now.space in
    record {
      place = c.if-p-ge48.false;
      on = c.highest-p.ensures.on;
      most = c.highest-p.ensures.most;
      off = ap (λ x. bit_and x s.pivots) c.rest-rest.ensures
          ∙ red-clean s.pivots (row s.rows) s.shift (facts s) c.args.d;
    }

pub returns : goal.returns
returns c =
    let s = c.args.self.now in
    let P = s.space.pivots in
    let g = c.rest-rest.result in
    let p = c.highest-p.result in
    let off = ap (λ x. bit_and x P) c.rest-rest.ensures
    ∙ red-clean P (row s.space.rows) s.space.shift (facts s.space) c.args.d in
    extended s c.insert.new.self c.add_across.new.self c.args.d c.args.quarters c.args.z
    c.gain-turn.result.quarters c.gain-turn.result.mask c.check-w.result (flag (eqb c.bit-base.result 1)) g p
    c.check-w.ensures (tested c.bit-base.result (bit s.space.shift p) (c.bit-base.ensures.value ∙ ap (λ x. bit x p) c.shift.ensures) c.bit-base.ensures.small) c.rest-rest.ensures
    c.highest-p.ensures.on (off-bit P g p (and_comm P g ∙ off) c.highest-p.ensures.on)
    c.insert.ensures.pivots c.insert.ensures.strings c.insert.ensures.form c.gain-turn.ensures
    c.add_across.ensures.phases c.add_across.ensures.space
