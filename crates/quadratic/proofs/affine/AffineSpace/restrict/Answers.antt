use Rattle.std.proofs.Common.{refl, sym, ap, ◌∙◌, arith}
use lib.Bits.{bit_xor, xor_self, xor_zero_l}
use Rattle.quadratic.specs.Bits.{flag}
use Rattle.quadratic.specs.Echelon.{row}
use Rattle.quadratic.proofs.Laws.{facts, resp-inside, part-on, differ}
use Rattle.quadratic.proofs.Linear.{move}
use Rattle.quadratic.proofs.Lowest.{set_below}
use Rattle.quadratic.proofs.Restrict.{by-parity, flat}
use Rattle.quadratic.proofs.affine.AffineSpace.restrict.Goals as goal

pub returns-then-beta-clause-strings : goal.returns-then-beta-clause-strings
returns-then-beta-clause-strings c = (
  refl,
  λ y m d.
      let e = flat c.args.self.now c.args.w c.responses-l.result c.responses-l.ensures.bits c.if-l-eq0.true y m in
      let z = differ c.dot.result c.args.b c.dot.ensures.small
      ∙ ap (λ x. bit_xor x (flag c.args.b)) (c.dot.ensures.value ∙ sym e ∙ d) ∙ xor_self (flag c.args.b) in
      let one = ap flag c.if-beta.true in
      absurd (omega (arith, z, one)),
)

pub returns-else-beta-clause-strings : goal.returns-else-beta-clause-strings
returns-else-beta-clause-strings c = (
  refl,
  λ y m. flat c.args.self.now c.args.w c.responses-l.result c.responses-l.ensures.bits c.if-l-eq0.true y m
      ∙ sym c.dot.ensures.value
      ∙ move c.dot.result (flag c.args.b) 0 (sym (differ c.dot.result c.args.b c.dot.ensures.small) ∙ ap flag c.if-beta.false)
      ∙ xor_zero_l (flag c.args.b),
)

pub cut-requires-clause-place : goal.cut-requires-clause-place
cut-requires-clause-place c = set_below 48 c.responses-l.result c.lowest.result c.responses-l.ensures.below c.lowest.ensures.on

pub cut-requires-clause-part : goal.cut-requires-clause-part
cut-requires-clause-part c =
    let s = c.args.self.now in
    resp-inside s.pivots (row s.rows) s.shift (facts s) c.args.w c.responses-l.result c.responses-l.ensures.bits

pub returns-clause-strings : goal.returns-clause-strings
returns-clause-strings c =
    let s = c.args.self.now in
    by-parity s c.cut.new.self c.args.w c.responses-l.result (flag c.args.b) _ c.responses-l.ensures.bits
    (differ c.dot.result c.args.b c.dot.ensures.small ∙ ap (λ d. bit_xor d (flag c.args.b)) c.dot.ensures.value) c.cut.ensures.half

pub returns-clause-pivots : goal.returns-clause-pivots
returns-clause-pivots c =
    let s = c.args.self.now in
    let l = c.responses-l.result in
    let p = c.lowest.result in (
      p,
      part-on l s.pivots p (resp-inside s.pivots (row s.rows) s.shift (facts s) c.args.w l c.responses-l.ensures.bits) c.lowest.ensures.on,
      c.cut.ensures.pivots,
    )
