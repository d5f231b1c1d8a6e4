use Rattle.std.proofs.Common.{◌≡◌, ℕ, ◌^◌, ◌<◌, eqb, sym, ap, ◌∙◌, subst, arith}
use native.Mathlib.Decide.{dec_lt}
use lib.Pow.{pow-lt}
use Rattle.quadratic.specs.Bits.{bit, flag}
use Rattle.quadratic.specs.Moves.{Outside}
use Rattle.quadratic.proofs.Laws.{shift_in, tested, flag-lt}
use Rattle.quadratic.proofs.Left.{left, left_lt, left-none}
use Rattle.quadratic.proofs.Lowest.{set_below}
use Rattle.quadratic.proofs.Shear.{grown, slid}
use Rattle.quadratic.proofs.phased.PhasedSpace.slide.Goals as goal

positive : (x : ℕ) → (x ≡ 0 → ⊥) → 0 < x
positive x h = elim (dec_lt 0 x) [ yes l ↦ l | no g ↦ absurd (h (omega arith)) ]

pub highest-i-requires : goal.highest-i-requires
highest-i-requires c =
    let s = c.args.self.now.space in
    let own = shift_in s in
    positive c.rest.result (λ z. c.requires.outside s.shift own (left-none s (2 ^ c.args.l)
    (ap (left s) (sym c.turned-d.ensures) ∙ sym c.rest.ensures ∙ z) s.shift own))

pub check-requires : goal.check-requires
check-requires c =
    let s = c.args.self.now.space in
    let d = c.turned-d.result in
    set_below 48 c.rest.result c.highest-i.result
    (rw c.rest.ensures (left_lt s d (rw c.turned-d.ensures (pow-lt c.requires.place))))
    c.highest-i.ensures.on

pub returns : goal.returns
returns c =
    let s = c.args.self.now in
    let d = c.turned-d.result in
    let i = c.highest-i.result in
    let de = c.turned-d.ensures in
    let b = c.bit-b.ensures in
    let flagged = tested c.bit-b.result (bit s.space.shift i) (b.value ∙ ap (λ x. bit x i) c.shift.ensures) b.small in
    let more = grown c.extend.result s c.extend.new.self d 0 0 c.extend.ensures (rw de (pow-lt c.requires.place))
    (subst (Outside s) (sym de) c.requires.outside) in
    slid s c.extend.new.self c.restrict.new.self c.args.j c.args.l i c.turned-w.result c.check.result d
    (flag (eqb c.bit-b.result 1)) de c.requires.two c.check.ensures c.turned-w.ensures flagged
    (ap (λ x. bit x i) (sym c.rest.ensures) ∙ c.highest-i.ensures.on) more c.restrict.result c.restrict.ensures
    (flag-lt (eqb c.bit-b.result 1))
