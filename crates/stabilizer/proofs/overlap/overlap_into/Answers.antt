use Rattle.std.proofs.Common.{◌≡◌, ◌+◌, ◌≤◌, pos, ◌+ℤ◌, neg_ℤ, sym, ap, ◌∙◌, ap₂, arith}
use Rattle.cyclotomic.specs.Scalars.{triple_of, unit}
use Rattle.stabilizer.specs.Overlaps.{depth}
use Rattle.stabilizer.proofs.Inner.{overlaps}
use Rattle.stabilizer.proofs.Powers.{zero-lowered, term-lowered, sum-power, subtracted}
use Rattle.stabilizer.proofs.overlap.overlap_into.Goals as goal

pub returns-in_default-clause-value : goal.returns-in_default-clause-value
returns-in_default-clause-value c =
    let t = c.args.t.now in
    let s = c.args.s.now in
    let i = c.in_ok-intersect.ensures in
    let x = c.exponential_sum-sum.result in
    overlaps t s c.intersect.new.out x x i.number i.granted i.roomy
    c.exponential_sum-sum.ensures.bounds c.exponential_sum-sum.ensures.exact
    (zero-lowered x (depth t + depth s) (ap (λ y. y.0) c.in_default.ensures))

pub returns-clause-value : goal.returns-clause-value
returns-clause-value c =
    let t = c.args.t.now in
    let s = c.args.s.now in
    let i = c.in_ok-intersect.ensures in
    let x = c.exponential_sum-sum.result in
    let k = depth t + depth s in
    let e = c.in-Some.ensures in
    let ne = λ (z : (triple_of x).0 ≡ 0). let one = sym z ∙ ap (λ y. y.0) e in absurd (omega (arith, one)) in
    let p = sum-power c.intersect.new.out x c.exponential_sum-sum.ensures.bounds ne in
    let own = ap (λ y. y.1) (sym e) in
    let low : c.depth.result + c.depth-2.result ≤ 10000 = omega (arith, c.depth.ensures.bound, c.depth-2.ensures.bound) in
    let power = subtracted c.in-Some.power p.0 (c.depth.result + c.depth-2.result) (own ∙ p.1) p.2 low
    ∙ ap₂ (λ x k. x +ℤ neg_ℤ (pos k)) own (ap₂ ◌+◌ c.depth.ensures.value c.depth-2.ensures.value) in
    overlaps t s c.intersect.new.out x c.term.result i.number i.granted i.roomy
    c.exponential_sum-sum.ensures.bounds c.exponential_sum-sum.ensures.exact
    (c.term.ensures ∙ ap₂ unit power (ap (λ y. y.2) (sym e)) ∙ term-lowered x k ne)
