use Rattle.std.proofs.Common.{◌≡◌, ℕ, ◌+◌, ◌*◌, ◌/◌, ◌<◌, length, get_or, sym, ap, ◌∙◌, ap₂, arith, rules}
use Rattle.quadratic.specs.Fields.{coefficient_at}
use Rattle.quadratic.proofs.Bitlaws.{bit-lt}
use Rattle.quadratic.specs.declared.phased.PhasedSpace.{PhasedSpace}
use Rattle.archive.specs.Bits.{bits_from}
use Rattle.archive.specs.StateFields.{linear_from}
use Rattle.archive.proofs.put.StateFields.put_linear.Goals as goal

-- a linear coefficient is even, and at most 6
halved : (s : PhasedSpace) (q x : ℕ) → x ≡ coefficient_at s q / 2 → (2 * x ≡ coefficient_at s q) × (x < 4)
halved s q x e = (omega arith, omega (arith, bit-lt s.form.odd q, bit-lt s.form.neg q))

pub put_each-requires-clause-fits : goal.put_each-requires-clause-fits
put_each-requires-clause-fits c = λ j v l e.
    let h : v ≡ coefficient_at c.body-body.result.now (get_or c.deref.result.now j 0) / 2 = search rules in
    (halved c.body-body.result.now _ v h).1

pub returns-clause-there : goal.returns-clause-there
returns-clause-there c = λ a l.
    let f = c.args.self.now in
    let body = c.body-body.result.now in
    let xs = c.deref.result.now in
    let b = c.put_each.new.buffer in
    let count : length xs ≡ f.shape.k = ap length c.deref.ensures.0 ∙ sym f.rank in
    let h = c.put_each.ensures.there a (omega arith) in
    let there : bits_from b (c.linear.result + a * 2) 2 ≡ coefficient_at body (get_or xs a 0) / 2 = search rules in
    let place : linear_from f a ≡ c.linear.result + a * 2 = omega (arith, c.linear.ensures.place) in
    ap (λ i. 2 * bits_from b i 2) place ∙ (halved body _ _ there).0
    ∙ ap₂ (λ t ys. coefficient_at t (get_or ys a 0)) c.body-body.ensures c.deref.ensures.0
