use Rattle.std.proofs.Common.{◌≡◌, ℕ, ◌+◌, ◌*◌, ◌%◌, get_or, ap, ◌∙◌, arith}
use lib.Bits.{bit_xor}
use Rattle.quadratic.specs.Bits.{bit, dot}
use Rattle.quadratic.specs.Quadratic.{coef, link}
use Rattle.quadratic.specs.Value.{terms, value_at}
use Rattle.quadratic.proofs.Algebra.{quad-zero}
use Rattle.quadratic.proofs.Bitlaws.{bit-zero}
use Rattle.quadratic.proofs.Dots.{dot-comm}
use Rattle.quadratic.proofs.Rows.{value-polar}
use Rattle.quadratic.proofs.form.QuadraticForm.polar.Goals as goal

reduced : (a b c d x : ℕ) → (a + b) % 8 ≡ (c + d + 4 * x) % 8 → (a % 8 + b % 8) % 8 ≡ (c % 8 + d % 8 + 4 * x) % 8
reduced a b c d x h = omega arith

pub returns : goal.returns
unfolding value_at
returns c =
    let f = c.args.self.now in
    let u = c.args.u in
    let w = c.odd_rows.result in
    λ p. reduced (terms f (bit_xor p u) 48) (terms f 0 48) (terms f p 48) (terms f u 48) (dot w p)
    (ap (λ y. (terms f (bit_xor p u) 48 + y) % 8) (quad-zero f.phase (coef f.odd f.neg) (link f.coupling) (bit 0) 48 bit-zero)
    ∙ value-polar 48 f.phase f.odd f.neg f.coupling u w p f.inside f.square f.own c.odd_rows.ensures.below
    (λ a i. c.odd_rows.ensures.bits a i ∙ dot-comm u (get_or f.coupling a 0)))
