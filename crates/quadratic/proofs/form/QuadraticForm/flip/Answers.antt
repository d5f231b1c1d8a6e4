use Rattle.std.proofs.Common.{◌+◌, ◌%◌, ◌^◌, get_or, sym, ap, ◌∙◌, arith}
use lib.Bits.{bit_xor, xor_lt}
use Rattle.quadratic.specs.Bits.{bit}
use Rattle.quadratic.specs.Quadratic.{quad, coef, link}
use Rattle.quadratic.specs.Value.{value_at}
use Rattle.quadratic.proofs.Algebra.{quad-one}
use Rattle.quadratic.proofs.Bitlaws.{bit-pow, bit-pow-other}
use Rattle.quadratic.proofs.Dots.{dot-pow}
use Rattle.quadratic.proofs.Rows.{value-shift}
use Rattle.quadratic.proofs.form.QuadraticForm.flip.Goals as goal

pub invariant_of-self : goal.invariant_of-self
invariant_of-self c =
    let f = c.args.self.now in record {
      phased = omega arith;
      odds = f.odds;
      negs = xor_lt 48 f.neg (get_or f.coupling c.args.a 0) f.negs (f.inside c.args.a);
      inside = f.inside;
      square = f.square;
      own = f.own;
    }

pub returns : goal.returns
unfolding value_at
returns c =
    let f = c.args.self.now in
    let a = c.args.a in
    let row = get_or f.coupling a 0 in
    let D = coef f.odd f.neg in
    let J = link f.coupling in
    let one = quad-one f.phase D J (bit (2 ^ a)) a 48 c.requires (bit-pow a) (λ k ne. bit-pow-other a k ne) in
    λ p. ap (λ q. quad q (coef f.odd (bit_xor f.neg row)) J (bit p) 48 % 8)
    (ap (λ d. (f.phase + d) % 8) c.linear.ensures.value ∙ ap (λ q. q % 8) (sym one))
    ∙ value-shift 48 f.phase f.odd f.neg f.coupling (2 ^ a) row p f.inside f.square f.own
    (λ k i. f.square a k ∙ sym (dot-pow (get_or f.coupling k 0) a))
