use Rattle.std.proofs.Common.{◌≡◌, ℕ, ◌+◌, ◌*◌, ◌%◌, replicate, sym, refl, ap, ◌∙◌, mod-eq_of_lt, pow_pos}
use Rattle.quadratic.specs.Bits.{bit}
use Rattle.quadratic.specs.Quadratic.{link, coef}
use Rattle.quadratic.specs.Value.{value_at}
use Rattle.quadratic.proofs.Bitlaws.{bit-zero}
use Rattle.quadratic.proofs.Algebra.{quad-none}
use Rattle.quadratic.proofs.Lists.{getD-zeros}
use Rattle.quadratic.proofs.form.QuadraticForm.constant.Goals as goal

no-link : (a b : ℕ) → link (replicate 48 0) a b ≡ 0
no-link a b = ap (λ r. bit r b) (getD-zeros 48 a) ∙ bit-zero b

no-coef : (k : ℕ) → coef 0 0 k ≡ 0
no-coef k = ap (λ b. 2 * b + 4 * b) (bit-zero k)

pub invariant_of-result : goal.invariant_of-result
invariant_of-result c =
    let p = pow_pos 48 in
    record {
      phased = c.requires;
      odds = p;
      negs = p;
      inside = λ a. rw (getD-zeros 48 a) p;
      square = λ a b. no-link a b ∙ sym (no-link b a);
      own = λ a. no-link a a ∙ sym (bit-zero a);
    }

pub returns : goal.returns
unfolding value_at
returns c = record {
  values = λ p. ap (λ v. v % 8) (quad-none c.args.phase (bit p) (coef 0 0) (link (replicate 48 0)) 48 no-coef no-link)
      ∙ mod-eq_of_lt c.requires;
  phase = refl;
}
