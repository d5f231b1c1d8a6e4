use Rattle.std.proofs.Common.{◌≡◌, ℕ, ◌*◌, ◌^◌, sym, ap, ◌∙◌, one-mul, zero-mul}
use lib.Bits.{bit_xor, xor_zero_r}
use Rattle.quadratic.specs.Bits.{flag}
use Rattle.quadratic.specs.Value.{value_at}
use Rattle.quadratic.proofs.Fix.{fixed}
use Rattle.quadratic.proofs.Laws.{flag-lt}
use Rattle.quadratic.proofs.form.QuadraticForm.fix.Goals as goal
use Rattle.quadratic.proofs.form.QuadraticForm.fix.Goals.{then-b, else-b}

pub returns : goal.returns
returns c =
    let f = c.args.self.now in
    let a = c.args.a in
    let b = flag c.args.b in
    let between = c.if-b.self in
    let flipped : (p : ℕ) → value_at between p ≡ value_at f (bit_xor p (b * 2 ^ a)) = λ p.
    elim c.if-b.branch [
      | then-b w ↦
          ap (λ g. value_at g p) w.self-is ∙ w.flip.ensures p
          ∙ ap (λ x. value_at f (bit_xor p x)) (sym (ap (λ n. flag n * 2 ^ a) w.if-b.true ∙ one-mul (2 ^ a)))
      | else-b w ↦
          ap (λ g. value_at g p) w.self-is
          ∙ ap (value_at f) (sym (ap (bit_xor p) (ap (λ n. flag n * 2 ^ a) w.if-b.false ∙ zero-mul (2 ^ a)) ∙ xor_zero_r p))
    ] in
    fixed (value_at f) (value_at between) (value_at c.substitute.new.self) a c.args.mask b flipped
    c.substitute.ensures.values c.substitute.ensures.free c.requires.free (flag-lt c.args.b)
