use Rattle.std.proofs.Common.{◌≡◌, ℕ, ◌+◌, ◌*◌, ◌/◌, ◌%◌, ◌<◌, sym, ap, ◌∙◌, add-zero, zero-mul, mul-zero, arith}
use Rattle.quadratic.specs.Bits.{dot}
use Rattle.quadratic.specs.Value.{value_at}
use Rattle.quadratic.specs.declared.form.QuadraticForm.{QuadraticForm}
use Rattle.quadratic.proofs.Bitlaws.{digit}
use Rattle.quadratic.proofs.Dots.{dot-lt}
use Rattle.quadratic.proofs.Values.{value-mod}
use Rattle.quadratic.proofs.form.QuadraticForm.add_parity.Goals as goal
use Rattle.quadratic.proofs.form.QuadraticForm.add_parity.Goals.{then-quarters-eq1, else-quarters-eq1}

-- the two bits of the quarters, one after the other
both : (v q d : ℕ) → d < 2 → ((v + 2 * (q % 2) * d) % 8 + 4 * (q / 2 % 2) * d) % 8 ≡ (v + 2 * q * d) % 8
both v q = digit (λ d. ((v + 2 * (q % 2) * d) % 8 + 4 * (q / 2 % 2) * d) % 8 ≡ (v + 2 * q * d) % 8) (omega arith) (omega arith)

-- a bit that is 0 adds nothing
none : (f : QuadraticForm) (p k b d : ℕ) → b ≡ 0 → value_at f p ≡ (value_at f p + k * b * d) % 8
none f p k b d z = sym (ap (λ b. (value_at f p + k * b * d) % 8) z ∙ simp (mul-zero, zero-mul, add-zero) (value-mod f p))

pub returns-then-quarters-eq1-2 : goal.returns-then-quarters-eq1-2
returns-then-quarters-eq1-2 c = λ p.
    let f = c.args.self.now in
    let q = c.args.quarters in
    let d = dot c.args.mask p in
    let first : value_at c.if-quarters-eq1.self p ≡ (value_at f p + 2 * (q % 2) * d) % 8 = elim c.if-quarters-eq1.branch [
      | then-quarters-eq1 w ↦ ap (λ g. value_at g p) w.self-is ∙ w.add_two.ensures p
          ∙ ap (λ b. (value_at f p + 2 * b * d) % 8) (sym w.if-quarters-eq1.true)
      | else-quarters-eq1 w ↦ ap (λ g. value_at g p) w.self-is ∙ none f p 2 (q % 2) d (omega (arith, w.if-quarters-eq1.false))
    ] in
    c.add_four.ensures p ∙ ap (λ x. (x + 4 * d) % 8) first
    ∙ ap (λ b. ((value_at f p + 2 * (q % 2) * d) % 8 + 4 * b * d) % 8) (sym c.if-quarters-eq1-2.true)
    ∙ both (value_at f p) q d (dot-lt c.args.mask p)

pub returns-else-quarters-eq1-2 : goal.returns-else-quarters-eq1-2
returns-else-quarters-eq1-2 c = λ p.
    let f = c.args.self.now in
    let q = c.args.quarters in
    let d = dot c.args.mask p in
    let first : value_at c.if-quarters-eq1.self p ≡ (value_at f p + 2 * (q % 2) * d) % 8 = elim c.if-quarters-eq1.branch [
      | then-quarters-eq1 w ↦ ap (λ g. value_at g p) w.self-is ∙ w.add_two.ensures p
          ∙ ap (λ b. (value_at f p + 2 * b * d) % 8) (sym w.if-quarters-eq1.true)
      | else-quarters-eq1 w ↦ ap (λ g. value_at g p) w.self-is ∙ none f p 2 (q % 2) d (omega (arith, w.if-quarters-eq1.false))
    ] in
    none c.if-quarters-eq1.self p 4 (q / 2 % 2) d (omega (arith, c.if-quarters-eq1-2.false))
    ∙ ap (λ x. (x + 4 * (q / 2 % 2) * d) % 8) first ∙ both (value_at f p) q d (dot-lt c.args.mask p)
