use Rattle.std.proofs.Common.{◌≡◌, ℕ, ◌+◌, ◌-◌, ◌*◌, ◌%◌, ◌<◌, sym, ap, ◌∙◌, arith}
use lib.Bits.{bit_xor}
use Rattle.quadratic.specs.Bits.{dot, flag}
use Rattle.quadratic.specs.Value.{value_at}
use Rattle.quadratic.proofs.Bitlaws.{digit}
use Rattle.quadratic.proofs.Dots.{dot-lt}
use Rattle.quadratic.proofs.form.QuadraticForm.add_affine.Goals as goal

-- all of it, and back where the parity is odd
taken : (v q d : ℕ) → d < 2 → ((v + 2 * (q % 4)) % 8 + 2 * (4 - q % 4) * d) % 8 ≡ (v + 2 * q * bit_xor 1 d) % 8
taken v q = digit (λ d. ((v + 2 * (q % 4)) % 8 + 2 * (4 - q % 4) * d) % 8 ≡ (v + 2 * q * bit_xor 1 d) % 8) (omega arith) (omega arith)

pub returns-then-base : goal.returns-then-base
returns-then-base c =
    let f = c.args.self.now in
    let q = c.args.quarters in
    let m = c.args.mask in
    λ p. c.add_parity.ensures p ∙ ap (λ x. (x + 2 * (4 - q % 4) * dot m p) % 8) (c.add_phase.ensures p)
    ∙ taken (value_at f p) q (dot m p) (dot-lt m p)
    ∙ ap (λ b. (value_at f p + 2 * q * bit_xor (flag b) (dot m p)) % 8) (sym c.if-base.true)
