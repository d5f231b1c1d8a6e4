use Rattle.std.proofs.Common.{◌≡◌, ℕ, zero, suc, ◌+◌, ◌*◌, ◌%◌, arith}
use native.Mathlib.Nat.{mod-mod}
use Rattle.quadratic.specs.Bits.{bit, inner}
use Rattle.quadratic.specs.Quadratic.{quad, coef, link}
use Rattle.quadratic.specs.Value.{terms, value_at}
use Rattle.quadratic.proofs.form.QuadraticForm.add_phase.Goals as goal

carried : (a b k t : ℕ) → a % 8 ≡ (b + k) % 8 → (a + t) % 8 ≡ (b + t + k) % 8
carried a b k t h = omega arith

shifted : (Q Q' k : ℕ) (D : ℕ → ℕ) (J : ℕ → ℕ → ℕ) (c : ℕ → ℕ) → Q' % 8 ≡ (Q + k) % 8 → (n : ℕ) → quad Q' D J c n % 8
    ≡ (quad Q D J c n + k) % 8
shifted Q Q' k D J c h zero = h
shifted Q Q' k D J c h (suc n) = carried (quad Q' D J c n) (quad Q D J c n) k (c n * (D n + 4 * inner (J n) c n)) (shifted Q Q' k D J c h n)

once : (a b k : ℕ) → a ≡ (b + k) % 8 → a ≡ (b % 8 + k) % 8
once a b k h = omega arith

pub returns : goal.returns
unfolding value_at
returns c =
    let f = c.args.self.now in
    let k = c.args.k in
    λ p. once _ (terms f p 48) k
    (shifted f.phase ((f.phase + k) % 8) k (coef f.odd f.neg) (link f.coupling) (bit p) (mod-mod (f.phase + k) 8) 48)
