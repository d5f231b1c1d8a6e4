-- What the value of a form is known for, with its sum of 48 terms kept shut.
use Rattle.std.proofs.Common.{◌≡◌, ℕ, zero, suc, ◌+◌, ◌*◌, ◌%◌, ◌^◌, ◌<◌, refl, ap, mod-lt, mod-eq_of_lt, arith, lit<}
use Rattle.quadratic.specs.Bits.{bit, inner}
use Rattle.quadratic.specs.Quadratic.{coef, link, quad}
use Rattle.quadratic.proofs.Algebra.{quad-same, quad-zero}
use Rattle.quadratic.proofs.Bitlaws.{digit, bit-low, bit-lt, bit-zero}
use Rattle.quadratic.specs.Value.{terms, value_at}
use Rattle.quadratic.specs.declared.form.QuadraticForm.{QuadraticForm}

pub value-lt : (f : QuadraticForm) (c : ℕ) → value_at f c < 8
unfolding value_at
value-lt f c = mod-lt (terms f c 48) (lit< tt)

pub value-mod : (f : QuadraticForm) (c : ℕ) → value_at f c % 8 ≡ value_at f c
value-mod f c = mod-eq_of_lt (value-lt f c)

-- all values have the parity of the phase
even_step : (q Q o n x b : ℕ) → b < 2 → q % 2 ≡ Q % 2 → (q + b * (2 * o + 4 * n + 4 * x)) % 2 ≡ Q % 2
even_step q Q o n x b l h = digit (λ b. (q + b * (2 * o + 4 * n + 4 * x)) % 2 ≡ Q % 2) (omega arith) (omega arith) b l

even-quad : (Q odd neg c : ℕ) (J : ℕ → ℕ → ℕ) (n : ℕ) → quad Q (coef odd neg) J (bit c) n % 2 ≡ Q % 2
even-quad Q odd neg c J zero = refl
even-quad Q odd neg c J (suc n) = even_step (quad Q (coef odd neg) J (bit c) n) Q (bit odd n) (bit neg n)
    (inner (J n) (bit c) n) (bit c n) (bit-lt c n) (even-quad Q odd neg c J n)

even-mod : (x y : ℕ) → x % 2 ≡ y → x % 8 % 2 ≡ y
even-mod x y h = omega arith

pub value-even : (f : QuadraticForm) (c : ℕ) → value_at f c % 2 ≡ f.phase % 2
unfolding value_at
value-even f c = even-mod (terms f c 48) (f.phase % 2) (even-quad f.phase f.odd f.neg c (link f.coupling) 48)

-- at no variable the value is the phase
pub value-zero : (f : QuadraticForm) → value_at f 0 ≡ f.phase % 8
unfolding value_at
value-zero f = ap (λ q. q % 8) (quad-zero f.phase (coef f.odd f.neg) (link f.coupling) (bit 0) 48 bit-zero)

-- a form has 48 variables
pub value-low : (f : QuadraticForm) (c : ℕ) → value_at f (c % 2 ^ 48) ≡ value_at f c
unfolding value_at
value-low f c = ap (λ q. q % 8)
    (quad-same f.phase (coef f.odd f.neg) (link f.coupling) (bit (c % 2 ^ 48)) (bit c) 48 (λ k l. bit-low 48 c k l))
