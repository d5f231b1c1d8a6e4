use Rattle.std.proofs.Common.{◌≡◌, ℕ, ◌+◌, ◌-◌, ◌*◌, ◌%◌, ◌<◌, List, get_or, sym, refl, ap, ◌∙◌, ap₂, lt_of_le_of_lt, arith}
use native.Mathlib.Nat.{mod-mod}
use lib.Bits.{bit_and, bit_xor, xor_lt, and_le_l}
use Rattle.quadratic.specs.Bits.{bit}
use Rattle.quadratic.specs.Quadratic.{coef, link, quad}
use Rattle.quadratic.specs.Value.{terms, value_at}
use Rattle.quadratic.proofs.Algebra.{add8, quad-sum}
use Rattle.quadratic.proofs.Bitlaws.{digit₂, bit-lt, bit-xor, bit-and}
use Rattle.quadratic.proofs.form.QuadraticForm.minus.Goals as goal

-- the linear coefficients of a difference
coefs : (o o' n n' k : ℕ) → (coef (bit_xor o o') (bit_xor (bit_xor n n') (bit_and o' (bit_xor o o'))) k + coef o' n' k) % 8 ≡ coef o n k % 8
coefs o o' n n' k =
    ap₂ (λ x y. (2 * x + 4 * y + coef o' n' k) % 8) (bit-xor o o' k)
    (bit-xor (bit_xor n n') (bit_and o' (bit_xor o o')) k
    ∙ ap₂ (λ x y. (x + y) % 2) (bit-xor n n' k) (bit-and o' (bit_xor o o') k ∙ ap (λ x. bit o' k * x) (bit-xor o o' k)))
    ∙ digit₂ (λ a b. (2 * ((a + b) % 2) + 4 * (((bit n k + bit n' k) % 2 + b * ((a + b) % 2)) % 2) + (2 * b + 4 * bit n' k)) % 8
    ≡ (2 * a + 4 * bit n k) % 8)
    (pair 0 0 refl refl refl refl) (pair 0 1 refl refl refl refl) (pair 1 0 refl refl refl refl) (pair 1 1 refl refl refl refl)
    (bit o k) (bit o' k) (bit-lt o k) (bit-lt o' k)
  where
    Goal : ℕ → ℕ → ℕ → ℕ → Type 0
    Goal a b x y = (2 * ((a + b) % 2) + 4 * (((x + y) % 2 + b * ((a + b) % 2)) % 2) + (2 * b + 4 * y)) % 8 ≡ (2 * a + 4 * x) % 8

    pair : (a b : ℕ) → Goal a b 0 0 → Goal a b 0 1 → Goal a b 1 0 → Goal a b 1 1 → Goal a b (bit n k) (bit n' k)
    pair a b p q r s = digit₂ (Goal a b) p q r s (bit n k) (bit n' k) (bit-lt n k) (bit-lt n' k)

-- the couplings of a difference
links : (t t₁ t₂ : List ℕ) → ((k : ℕ) → get_or t₁ k 0 ≡ bit_xor (get_or t k 0) (get_or t₂ k 0)) → (a b : ℕ) → link t₁ a b
    ≡ (link t a b + link t₂ a b) % 2
links t t₁ t₂ e a b = ap (λ r. bit r b) (e a) ∙ bit-xor (get_or t a 0) (get_or t₂ a 0) b

pub invariant_of-result : goal.invariant_of-result
invariant_of-result c =
    let f = c.args.self.now in
    let g = c.args.other.now in
    let is = links f.coupling c.xor_tables.new.table g.coupling c.xor_tables.ensures in
    let odd = xor_lt 48 f.odd g.odd f.odds g.odds in
    let carry = lt_of_le_of_lt (and_le_l g.odd (bit_xor f.odd g.odd)) g.odds in record {
      phased = omega arith;
      odds = odd;
      negs = xor_lt 48 (bit_xor f.neg g.neg) (bit_and g.odd (bit_xor f.odd g.odd))
          (xor_lt 48 f.neg g.neg f.negs g.negs) carry;
      inside = λ a. rw (c.xor_tables.ensures a) (xor_lt 48 (get_or f.coupling a 0) (get_or g.coupling a 0) (f.inside a) (g.inside a));
      square = λ a b. is a b ∙ ap₂ (λ x y. (x + y) % 2) (f.square a b) (g.square a b) ∙ sym (is b a);
      own = λ a. is a a ∙ ap₂ (λ x y. (x + y) % 2) (f.own a) (g.own a) ∙ sym (bit-xor f.odd g.odd a);
    }

phases : (a b : ℕ) → a < 8 → b < 8 → ((a + 8 - b) % 8 + b) % 8 ≡ a % 8
phases a b ha hb = omega arith

parities : (x y : ℕ) → ((x + y) % 2 + y) % 2 ≡ x % 2
parities x y = omega arith

pub returns : goal.returns
unfolding value_at
returns c = λ p.
    let f = c.args.self.now in
    let g = c.args.other.now in
    let t = c.xor_tables.new.table in
    let odd = bit_xor f.odd g.odd in
    let neg = bit_xor (bit_xor f.neg g.neg) (bit_and g.odd odd) in
    let Q = (f.phase + 8 - g.phase) % 8 in
    add8 (quad Q (coef odd neg) (link t) (bit p) 48 % 8) (quad Q (coef odd neg) (link t) (bit p) 48) (terms g p 48 % 8) (terms g p 48)
    (mod-mod (quad Q (coef odd neg) (link t) (bit p) 48) 8) (mod-mod (terms g p 48) 8)
    ∙ quad-sum f.phase Q g.phase (coef f.odd f.neg) (coef odd neg) (coef g.odd g.neg)
    (link f.coupling) (link t) (link g.coupling) (bit p)
    (bit-lt p) (phases f.phase g.phase f.phased g.phased) (coefs f.odd g.odd f.neg g.neg)
    (λ a b. ap (λ x. (x + link g.coupling a b) % 2) (links f.coupling t g.coupling c.xor_tables.ensures a b)
    ∙ parities (link f.coupling a b) (link g.coupling a b)) 48
