-- The algebra of quadratic forms over functions: no mask, no code.
use Rattle.std.proofs.Common.{◌≡◌, ℕ, zero, suc, ◌+◌, ◌*◌, ◌%◌, ◌^◌, ◌<◌, ◌≢◌, sym, refl, ap, ◌∙◌, ap₂, lt_of_lt_of_le, add-zero, mod-lt, mod-eq_of_lt, mul_comm, add-mul, one-mul, pow-suc, mul-zero, zero-add, zero-mul, mul-one, mul-add, add-one, arith, pow_pos, pow_mono, below_more}
use lib.Pow.{pow-lt}
use native.Mathlib.Decide.{dec_lt}
use native.Mathlib.Nat.{add-mul-mod_self_left}
use Rattle.quadratic.specs.Bits.{bit, sum, inner}
use Rattle.quadratic.specs.Quadratic.{quad}
use Rattle.quadratic.proofs.Bitlaws.{digit, digit₂, digit₃, bit_past, bit-under, bit-top, bit-zero, bit-pow, bit-pow-other}

-- numbers that differ by multiples of 8
pub carry : (x y i j : ℕ) → x + 8 * i ≡ y + 8 * j → x % 8 ≡ y % 8
carry x y i j e = sym (add-mul-mod_self_left x 8 i) ∙ ap (λ n. n % 8) e ∙ add-mul-mod_self_left y 8 j

pub add8 : (a b c d : ℕ) → a % 8 ≡ b % 8 → c % 8 ≡ d % 8 → (a + c) % 8 ≡ (b + d) % 8
add8 a b c d p q = omega arith

pub four : (x y : ℕ) → x % 2 ≡ y % 2 → 4 * x % 8 ≡ 4 * y % 8
four x y p = omega arith

-- f ≡ g + u h (mod 2) termwise, so their sums
sum_step : (F G H f g h u : ℕ) → u < 2 → F % 2 ≡ (G + u * H) % 2 → f % 2 ≡ (g + u * h) % 2 → (F + f) % 2 ≡ (G + g + u * (H + h)) % 2
sum_step F G H f g h u l =
    digit (λ u. F % 2 ≡ (G + u * H) % 2 → f % 2 ≡ (g + u * h) % 2 → (F + f) % 2 ≡ (G + g + u * (H + h)) % 2)
    (λ p q. omega arith) (λ p q. omega arith) u l

sum-add : (f g h : ℕ → ℕ) (u n : ℕ) → u < 2 → ((k : ℕ) → k < n → f k % 2 ≡ (g k + u * h k) % 2) → sum f n % 2
    ≡ (sum g n + u * sum h n) % 2
sum-add f g h u zero l e = digit (λ u. 0 % 2 ≡ (0 + u * 0) % 2) refl refl u l
sum-add f g h u (suc n) l e =
    sum_step (sum f n) (sum g n) (sum h n) (f n) (g n) (h n) u l (sum-add f g h u n l (λ k i. e k (omega arith))) (e n (omega arith))

-- a change of the coefficients by d and s adds E, where E grows by c (d + 4 s) at each variable
change-step : (q r D D' S S' d s c e e' : ℕ) → c < 2 → r % 8 ≡ (q + e) % 8 → D' % 8 ≡ (D + d) % 8 → S' % 2 ≡ (S + s) % 2
    → e' % 8 ≡ (e + c * (d + 4 * s)) % 8 → (r + c * (D' + 4 * S')) % 8 ≡ (q + c * (D + 4 * S) + e') % 8
change-step q r D D' S S' d s c e e' l h hD hS =
    digit (λ c. e' % 8 ≡ (e + c * (d + 4 * s)) % 8 → (r + c * (D' + 4 * S')) % 8 ≡ (q + c * (D + 4 * S) + e') % 8)
    (λ g. omega arith) (λ g. omega arith) c l

module _ (Q Q' : ℕ) (D D' : ℕ → ℕ) (J J' : ℕ → ℕ → ℕ) (c : ℕ → ℕ) (bits : (k : ℕ) → c k < 2) (d s E : ℕ → ℕ) where
  pub change : (n : ℕ) → Q' % 8 ≡ (Q + E 0) % 8 → ((k : ℕ) → k < n → D' k % 8 ≡ (D k + d k) % 8)
      → ((k : ℕ) → k < n → inner (J' k) c k % 2 ≡ (inner (J k) c k + s k) % 2)
      → ((k : ℕ) → k < n → E (suc k) % 8 ≡ (E k + c k * (d k + 4 * s k)) % 8)
      → quad Q' D' J' c n % 8 ≡ (quad Q D J c n + E n) % 8
  change zero z hD hJ hE = z
  change (suc n) z hD hJ hE =
      change-step (quad Q D J c n) (quad Q' D' J' c n) (D n) (D' n) (inner (J n) c n) (inner (J' n) c n) (d n) (s n) (c n) (E n) (E (suc n))
      (bits n) (change n z (λ k i. hD k (omega arith)) (λ k i. hJ k (omega arith)) (λ k i. hE k (omega arith)))
      (hD n (omega arith)) (hJ n (omega arith)) (hE n (omega arith))

-- the same of inner products with bits
times-bit : (f g h u c : ℕ) → c < 2 → u < 2 → f % 2 ≡ (g + u * h) % 2 → f * c % 2 ≡ (g * c + u * (h * c)) % 2
times-bit f g h u c l m =
    digit₂ (λ u c. f % 2 ≡ (g + u * h) % 2 → f * c % 2 ≡ (g * c + u * (h * c)) % 2) (λ e. omega arith)
    (λ e. omega arith) (λ e. omega arith) (λ e. omega arith) u c m l

inner-add : (f g h c : ℕ → ℕ) (u n : ℕ) → ((k : ℕ) → c k < 2) → u < 2 → ((k : ℕ) → k < n → f k % 2 ≡ (g k + u * h k) % 2)
    → inner f c n % 2 ≡ (inner g c n + u * inner h c n) % 2
inner-add f g h c u n bits l e =
    sum-add (λ k. f k * c k) (λ k. g k * c k) (λ k. h k * c k) u n l (λ k i. times-bit (f k) (g k) (h k) u (c k) (bits k) l (e k i))

-- t times the parity of m: w says whether t is an odd multiple of 2
abbrev pub Turn : ℕ → ℕ → ℕ → ℕ → ℕ → Type 0
Turn t w p m c = t * ((p + m * c) % 2) % 8 ≡ (t * p + c * (t * m + 4 * (w * m * p))) % 8

abbrev pub Turns : ℕ → ℕ → Type 0
Turns t w = (p m c : ℕ) → p < 2 → m < 2 → c < 2 → Turn t w p m c

pub turn_two : Turns 2 1
turn_two = digit₃ (Turn 2 1) refl refl refl refl refl refl refl refl

pub turn-four : Turns 4 0
turn-four = digit₃ (Turn 4 0) refl refl refl refl refl refl refl refl

reduce : (x p u : ℕ) → u < 2 → (x + u * p) % 2 ≡ (x + u * (p % 2)) % 2
reduce x p = digit (λ u. (x + u * p) % 2 ≡ (x + u * (p % 2)) % 2) (omega arith) (omega arith)

abbrev Product : ℕ → ℕ → ℕ → ℕ → ℕ → Type 0
Product U V u v c = 4 * ((U + u * c) * (V + v * c)) ≡ 4 * (U * V) + c * (4 * (u * v) + 4 * (u * V + v * U))

product-step : (U V u v c : ℕ) → c < 2 → Product U V u v c
product-step U V u v c l =
    digit (Product U V u v) (omega arith)
    (simp (mul-one, add-mul, mul-add) (omega (arith, mul_comm u V, mul_comm v U, mul_comm U v))) c l

module _ (Q : ℕ) (D D' : ℕ → ℕ) (J J' : ℕ → ℕ → ℕ) (c : ℕ → ℕ) (bits : (k : ℕ) → c k < 2) where
  pub add-parity : (t w : ℕ) → Turns t w → (m : ℕ → ℕ) → ((k : ℕ) → m k < 2) → ((k : ℕ) → w * m k < 2) → (n : ℕ)
      → ((k : ℕ) → k < n → D' k % 8 ≡ (D k + t * m k) % 8)
      → ((k b : ℕ) → k < n → J' k b % 2 ≡ (J k b + w * m k * m b) % 2)
      → quad Q D' J' c n % 8 ≡ (quad Q D J c n + t * (inner m c n % 2)) % 8
  add-parity t w turn m hm hw n hD hJ =
      change Q Q D D' J J' c bits (λ k. t * m k) (λ k. w * m k * (inner m c k % 2)) (λ k. t * (inner m c k % 2)) n
      (simp (mul-zero, add-zero)) hD
      (λ k i. inner-add (J' k) (J k) m c (w * m k) k bits (hw k) (λ b j. hJ k b i)
      ∙ reduce (inner (J k) c k) (inner m c k) (w * m k) (hw k))
      (λ k i.
      let more : (inner m c k + m k * c k) % 2 ≡ (inner m c k % 2 + m k * c k) % 2 = omega arith in
      ap (λ x. t * x % 8) more ∙ turn (inner m c k % 2) (m k) (c k) (mod-lt (inner m c k) (omega arith)) (hm k) (bits k))

  pub add-product : (u v : ℕ → ℕ) → ((k : ℕ) → u k < 2) → ((k : ℕ) → v k < 2) → (n : ℕ)
      → ((k : ℕ) → k < n → D' k % 8 ≡ (D k + 4 * (u k * v k)) % 8)
      → ((k b : ℕ) → k < n → J' k b % 2 ≡ (J k b + u k * v b + v k * u b) % 2)
      → quad Q D' J' c n % 8 ≡ (quad Q D J c n + 4 * (inner u c n * inner v c n)) % 8
  add-product u v hu hv n hD hJ =
      change Q Q D D' J J' c bits (λ k. 4 * (u k * v k)) (λ k. u k * inner v c k + v k * inner u c k)
      (λ k. 4 * (inner u c k * inner v c k)) n
      (omega arith) hD
      (λ k i.
      let one = inner-add (λ b. J k b + u k * v b) (J k) v c (u k) k bits (hu k) (λ b j. refl) in
      let two = inner-add (J' k) (λ b. J k b + u k * v b) u c (v k) k bits (hv k) (λ b j. hJ k b i) in
      omega (arith, one, two))
      (λ k i. ap (λ x. x % 8) (product-step (inner u c k) (inner v c k) (u k) (v k) (c k) (bits k)))

-- ---- the sum of two forms

sum-step₂ : (q q₁ q₂ D D₁ D₂ S S₁ S₂ c : ℕ) → c < 2 → (q₁ + q₂) % 8 ≡ q % 8 → (D₁ + D₂) % 8 ≡ D % 8 → (S₁ + S₂) % 2 ≡ S % 2
    → (q₁ + c * (D₁ + 4 * S₁) + (q₂ + c * (D₂ + 4 * S₂))) % 8 ≡ (q + c * (D + 4 * S)) % 8
sum-step₂ q q₁ q₂ D D₁ D₂ S S₁ S₂ c l h hD hS =
    digit (λ c. (q₁ + c * (D₁ + 4 * S₁) + (q₂ + c * (D₂ + 4 * S₂))) % 8 ≡ (q + c * (D + 4 * S)) % 8) (omega arith)
    (ap (λ n. n % 8) regroup ∙ add8 (q₁ + q₂) q (D₁ + D₂ + 4 * (S₁ + S₂)) (D + 4 * S) h
    (add8 (D₁ + D₂) D (4 * (S₁ + S₂)) (4 * S) hD (four (S₁ + S₂) S hS))
    ∙ ap (λ n. (q + n) % 8) (sym (one-mul (D + 4 * S)))) c l
  where
    regroup : q₁ + 1 * (D₁ + 4 * S₁) + (q₂ + 1 * (D₂ + 4 * S₂)) ≡ q₁ + q₂ + (D₁ + D₂ + 4 * (S₁ + S₂))
    regroup = omega arith

-- coefficients that add up give values that add up
pub quad-sum : (Q Q₁ Q₂ : ℕ) (D D₁ D₂ : ℕ → ℕ) (J J₁ J₂ : ℕ → ℕ → ℕ) (c : ℕ → ℕ) → ((k : ℕ) → c k < 2) → (Q₁ + Q₂) % 8 ≡ Q % 8
    → ((k : ℕ) → (D₁ k + D₂ k) % 8 ≡ D k % 8) → ((k b : ℕ) → (J₁ k b + J₂ k b) % 2 ≡ J k b % 2)
    → (n : ℕ) → (quad Q₁ D₁ J₁ c n + quad Q₂ D₂ J₂ c n) % 8 ≡ quad Q D J c n % 8
quad-sum Q Q₁ Q₂ D D₁ D₂ J J₁ J₂ c bits hQ hD hJ zero = hQ
quad-sum Q Q₁ Q₂ D D₁ D₂ J J₁ J₂ c bits hQ hD hJ (suc n) =
    let rows = inner-add (J n) (J₁ n) (J₂ n) c 1 n bits (omega arith) (λ b l. let e = hJ n b in omega arith) in
    sum-step₂ (quad Q D J c n) (quad Q₁ D₁ J₁ c n) (quad Q₂ D₂ J₂ c n) (D n) (D₁ n) (D₂ n) (inner (J n) c n)
    (inner (J₁ n) c n) (inner (J₂ n) c n)
    (c n) (bits n) (quad-sum Q Q₁ Q₂ D D₁ D₂ J J₁ J₂ c bits hQ hD hJ n) (hD n) (omega arith)

-- ---- polarisation

-- Σ_{a < n} c_a (Σ_{b < a} J_ab e_b) + e_a (Σ_{b < a} J_ab c_b) + c_a e_a O_a
abbrev pub cross : (ℕ → ℕ → ℕ) → (ℕ → ℕ) → (ℕ → ℕ) → (ℕ → ℕ) → ℕ → ℕ
cross J O c e zero = 0
cross J O c e (suc n) = cross J O c e n + c n * inner (J n) e n + e n * inner (J n) c n + c n * (e n * O n)

abbrev Join : ℕ → ℕ → ℕ → ℕ → ℕ → ℕ → ℕ → ℕ → ℕ → ℕ → ℕ → ℕ → ℕ → Type 0
Join Q p q r B D O S T X c e x =
    x ≡ (c + e) % 2 → (r + x * (D + 4 * X) + Q) % 8
    ≡ (p + c * (D + 4 * S) + (q + e * (D + 4 * T)) + 4 * (B + c * T + e * S + c * (e * O))) % 8

join_step : (Q p q r B D O N S T X c e x : ℕ) → (r + Q) % 8 ≡ (p + q + 4 * B) % 8 → D ≡ 2 * O + 4 * N → X % 2
    ≡ (S + T) % 2 → c < 2 → e < 2 → x < 2
    → Join Q p q r B D O S T X c e x
join_step Q p q r B D O N S T X c e x h hD hX =
    let k : (r + Q + 4 * X) % 8 ≡ (p + q + 4 * B + 4 * (S + T)) % 8 =
    add8 (r + Q) (p + q + 4 * B) (4 * X) (4 * (S + T)) h (four X (S + T) hX) in
    let z = carry (p + q + 4 * B) (p + q + 4 * B + 2 * D + 4 * O + 8 * S + 8 * T) (O + N + S + T) 0 (omega arith) in
    digit₃ (Join Q p q r B D O S T X) (λ g. omega (arith, h)) (λ g. omega arith) (λ g. omega arith)
    (λ g. omega (arith, k)) (λ g. omega arith) (λ g. omega (arith, k))
    (λ g. omega (arith, h, z)) (λ g. omega arith) c e x

-- j (c + e) and j c + j e
abbrev Spread : ℕ → ℕ → ℕ → ℕ → Type 0
Spread j c e x = x ≡ (c + e) % 2 → j * x % 2 ≡ (j * c + 1 * (j * e)) % 2

spread : (j c e x : ℕ) → c < 2 → e < 2 → x < 2 → Spread j c e x
spread j =
    digit₃ (Spread j) (λ g. omega arith) (λ g. omega arith) (λ g. omega arith) (λ g. omega arith) (λ g. omega arith) (λ g. omega arith)
    (λ g. omega arith) (λ g. omega arith)

module _ (c e x : ℕ → ℕ) (bc : (k : ℕ) → c k < 2) (be : (k : ℕ) → e k < 2) (bx : (k : ℕ) → x k < 2)
    (is : (k : ℕ) → x k ≡ (c k + e k) % 2) where
  pub inner-xor : (f : ℕ → ℕ) (n : ℕ) → inner f x n % 2 ≡ (inner f c n + inner f e n) % 2
  inner-xor f n =
      let h = sum-add (λ k. f k * x k) (λ k. f k * c k) (λ k. f k * e k) 1 n (omega arith)
      (λ k i. spread (f k) (c k) (e k) (x k) (bc k) (be k) (bx k) (is k)) in
      omega (arith, h)

  pub polar : (Q : ℕ) (D O N : ℕ → ℕ) (J : ℕ → ℕ → ℕ) → ((k : ℕ) → D k ≡ 2 * O k + 4 * N k)
      → (n : ℕ) → (quad Q D J x n + Q) % 8 ≡ (quad Q D J c n + quad Q D J e n + 4 * cross J O c e n) % 8
  polar Q D O N J hD zero = omega arith
  polar Q D O N J hD (suc n) =
      join_step Q (quad Q D J c n) (quad Q D J e n) (quad Q D J x n) (cross J O c e n) (D n) (O n) (N n)
      (inner (J n) c n) (inner (J n) e n) (inner (J n) x n)
      (c n) (e n) (x n) (polar Q D O N J hD n) (hD n) (inner-xor (J n) n) (bc n) (be n) (bx n) (is n)

-- ---- the cross term by whole rows, and a form shifted by u

pub sum_same : (f g : ℕ → ℕ) (n : ℕ) → ((k : ℕ) → k < n → f k ≡ g k) → sum f n ≡ sum g n
sum_same f g zero e = refl
sum_same f g (suc n) e = ap₂ (λ x y. x + y) (sum_same f g n (λ k i. e k (omega arith))) (e n (omega arith))

widen_step : (A B X y c z : ℕ) → c < 2 → z < 2 → A + z * B + c * (X + y * z) ≡ A + c * X + z * (B + y * c)
widen_step A B X y = digit₂ (λ c z. A + z * B + c * (X + y * z) ≡ A + c * X + z * (B + y * c)) (omega arith)
    (omega arith) (omega arith) (omega arith)

widen : (c X y : ℕ → ℕ) (z : ℕ) → ((k : ℕ) → c k < 2) → z < 2 → (m : ℕ) → sum (λ a. c a * (X a + y a * z)) m
    ≡ sum (λ a. c a * X a) m + z * inner y c m
widen c X y z bc bz zero = simp (mul-zero, add-zero)
widen c X y z bc bz (suc m) =
    ap (λ s. s + c m * (X m + y m * z)) (widen c X y z bc bz m)
    ∙ widen_step (sum (λ a. c a * X a) m) (inner y c m) (X m) (y m) (c m) z (bc m) bz

cross-step : (x s t o c e : ℕ) → c < 2 → e < 2 → x + c * s + e * t + c * (e * o) ≡ x + e * t + c * (s + o * e)
cross-step x s t o = digit₂ (λ c e. x + c * s + e * t + c * (e * o) ≡ x + e * t + c * (s + o * e)) (omega arith)
    (omega arith) (omega arith) (omega arith)

module _ (J : ℕ → ℕ → ℕ) (O c e : ℕ → ℕ) (bc : (k : ℕ) → c k < 2) (be : (k : ℕ) → e k < 2) where
  pub cross-rows : (n : ℕ) → ((a b : ℕ) → a < n → b < n → J a b ≡ J b a) → ((a : ℕ) → a < n → J a a ≡ O a)
      → cross J O c e n ≡ sum (λ a. c a * inner (J a) e n) n
  cross-rows zero sy di = refl
  cross-rows (suc n) sy di =
      let ih = cross-rows n (λ a b p q. sy a b (omega arith) (omega arith)) (λ a p. di a (omega arith)) in
      let w = widen c (λ a. inner (J a) e n) (λ a. J a n) (e n) bc (be n) n in
      let t = sum_same (λ a. J a n * c a) (λ a. J n a * c a) n (λ a p. ap (λ x. x * c a) (sy a n (omega arith) (omega arith))) in
      cross-step (cross J O c e n) (inner (J n) e n) (inner (J n) c n) (O n) (c n) (e n) (bc n) (be n)
      ∙ ap₂ (λ A o. A + c n * (inner (J n) e n + o * e n)) (ap₂ (λ x y. x + e n * y) ih (sym t) ∙ sym w) (sym (di n (omega arith)))

pub sum-parity : (f g : ℕ → ℕ) (n : ℕ) → ((k : ℕ) → k < n → f k % 2 ≡ g k % 2) → sum f n % 2 ≡ sum g n % 2
sum-parity f g zero e = refl
sum-parity f g (suc n) e =
    let ih = sum-parity f g n (λ k i. e k (omega arith)) in
    let here = e n (omega arith) in
    omega arith

-- Shifted by e: the phase becomes the value at e, and D gains 4 for each row that e meets an odd number of times.
pub shift-bit : (w x c : ℕ) → c < 2 → w % 2 ≡ x % 2 → w * c % 2 ≡ c * x % 2
shift-bit w x c l h = digit (λ c. w * c % 2 ≡ c * x % 2) (omega arith) (omega arith) c l

shift-step : (I w c y : ℕ) → c < 2 → (y + 4 * (I + w * c)) % 8 ≡ (y + 4 * I + c * (4 * w + 4 * 0)) % 8
shift-step I w c y = digit (λ c. (y + 4 * (I + w * c)) % 8 ≡ (y + 4 * I + c * (4 * w + 4 * 0)) % 8) (omega arith) (omega arith) c

shift-last : (q' q p r Q I C : ℕ) → q' % 8 ≡ (q + (p + 7 * Q + 4 * I)) % 8 → (r + Q) % 8 ≡ (q + p + 4 * C) % 8
    → I % 2 ≡ C % 2 → q' % 8 ≡ r % 8
shift-last q' q p r Q I C g h k =
    g ∙ carry (q + (p + 7 * Q + 4 * I)) (4 * I + (q + p + 7 * Q)) 0 0 (omega arith)
    ∙ add8 (4 * I) (4 * C) (q + p + 7 * Q) (q + p + 7 * Q) (four I C k) refl
    ∙ carry (4 * C + (q + p + 7 * Q)) (q + p + 4 * C + 7 * Q) 0 0 (omega arith)
    ∙ sym (add8 (r + Q) (q + p + 4 * C) (7 * Q) (7 * Q) h refl) ∙ carry (r + Q + 7 * Q) r 0 Q (omega arith)

module _ (Q Q' n : ℕ) (D D' O N w c e x : ℕ → ℕ) (J : ℕ → ℕ → ℕ)
    (bc : (k : ℕ) → c k < 2) (be : (k : ℕ) → e k < 2) (bx : (k : ℕ) → x k < 2) where
  pub shift : ((k : ℕ) → x k ≡ (c k + e k) % 2) → ((k : ℕ) → D k ≡ 2 * O k + 4 * N k)
      → ((a b : ℕ) → a < n → b < n → J a b ≡ J b a) → ((a : ℕ) → a < n → J a a ≡ O a)
      → Q' % 8 ≡ quad Q D J e n % 8 → ((k : ℕ) → k < n → D' k % 8 ≡ (D k + 4 * w k) % 8) → ((k : ℕ) → k < n → w k % 2 ≡ inner (J k) e n % 2)
      → quad Q' D' J c n % 8 ≡ quad Q D J x n % 8
  shift is hD sy di hQ hD' hw =
      let p = polar c e x bc be bx is Q D O N J hD n in
      let r = cross-rows J O c e bc be n sy di in
      let t = sum-parity (λ k. w k * c k) (λ k. c k * inner (J k) e n) n (λ k i. shift-bit (w k) (inner (J k) e n) (c k) (bc k) (hw k i)) in
      let z = carry (quad Q D J e n) (Q + (quad Q D J e n + 7 * Q + 0)) Q 0 (omega arith) in
      let g = change Q Q' D D' J J c bc (λ k. 4 * w k) (λ k. 0) (λ k. quad Q D J e n + 7 * Q + 4 * inner w c k) n
      (hQ ∙ z) hD' (λ k i. simp add-zero)
      (λ k i. shift-step (inner w c k) (w k) (c k) (quad Q D J e n + 7 * Q) (bc k)) in
      shift-last (quad Q' D' J c n) (quad Q D J c n) (quad Q D J e n) (quad Q D J x n) Q (inner w c n)
      (cross J O c e n) g p (t ∙ ap (λ s. s % 2) (sym r))

-- ---- a form is known by its values

pub quad-same : (Q : ℕ) (D : ℕ → ℕ) (J : ℕ → ℕ → ℕ) (c e : ℕ → ℕ) (n : ℕ) → ((k : ℕ) → k < n → c k ≡ e k) → quad Q D J c n ≡ quad Q D J e n
quad-same Q D J c e zero h = refl
quad-same Q D J c e (suc n) h =
    let s = sum_same (λ b. J n b * c b) (λ b. J n b * e b) n (λ b i. ap (λ x. J n b * x) (h b (omega arith))) in
    ap₂ (λ q b. q + b * (D n + 4 * inner (J n) c n)) (quad-same Q D J c e n (λ k i. h k (omega arith))) (h n (omega arith))
    ∙ ap (λ s. quad Q D J e n + e n * (D n + 4 * s)) s

inner-none : (f c : ℕ → ℕ) (n : ℕ) → ((k : ℕ) → k < n → c k ≡ 0) → inner f c n ≡ 0
inner-none f c zero h = refl
inner-none f c (suc n) h = ap₂ (λ s x. s + f n * x) (inner-none f c n (λ k i. h k (omega arith))) (h n (omega arith))
    ∙ simp (mul-zero, add-zero)

-- against a single variable
pub inner-one : (f c : ℕ → ℕ) (b n : ℕ) → b < n → c b ≡ 1 → ((k : ℕ) → k ≢ b → c k ≡ 0) → inner f c n ≡ f b
inner-one f c b zero l one none = absurd (omega arith)
inner-one f c b (suc n) l one none =
    elim (dec_lt b n) [
      | yes i ↦ ap₂ (λ s x. s + f n * x) (inner-one f c b n i one none) (none n (omega arith)) ∙ simp (mul-zero, add-zero)
      | no i ↦
          let e : n ≡ b = omega arith in
          ap₂ (λ s x. s + f n * x) (inner-none f c n (λ k j. none k (omega arith))) (ap c e ∙ one) ∙ simp (mul-one, zero-add) (ap f e)
    ]

low_value : (q q' X X' b : ℕ) → b ≡ 0 → (q + b * X) % 8 ≡ (q' + b * X') % 8 → q % 8 ≡ q' % 8
low_value q q' X X' b e h = let h' : (q + 0 * X) % 8 ≡ (q' + 0 * X') % 8 = rw e at h in omega arith

top-value : (q q' D D' S S' : ℕ) → q % 8 ≡ q' % 8 → (q + 1 * (D + 4 * S)) % 8 ≡ (q' + 1 * (D' + 4 * S')) % 8
    → (D + 4 * S) % 8 ≡ (D' + 4 * S') % 8
top-value q q' D D' S S' p h = omega arith

unfour : (x y : ℕ) → 4 * x % 8 ≡ 4 * y % 8 → x % 2 ≡ y % 2
unfour x y h =
    let at = λ (x : ℕ). four x (x % 2) (omega arith) ∙ mod-eq_of_lt {n = 4 * (x % 2)} {m = 8} (omega arith) in
    let e : 4 * (x % 2) ≡ 4 * (y % 2) = sym (at x) ∙ h ∙ at y in
    omega (arith, e)

pub cancel8 : (a b c d : ℕ) → a % 8 ≡ b % 8 → (a + c) % 8 ≡ (b + d) % 8 → c % 8 ≡ d % 8
cancel8 a b c d p h = omega arith

drop-D : (D D' x y : ℕ) → D % 8 ≡ D' % 8 → (D + 4 * x) % 8 ≡ (D' + 4 * y) % 8 → x % 2 ≡ y % 2
drop-D D D' x y p h = unfour x y (cancel8 D D' (4 * x) (4 * y) p h)

-- the value at a point with its top variable set
quad-top : (Q : ℕ) (D : ℕ → ℕ) (J : ℕ → ℕ → ℕ) (n c : ℕ) → c < 2 ^ n → quad Q D J (bit (2 ^ n + c)) (suc n)
    ≡ quad Q D J (bit c) n + 1 * (D n + 4 * inner (J n) (bit c) n)
quad-top Q D J n c l =
    ap₂ (λ q b. q + b * (D n + 4 * inner (J n) (bit (2 ^ n + c)) n))
    (quad-same Q D J (bit (2 ^ n + c)) (bit c) n (λ k p. bit-under n c k l p)) (bit-top n c l)
    ∙ ap (λ s. quad Q D J (bit c) n + 1 * (D n + 4 * s))
    (sum_same (λ b. J n b * bit (2 ^ n + c) b) (λ b. J n b * bit c b) n (λ b p. ap (λ x. J n b * x) (bit-under n c b l p)))

pub record Same (Q Q' : ℕ) (D D' : ℕ → ℕ) (J J' : ℕ → ℕ → ℕ) (n : ℕ) : Type 0 where
  pub phase : Q % 8 ≡ Q' % 8
  pub linear : (k : ℕ) → k < n → D k % 8 ≡ D' k % 8
  pub pairs : (k b : ℕ) → k < n → b < k → J k b % 2 ≡ J' k b % 2

module _ (Q Q' : ℕ) (D D' : ℕ → ℕ) (J J' : ℕ → ℕ → ℕ) where
  abbrev Agree : ℕ → Type 0
  Agree n = (c : ℕ) → c < 2 ^ n → quad Q D J (bit c) n % 8 ≡ quad Q' D' J' (bit c) n % 8

  lower : (n : ℕ) → Agree (suc n) → Agree n
  lower n h c l =
      low_value (quad Q D J (bit c) n) (quad Q' D' J' (bit c) n) (D n + 4 * inner (J n) (bit c) n)
      (D' n + 4 * inner (J' n) (bit c) n) (bit c n)
      (bit_past n c n l (omega arith)) (h c (lt_of_lt_of_le l (pow_mono {i = n} (omega arith))))

  upper : (n : ℕ) → Agree (suc n) → (c : ℕ) → c < 2 ^ n → (D n + 4 * inner (J n) (bit c) n) % 8 ≡ (D' n + 4 * inner (J' n) (bit c) n) % 8
  upper n h c l =
      let e = pow-suc 2 n in
      top-value (quad Q D J (bit c) n) (quad Q' D' J' (bit c) n) (D n) (D' n) (inner (J n) (bit c) n)
      (inner (J' n) (bit c) n) (lower n h c l)
      (ap (λ v. v % 8) (sym (quad-top Q D J n c l)) ∙ h (2 ^ n + c) (omega arith) ∙ ap (λ v. v % 8) (quad-top Q' D' J' n c l))

  top-linear : (n : ℕ) → Agree (suc n) → D n % 8 ≡ D' n % 8
  top-linear n h =
      let none = λ (f : ℕ → ℕ). inner-none f (bit 0) n (λ k i. bit-zero k) in
      let a = none (J n) in
      let b = none (J' n) in
      let u = upper n h 0 (pow_pos n) in
      omega (arith, a, b, u)

  top-pairs : (n : ℕ) → Agree (suc n) → (b : ℕ) → b < n → J n b % 2 ≡ J' n b % 2
  top-pairs n h b l =
      let one = λ (f : ℕ → ℕ). inner-one f (bit (2 ^ b)) b n l (bit-pow b) (λ k ne. bit-pow-other b k ne) in
      let u = upper n h (2 ^ b) (pow-lt l) in
      drop-D (D n) (D' n) (J n b) (J' n b) (top-linear n h) (rw (← one (J n), ← one (J' n)) u)

  -- two forms with the same values have the same coefficients
  pub unique : (n : ℕ) → Agree n → Same Q Q' D D' J J' n
  unique zero h = record { phase = h 0 (pow_pos 0); linear = λ k i. absurd (omega arith); pairs = λ k b i j. absurd (omega arith) }
  unique (suc n) h =
      let ih = unique n (lower n h) in
      record {
        phase = ih.phase;
        linear = λ k i. below_more (λ k. D k % 8 ≡ D' k % 8) n ih.linear (top-linear n h) k (rw add-one i);
        pairs = λ k b i. below_more (λ k. (b : ℕ) → b < k → J k b % 2 ≡ J' k b % 2) n (λ k i b. ih.pairs k b i)
            (top-pairs n h) k (rw add-one i) b;
      }

-- at no variable set
pub quad-zero : (Q : ℕ) (D : ℕ → ℕ) (J : ℕ → ℕ → ℕ) (c : ℕ → ℕ) (n : ℕ) → ((k : ℕ) → c k ≡ 0) → quad Q D J c n ≡ Q
quad-zero Q D J c zero h = refl
quad-zero Q D J c (suc n) h = ap₂ (λ q b. q + b * (D n + 4 * inner (J n) c n)) (quad-zero Q D J c n h) (h n) ∙ simp (zero-mul, add-zero)

-- with no coefficients
pub quad-none : (Q : ℕ) (c : ℕ → ℕ) (D : ℕ → ℕ) (J : ℕ → ℕ → ℕ) (n : ℕ) → ((k : ℕ) → D k ≡ 0) → ((k b : ℕ) → J k b ≡ 0) → quad Q D J c n ≡ Q
quad-none Q c D J zero hD hJ = refl
quad-none Q c D J (suc n) hD hJ =
    ap₂ (λ q d. q + c n * (d + 4 * inner (J n) c n)) (quad-none Q c D J n hD hJ) (hD n)
    ∙ ap (λ s. Q + c n * (0 + 4 * s)) (sum_same (λ b. J n b * c b) (λ b. 0 * c b) n (λ b i. ap (λ x. x * c b) (hJ n b)) ∙ none c n)
    ∙ simp (mul-zero, add-zero)
  where
    none : (c : ℕ → ℕ) (n : ℕ) → sum (λ b. 0 * c b) n ≡ 0
    none c zero = refl
    none c (suc n) = ap (λ s. s + 0 * c n) (none c n) ∙ simp (zero-mul)

-- at one variable alone
pub quad-one : (Q : ℕ) (D : ℕ → ℕ) (J : ℕ → ℕ → ℕ) (c : ℕ → ℕ) (a n : ℕ) → a < n → c a ≡ 1 → ((k : ℕ) → k ≢ a → c k ≡ 0)
    → quad Q D J c n ≡ Q + D a
quad-one Q D J c a zero l one none = absurd (omega arith)
quad-one Q D J c a (suc n) l one none =
    elim (dec_lt a n) [
      | yes i ↦ ap₂ (λ q b. q + b * (D n + 4 * inner (J n) c n)) (quad-one Q D J c a n i one none) (none n (omega arith))
          ∙ simp (zero-mul, add-zero)
      | no i ↦
          let e : n ≡ a = omega arith in
          let q = quad-below Q D J c n (λ k j. none k (omega arith)) in
          let s = inner-none (J n) c n (λ k j. none k (omega arith)) in
          ap₂ (λ x s. x + c n * (D n + 4 * s)) q s ∙ ap (λ b. Q + b * (D n + 4 * 0)) (ap c e ∙ one)
          ∙ simp (one-mul, add-zero) (ap (λ k. Q + D k) e)
    ]
  where
    quad-below : (Q : ℕ) (D : ℕ → ℕ) (J : ℕ → ℕ → ℕ) (c : ℕ → ℕ) (n : ℕ) → ((k : ℕ) → k < n → c k ≡ 0) → quad Q D J c n ≡ Q
    quad-below Q D J c zero h = refl
    quad-below Q D J c (suc n) h =
        ap₂ (λ q b. q + b * (D n + 4 * inner (J n) c n)) (quad-below Q D J c n (λ k i. h k (omega arith))) (h n (omega arith))
        ∙ simp (zero-mul, add-zero)

-- coefficients that differ only where the point is 0
pub quad-off : (Q : ℕ) (D D' : ℕ → ℕ) (J J' : ℕ → ℕ → ℕ) (c : ℕ → ℕ) (n : ℕ) → ((k : ℕ) → c k < 2) → ((k : ℕ) → c k ≡ 1 → D' k ≡ D k)
    → ((k b : ℕ) → c k ≡ 1 → c b ≡ 1 → J' k b ≡ J k b) → quad Q D' J' c n ≡ quad Q D J c n
quad-off Q D D' J J' c zero bits hD hJ = refl
quad-off Q D D' J J' c (suc n) bits hD hJ =
    ap₂ (λ q t. q + t) (quad-off Q D D' J J' c n bits hD hJ)
    (only (c n) (bits n) (D' n + 4 * inner (J' n) c n) (D n + 4 * inner (J n) c n)
    (λ on. ap₂ (λ d s. d + 4 * s) (hD n on)
    (sum_same (λ b. J' n b * c b) (λ b. J n b * c b) n
    (λ b i. mul_comm (J' n b) (c b) ∙ only (c b) (bits b) (J' n b) (J n b) (λ o. hJ n b on o) ∙ mul_comm (c b) (J n b)))))
  where
    only : (b : ℕ) → b < 2 → (x y : ℕ) → (b ≡ 1 → x ≡ y) → b * x ≡ b * y
    only b l x y = digit (λ b. (b ≡ 1 → x ≡ y) → b * x ≡ b * y) (λ h. simp (zero-mul)) (λ h. ap (λ z. 1 * z) (h refl)) b l
