-- The lowest set bit of a mask, and the mask without it.
use Rattle.std.proofs.Common.{◌≡◌, ℕ, zero, suc, ◌+◌, ◌-◌, ◌*◌, ◌/◌, ◌%◌, ◌^◌, ◌<◌, ◌≤◌, ◌≢◌, sym, refl, ap, ◌∙◌, ap₂, add-zero, mod-eq_of_lt, mul_comm, one-mul, pow-suc, mul-zero, div-one, one-add, arith, pow_pos, shr-shr}
use native.Mathlib.Decide.{ℕ_discrete, dec_lt}
use native.Mathlib.Nat.{div-add-mod, mod_self, zero-mod}
use lib.Bits.{bit_and, bit_xor, and_mask, and_mod, and_self, and_shr, xor_add_and, xor_assoc, xor_comm, xor_lt, xor_self, xor_zero_l}
use lib.Count.{ones, count_trailing_zeros, under}
use lib.Pow.{high, low, pow-lt}
use Rattle.quadratic.specs.Bits.{bit, sum, Lowest}
use Rattle.quadratic.proofs.Bitlaws.{digit, same_low, bit-lt, bit-zero, bit-xor, bit-and, bit-pow, bit-pow-other, bit_past, ones_low}
use Rattle.quadratic.proofs.Dots.{by_bits}

-- digit i of the half is digit i + 1
bit-half : (n i : ℕ) → bit n (suc i) ≡ bit (n / 2) i
unfolding bit
bit-half n i = ap (λ k. n / 2 ^ k % 2) (sym (one-add i)) ∙ ap (λ x. x % 2) (sym (shr-shr n 1 i))

bit-first : (n : ℕ) → bit n 0 ≡ n % 2
unfolding bit
bit-first n = ap (λ x. x % 2) (div-one n)

pub lowest : (k n : ℕ) → 0 < n → n < 2 ^ k → bit n (count_trailing_zeros k n) ≡ 1
unfolding count_trailing_zeros
lowest zero n p h = absurd (omega arith)
lowest (suc k) n p h =
    let e = pow-suc 2 k in
    let t = count_trailing_zeros k (n / 2) in
    digit (λ r. n % 2 ≡ r → bit n (under r t) ≡ 1) (λ z. bit-half n t ∙ lowest k (n / 2) (omega arith) (omega arith))
    (λ o. bit-first n ∙ o) (n % 2) (omega arith) refl

pub least : (k n q : ℕ) → q < count_trailing_zeros k n → bit n q ≡ 0
unfolding count_trailing_zeros
least zero n q l = absurd (omega arith)
least (suc k) n zero l = digit (λ r. n % 2 ≡ r → 0 < under r (count_trailing_zeros k (n / 2)) → bit n 0 ≡ 0)
    (λ z l. bit-first n ∙ z) (λ o l. absurd (omega arith)) (n % 2) (omega arith) refl l
least (suc k) n (suc q) l =
    digit (λ r. n % 2 ≡ r → suc q < under r (count_trailing_zeros k (n / 2)) → bit n (suc q) ≡ 0)
    (λ z l. bit-half n q ∙ least k (n / 2) q (omega arith)) (λ o l. absurd (omega arith))
    (n % 2) (omega arith) refl l

-- a set bit stands below the end
pub set_below : (n x i : ℕ) → x < 2 ^ n → bit x i ≡ 1 → i < n
set_below n x i h o = elim (dec_lt i n) [ yes l ↦ l | no g ↦ let z = bit_past n x i h (omega arith) in absurd (omega arith) ]

-- the mask without a bit that it has
pub drop-bit : (x a : ℕ) → bit x a ≡ 1 → bit_xor x (2 ^ a) + 2 ^ a ≡ x
drop-bit x a o =
    let same : bit_and x (2 ^ a) ≡ 2 ^ a = by_bits (bit_and x (2 ^ a)) (2 ^ a) (λ k. bit-and x (2 ^ a) k ∙ one k) in
    omega (arith, xor_add_and x (2 ^ a), same)
  where
    one : (k : ℕ) → bit x k * bit (2 ^ a) k ≡ bit (2 ^ a) k
    one k =
        elim (ℕ_discrete k a) [
          | yes i ↦ ap (λ j. bit x j * bit (2 ^ a) k) i ∙ ap (λ b. b * bit (2 ^ a) k) o ∙ one-mul (bit (2 ^ a) k)
          | no ne ↦ ap (λ b. bit x k * b) (bit-pow-other a k ne) ∙ mul-zero (bit x k) ∙ sym (bit-pow-other a k ne)
        ]

pub dropped : (x a : ℕ) → bit x a ≡ 1 → bit (bit_xor x (2 ^ a)) a ≡ 0
dropped x a o = bit-xor x (2 ^ a) a ∙ ap₂ (λ p q. (p + q) % 2) o (bit-pow a)

pub undropped : (x a k : ℕ) → k ≢ a → bit (bit_xor x (2 ^ a)) k ≡ bit x k
undropped x a k ne = bit-xor x (2 ^ a) k ∙ ap (λ q. (bit x k + q) % 2) (bit-pow-other a k ne) ∙ simp add-zero (mod-eq_of_lt (bit-lt x k))

-- the lowest set bit goes where a word meets the one before it
pub clear-lowest : (x p : ℕ) → bit x p ≡ 1 → ((q : ℕ) → q < p → bit x q ≡ 0) → bit_and x (x - 1) ≡ bit_xor x (2 ^ p)
clear-lowest x p on none_below =
    let y = bit_xor x (2 ^ p) in
    let n = suc p in
    let z = y / 2 ^ n in
    let d : y + 2 ^ p ≡ x = drop-bit x p on in
    let none : y % 2 ^ n ≡ 0 % 2 ^ n = same_low n y 0 (λ q l. below q l ∙ sym (bit-zero q)) in
    let e : y ≡ z * 2 ^ n = whole y n (none ∙ zero-mod (2 ^ n)) in
    let k = pow_pos p in
    let half = pow-suc 2 p in
    let xe : x ≡ z * 2 ^ n + 2 ^ p = sym d ∙ ap (λ v. v + 2 ^ p) e in
    let we : x - 1 ≡ z * 2 ^ n + (2 ^ p - 1) = omega (arith, xe, k) in
    let top : bit_and x (x - 1) / 2 ^ n ≡ z = and_shr x (x - 1) n
    ∙ ap₂ bit_and (ap (λ v. v / 2 ^ n) xe ∙ high z n (omega (arith, half, k))) (ap (λ v. v / 2 ^ n) we ∙ high z n (omega (arith, half, k)))
    ∙ and_self z in
    let bottom : bit_and x (x - 1) % 2 ^ n ≡ 0 = and_mod x (x - 1) n
    ∙ ap₂ bit_and (ap (λ v. v % 2 ^ n) xe ∙ low z n (omega (arith, half, k))) (ap (λ v. v % 2 ^ n) we ∙ low z n (omega (arith, half, k)))
    ∙ and_mask (2 ^ p) p ∙ mod_self (2 ^ p) in
    whole (bit_and x (x - 1)) n bottom ∙ ap (λ v. v * 2 ^ n) top ∙ sym e
  where
    below : (q : ℕ) → q < suc p → bit (bit_xor x (2 ^ p)) q ≡ 0
    below q l =
        elim (ℕ_discrete q p) [
          | yes e ↦ ap (bit (bit_xor x (2 ^ p))) e ∙ dropped x p on
          | no ne ↦ undropped x p q ne ∙ none_below q (omega arith)
        ]

    whole : (v n : ℕ) → v % 2 ^ n ≡ 0 → v ≡ v / 2 ^ n * 2 ^ n
    whole v n r = sym (div-add-mod v (2 ^ n)) ∙ ap (λ m. 2 ^ n * (v / 2 ^ n) + m) r ∙ add-zero (2 ^ n * (v / 2 ^ n))
        ∙ mul_comm (2 ^ n) (v / 2 ^ n)

-- the mask falls with each bit that goes
pub left-falls : (x a y : ℕ) → bit x a ≡ 1 → y ≡ bit_xor x (2 ^ a) → y < x
left-falls x a y o e = let d = drop-bit x a o in let p = pow_pos a in omega (arith, d, p, e)

-- a bit that goes from one mask to another
pub still : (s x p : ℕ) → bit_xor (bit_xor s (2 ^ p)) (bit_xor x (2 ^ p)) ≡ bit_xor s x
still s x p =
    xor_assoc s (2 ^ p) (bit_xor x (2 ^ p))
    ∙ ap (bit_xor s) (ap (bit_xor (2 ^ p)) (xor_comm x (2 ^ p)) ∙ sym (xor_assoc (2 ^ p) (2 ^ p) x)
    ∙ ap (λ z. bit_xor z x) (xor_self (2 ^ p)) ∙ xor_zero_l x)

-- the same of the lowest set bit
pub gone-off : (x p y : ℕ) → Lowest x p y → bit y p ≡ 0
gone-off x p y low = ap (λ z. bit z p) low.rest ∙ dropped x p low.on

pub gone-other : (x p y k : ℕ) → Lowest x p y → k ≢ p → bit y k ≡ bit x k
gone-other x p y k low ne = ap (λ z. bit z k) low.rest ∙ undropped x p k ne

-- one bit less
sum_drop : (f g : ℕ → ℕ) (a n : ℕ) → a < n → f a ≡ 1 → g a ≡ 0 → ((k : ℕ) → k ≢ a → g k ≡ f k) → sum g n + 1 ≡ sum f n
sum_drop f g a zero l o z h = absurd (omega arith)
sum_drop f g a (suc n) l o z h =
    elim (ℕ_discrete n a) [
      | yes e ↦ let s = same n (omega arith) in let x = ap f e in let y = ap g e in omega (arith, s, x, y)
      | no ne ↦ let r = sum_drop f g a n (omega arith) o z h in let s = h n ne in omega (arith, r, s)
    ]
  where
    same : (m : ℕ) → m ≤ a → sum g m ≡ sum f m
    same zero i = refl
    same (suc m) i = ap₂ ◌+◌ (same m (omega arith)) (h m (omega arith))

pub ones-drop : (x a : ℕ) → x < 2 ^ 48 → bit x a ≡ 1 → ones (bit_xor x (2 ^ a)) + 1 ≡ ones x
ones-drop x a l on =
    let i = set_below 48 x a l on in
    let low : bit_xor x (2 ^ a) < 2 ^ 48 = xor_lt 48 x (2 ^ a) l (pow-lt i) in
    let e = sum_drop (bit x) (bit (bit_xor x (2 ^ a))) a 48 i on (dropped x a on) (λ k ne. undropped x a k ne) in
    ap (λ n. n + 1) (ap ones (sym (mod-eq_of_lt low)) ∙ ones_low 48 (bit_xor x (2 ^ a))) ∙ e ∙ sym (ones_low 48 x)
    ∙ ap ones (mod-eq_of_lt l)

-- the word without its lowest set bit stays small, and has fewer set bits
pub lowest-below : (x p y : ℕ) → x < 2 ^ 48 → bit x p ≡ 1 → y ≡ bit_xor x (2 ^ p) → y < 2 ^ 48
lowest-below x p y l on e = let f = left-falls x p y on e in omega (arith, f, l)

pub lowest-fewer : (x p y : ℕ) → x < 2 ^ 48 → bit x p ≡ 1 → y ≡ bit_xor x (2 ^ p) → ones y < ones x
lowest-fewer x p y l on e = let d = ones-drop x p l on in let s = ap ones e in omega (arith, d, s)

-- a live variable less, for a power of at most two more
pub summed-out : (live a r power k : ℕ) → live < 2 ^ 48 → bit live a ≡ 1 → r ≡ bit_xor live (2 ^ a) → k ≤ 2
    → power + 2 * ones live ≤ 96 → (r < 2 ^ 48) × (power + k + 2 * ones r ≤ 96)
summed-out live a r power k inside on e most few =
    let n = ap (λ x. ones x + 1) e ∙ ones-drop live a inside on in
    (lowest-below live a r inside on e, omega (arith, n, few, most))

pub ones-zero : ones 0 ≡ 0
unfolding ones
ones-zero = refl
