-- Sums of n powers of w have no coordinate over n in size; small coordinates are known by their words.
use Rattle.std.proofs.Common.{◌≡◌, ℕ, zero, suc, ◌+◌, ◌-◌, ◌%◌, ◌^◌, ◌<◌, ◌≤◌, Bool, true, ◌&&◌, leb, ℤ, pos, negsuc, ◌+ℤ◌, nat_abs, sym, refl, ap, ◌∙◌, subst, le_trans, add-zero, mod-eq_of_lt, zero-add, add-one, arith, lit≤, to_z-of_z, w64, to_z}
use borrow.Author.Differences.{up, down, sum_is_lem}
use mir.Facts.{to_z_pos}
use Rattle.std.proofs.lemmas.Bool.{and_parts, leb-true}
use Rattle.cyclotomic.specs.Adjoin.{Omega, omegas}
use Rattle.cyclotomic.specs.Ring.{wpow}
use Rattle.cyclotomic.specs.Signed.{signed, Sized}
use Rattle.cyclotomic.specs.Sum.{sum_to}
use Rattle.cyclotomic.proofs.Conj.{four}
use Rattle.cyclotomic.proofs.Ints.{omega-laws}
use Rattle.cyclotomic.proofs.Lift.{words, modulo}
use Rattle.cyclotomic.proofs.RingFacts
use Rattle.cyclotomic.proofs.Maps.{int_to, num}

sum-size : (a b : ℤ) (n m : ℕ) → nat_abs a ≤ n → nat_abs b ≤ m → nat_abs (a +ℤ b) ≤ n + m
sum-size a b n m h l = size (a +ℤ b) (n + m) (let s = sum_is_lem a b in let x = out a n h in let y = out b m l in omega arith)
  where
    out : (z : ℤ) (n : ℕ) → nat_abs z ≤ n → (up z ≤ down z + n) × (down z ≤ up z + n)
    out (pos k) n h = omega arith
    out (negsuc k) n h = omega arith

    size : (z : ℤ) (n : ℕ) → (up z ≤ down z + n) × (down z ≤ up z + n) → nat_abs z ≤ n
    size (pos k) n h = omega arith
    size (negsuc k) n h = omega arith

sized-plus : (x y : Omega) (n m : ℕ) → Sized n x → Sized m y → Sized (n + m) (omegas.plus x y)
unfolding omegas
sized-plus x y n m h l = record {
  first = sum-size x.re.re y.re.re n m h.first l.first;
  second = sum-size x.im.re y.im.re n m h.second l.second;
  third = sum-size x.re.im y.re.im n m h.third l.third;
  fourth = sum-size x.im.im y.im.im n m h.fourth l.fourth;
}

-- the powers of w have one coordinate, 1 or -1
checked : Omega → Bool
checked z = leb (nat_abs z.re.re) 1 && (leb (nat_abs z.im.re) 1 && (leb (nat_abs z.re.im) 1 && leb (nat_abs z.im.im) 1))

sized-checked : (z : Omega) → checked z ≡ true → Sized 1 z
unfolding checked
sized-checked z e =
    let h = and_parts _ _ e in
    let k = and_parts _ _ h.1 in
    let l = and_parts _ _ k.1 in
    record { first = leb-true _ 1 h.0; second = leb-true _ 1 k.0; third = leb-true _ 1 l.0; fourth = leb-true _ 1 l.1 }

power-checked : (m : ℕ) → m < 8 → checked (wpow omegas m) ≡ true
unfolding checked omegas
power-checked = RingFacts.below-eight (λ m. checked (wpow omegas m) ≡ true) refl refl refl refl refl refl refl refl

sized-power : (m : ℕ) → Sized 1 (wpow omegas m)
sized-power m = subst (Sized 1) (sym (RingFacts.wpow-least omega-laws m)) (sized-checked _ (power-checked (m % 8) (omega arith)))

pub sized-nil : Sized 0 omegas.nil
unfolding omegas
sized-nil = record { first = lit≤ tt; second = lit≤ tt; third = lit≤ tt; fourth = lit≤ tt }

pub sized-more : (n m : ℕ) (z : Omega) → n ≤ m → Sized n z → Sized m z
sized-more n m z l h = record {
  first = le_trans h.first l;
  second = le_trans h.second l;
  third = le_trans h.third l;
  fourth = le_trans h.fourth l;
}

-- each power adds at most 1 to a coordinate
pub sized-powers : (q : ℕ → ℕ) (n : ℕ) → Sized n (sum_to omegas (λ c. wpow omegas (q c)) n)
sized-powers q zero = sized-nil
sized-powers q (suc n) = subst (λ m. Sized m (sum_to omegas (λ c. wpow omegas (q c)) (suc n))) (add-one n)
    (sized-plus _ _ n 1 (sized-powers q n) (sized-power (q n)))

-- a word of 64 bits gives back each integer below 2^63 in size
num-word : (n : ℕ) → (num words n).0 ≡ n % 2 ^ 64
num-word zero = refl
num-word (suc n) = ap (λ k. (1 + k) % 2 ^ 64) (num-word n) ∙ omega arith

word_back : (z : ℤ) → nat_abs z ≤ 2 ^ 48 → to_z w64 (int_to words z).0 ≡ z
word_back (pos n) h =
    let e = num-word n in
    let m : n % 2 ^ 64 ≡ n = mod-eq_of_lt (omega arith) in
    let r : (int_to words (pos n)).0 ≡ n = ap (λ k. (k + 0) % 2 ^ 64) (e ∙ m) ∙ ap (λ k. k % 2 ^ 64) (add-zero n) ∙ m in
    ap (to_z w64) r ∙ to_z_pos w64 {n = n} (omega arith)
word_back (negsuc n) h =
    let e = num-word (suc n) in
    let m : suc n % 2 ^ 64 ≡ suc n = mod-eq_of_lt (omega arith) in
    let k : (2 ^ 64 - suc n) % 2 ^ 64 ≡ 2 ^ 64 - suc n = mod-eq_of_lt (omega arith) in
    let r : (int_to words (negsuc n)).0 ≡ 2 ^ 64 - suc n = ap (λ x. (0 + (2 ^ 64 - x) % 2 ^ 64) % 2 ^ 64) (e ∙ m)
    ∙ ap (λ x. (0 + x) % 2 ^ 64) k ∙ ap (λ x. x % 2 ^ 64) (zero-add (2 ^ 64 - suc n)) ∙ k in
    ap (to_z w64) r ∙ to_z-of_z {w = w64} {z = negsuc n} (record { sfits = omega arith })

pub signed_back : (z : Omega) → Sized (2 ^ 48) z → signed (modulo z) ≡ z
unfolding modulo
signed_back z h = four (word_back _ h.first) (word_back _ h.second) (word_back _ h.third) (word_back _ h.fourth)
