-- A word that is put together bit by bit, at the set bits of a mask.
use Rattle.std.proofs.Common.{◌≡◌, ℕ, ◌+◌, ◌*◌, ◌%◌, ◌^◌, ◌<◌, sym, ap, ◌∙◌, ap₂, mul-zero, mul-one, add-one, pow-suc, below_more, arith, pow_pos}
use native.Mathlib.Decide.{ℕ_discrete}
use lib.Bits.{bit_xor, xor_lt, xor_zero_l, xor_zero_r}
use lib.Pow.{pow-lt}
use Rattle.std.proofs.lemmas.Nat.{shl_whole}
use Rattle.quadratic.specs.Bits.{bit, Lowest}
use Rattle.quadratic.proofs.Bitlaws.{bit_past, bit-zero, bit-pow, bit-pow-other}
use Rattle.quadratic.proofs.Linear.{linear-pick, bit-linear}
use Rattle.quadratic.proofs.Lowest.{gone-off, gone-other}
use Rattle.quadratic.proofs.Rows.{pick-lt}

put-at : (l b p k : ℕ) → b < 2 → bit (bit_xor l (b * 2 ^ p)) k ≡ bit_xor (bit l k) (b * bit (2 ^ p) k)
put-at l b p k s = bit-linear k l (b * 2 ^ p) ∙ ap (bit_xor (bit l k)) (linear-pick (λ x. bit x k) (bit-linear k) b (2 ^ p) s)

-- a bit b is put in place p
put-here : (l b p : ℕ) → b < 2 → bit l p ≡ 0 → bit (bit_xor l (b * 2 ^ p)) p ≡ b
put-here l b p s off = put-at l b p p s ∙ ap₂ (λ x y. bit_xor x (b * y)) off (bit-pow p) ∙ xor_zero_l (b * 1) ∙ mul-one b

put-other : (l b p k : ℕ) → b < 2 → (k ≡ p → ⊥) → bit (bit_xor l (b * 2 ^ p)) k ≡ bit l k
put-other l b p k s ne = put-at l b p k s ∙ ap (λ y. bit_xor (bit l k) (b * y)) (bit-pow-other p k ne)
    ∙ ap (bit_xor (bit l k)) (mul-zero b) ∙ xor_zero_r (bit l k)

-- the bits of f stand in l but at the positions that are left, where l has none
pub record Gathered (f : ℕ → ℕ) (left l : ℕ) : Type 0 where
  pub below : l < 2 ^ 48
  pub done : (k : ℕ) → bit left k ≡ 0 → bit l k ≡ f k
  pub ahead : (k : ℕ) → bit left k ≡ 1 → bit l k ≡ 0

pub gather_none : (f : ℕ → ℕ) (mask left : ℕ) → left ≡ mask → ((k : ℕ) → bit mask k ≡ 0 → f k ≡ 0) → Gathered f left 0
gather_none f mask left e z = record {
  below = pow_pos 48;
  done = λ k o. bit-zero k ∙ sym (z k (sym (ap (λ x. bit x k) e) ∙ o));
  ahead = λ k o. bit-zero k;
}

pub gather-more : (f : ℕ → ℕ) (left l p left' : ℕ) → Lowest left p left' → f p < 2 → Gathered f left l
    → Gathered f left' (bit_xor l (f p * 2 ^ p))
gather-more f left l p left' low s d = record {
  below = xor_lt 48 l (f p * 2 ^ p) d.below (pick-lt 48 (f p) (2 ^ p) s (pow-lt low.place));
  done = λ k z. elim (ℕ_discrete k p) [
    | yes q ↦ ap (bit (bit_xor l (f p * 2 ^ p))) q ∙ put-here l (f p) p s (d.ahead p low.on) ∙ ap f (sym q)
    | no ne ↦ put-other l (f p) p k s ne ∙ d.done k (sym (gone-other left p left' k low ne) ∙ z)
  ];
  ahead = λ k u. elim (ℕ_discrete k p) [
    | yes q ↦ let z = gone-off left p left' low in let w = ap (bit left') q in absurd (omega arith)
    | no ne ↦ put-other l (f p) p k s ne ∙ d.ahead k (sym (gone-other left p left' k low ne) ∙ u)
  ];
}

pub gather-all : (f : ℕ → ℕ) (left l : ℕ) → left ≡ 0 → Gathered f left l → (k : ℕ) → bit l k ≡ f k
gather-all f left l e d k = d.done k (ap (λ x. bit x k) e ∙ bit-zero k)

-- a bit, shifted to its place
pub placed : (b p : ℕ) → b < 2 → p < 48 → (b * 2 ^ p) % 2 ^ 64 ≡ b * 2 ^ p
placed b p s l = shl_whole b 1 p 64 s (omega arith)

-- l has the bits of f below n, and no others
pub record Filled (f : ℕ → ℕ) (n l : ℕ) : Type 0 where
  pub below : l < 2 ^ n
  pub bits : (k : ℕ) → k < n → bit l k ≡ f k

pub fill-more : (f : ℕ → ℕ) (n l b : ℕ) → b < 2 → b ≡ f n → Filled f n l → Filled f (n + 1) (bit_xor l (b * 2 ^ n))
fill-more f n l b s e d =
    let p = ap (λ k. 2 ^ k) (add-one n) ∙ pow-suc 2 n in
    record {
      below = xor_lt (n + 1) l (b * 2 ^ n) (omega (arith, p, d.below)) (pick-lt (n + 1) b (2 ^ n) s (pow-lt (omega arith)));
      bits = below_more _ n (λ k h. put-other l b n k s (omega arith) ∙ d.bits k h) (put-here l b n s (bit_past n l n d.below (omega arith)) ∙ e);
    }
