-- Scalars with their powers lowered.
use Rattle.std.proofs.Common.{◌≡◌, inl, inr, ℕ, ◌≤◌, ℤ, pos, ◌+ℤ◌, ◌-ℤ◌, neg_ℤ, sym, ap, ◌∙◌, mod-eq_of_lt, arith, w64, to_z, of_z}
use borrow.Author.Differences.{ints}
use lib.Count.{ones-le}
use Rattle.cyclotomic.specs.Scalars.{Triple, Kind, triple_of, unit}
use Rattle.cyclotomic.specs.declared.scalar.Scalar.{Scalar}
use Rattle.cyclotomic.proofs.Exact.{scalar-kind}
use Rattle.quadratic.specs.Sums.{Bounded}
use Rattle.quadratic.specs.declared.intersection.Intersection.{Intersection}
use Rattle.quadratic.proofs.Cases.{by_space}
use Rattle.stabilizer.specs.Overlaps.{lowered, lowered_by}

-- zero stays
pub zero-lowered : (x : Scalar) (k : ℕ) → (triple_of x).0 ≡ 0 → triple_of x ≡ lowered (triple_of x) k
zero-lowered x k e = go (scalar-kind x)
  where
    go : Kind (triple_of x) → triple_of x ≡ lowered (triple_of x) k
    go (inl z) = z ∙ ap (λ y. lowered y k) (sym z)
    go (inr h) = let one = h.0 in absurd (omega arith)

-- any other is a power with another exponent
pub term-lowered : (x : Scalar) (k : ℕ) → ((triple_of x).0 ≡ 0 → ⊥)
    → unit ((triple_of x).1 +ℤ neg_ℤ (pos k)) (triple_of x).2 ≡ lowered (triple_of x) k
term-lowered x k ne = go (triple_of x) (scalar-kind x) ne
  where
    go : (y : Triple) → Kind y → (y.0 ≡ 0 → ⊥) → unit (y.1 +ℤ neg_ℤ (pos k)) y.2 ≡ lowered y k
    go y (inl z) n = absurd (n (ap (λ t. t.0) z))
    go y (inr h) n = ap (λ m. (1, y.1 +ℤ neg_ℤ (pos k), m)) (mod-eq_of_lt h.1) ∙ ap (λ d. lowered_by d y.1 y.2 k) (sym h.0)

-- the power of an exponential sum that is not 0
pub sum-power : (i : Intersection) (x : Scalar) → Bounded i x → ((triple_of x).0 ≡ 0 → ⊥)
    → (p : ℕ) × ((triple_of x).1 ≡ pos p) × (p ≤ 96)
sum-power i x b ne = go (scalar-kind x)
  where
    few : (i : Intersection) → Bounded i x → (triple_of x).0 ≡ 1 → (p : ℕ) × ((triple_of x).1 ≡ pos p) × (p ≤ 96)
    few =
        by_space (λ i. Bounded i x → (triple_of x).0 ≡ 1 → (p : ℕ) × ((triple_of x).1 ≡ pos p) × (p ≤ 96))
        (λ b one. absurd (ne (ap (λ t. t.0) b)))
        (λ s b one.
        let p = b one in
        let l = ones-le 48 s.space.pivots s.space.within in
        let h : p.0 ≤ 96 = let m = p.3 in omega arith in
        (p.0, p.1, h))

    go : Kind (triple_of x) → (p : ℕ) × ((triple_of x).1 ≡ pos p) × (p ≤ 96)
    go (inl z) = absurd (ne (ap (λ t. t.0) z))
    go (inr h) = few i b h.0

-- the subtraction as the machine makes it
pub subtracted : (x : ℤ) (p k : ℕ) → x ≡ pos p → p ≤ 96 → k ≤ 10000
    → to_z w64 (of_z w64 (to_z w64 (of_z w64 x) -ℤ to_z w64 k)) ≡ x +ℤ neg_ℤ (pos k)
subtracted x p k e hp hk = omega (arith, ints)
