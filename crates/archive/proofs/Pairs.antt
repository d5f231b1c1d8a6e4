-- Pairs of rows, counted.
use Rattle.std.proofs.Common.{◌≡◌, ℕ, zero, suc, ◌+◌, ◌-◌, ◌<◌, ◌≤◌, refl, ap, ◌∙◌, inl, inr, suc-mul, zero-add, mul-suc, arith}
use native.Mathlib.Nat.{sub-zero}
use Rattle.std.proofs.lemmas.Bool.{cases_eq}
use Rattle.archive.specs.Layout.{pairs}
use Rattle.archive.specs.Held.{pairs_before}

-- one row more makes as many pairs more as there were rows
pub pairs-more : (m : ℕ) → pairs (suc m) ≡ pairs m + m
pairs-more zero = refl
pairs-more (suc m) =
    let e : suc (suc m) - 1 ≡ suc m = omega arith in
    let f : suc m - 1 ≡ m = omega arith in
    let s = suc-mul (suc m) (suc m) in
    let t = mul-suc (suc m) m in
    rw (e, f) (omega arith)

-- the pairs that begin before row a, and those of the rows from row a on
pub pairs-split : (k a : ℕ) → a ≤ k → pairs_before k a + pairs (k - a) ≡ pairs k
pairs-split k zero h = zero-add (pairs (k - 0)) ∙ ap pairs (sub-zero k)
pairs-split k (suc a) h =
    let e : k - a ≡ suc (k - suc a) = omega arith in
    let s = ap pairs e ∙ pairs-more (k - suc a) in
    let i = pairs-split k a (omega arith) in
    omega arith

-- the pair of rows a and c is one of them
pub pairs-within : (k a c : ℕ) → a < c → c < k → pairs_before k a + (c - suc a) < pairs k
pairs-within k a c l h =
    let e : k - a ≡ suc (k - suc a) = omega arith in
    let s = ap pairs e ∙ pairs-more (k - suc a) in
    let i = pairs-split k a (omega arith) in
    omega arith

-- the pairs of an earlier row come before those of a later one
pub pairs-rise : (k i a : ℕ) → i ≤ a → pairs_before k i ≤ pairs_before k a
pairs-rise k i zero h = let e : i ≡ 0 = omega arith in rw e (omega arith)
pairs-rise k i (suc a) h = elim (cases_eq i (suc a)) [
  | inl e ↦ rw e (omega arith)
  | inr ne ↦ let r = pairs-rise k i a (omega arith) in omega arith
]
