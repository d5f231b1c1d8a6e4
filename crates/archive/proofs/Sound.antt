-- What the fields of a state without a fault keep.
use Rattle.std.proofs.Common.{◌≡◌, ℕ, zero, suc, ◌+◌, ◌-◌, ◌*◌, ◌<◌, ◌≤◌, Bool, true, false, ◌&&◌, leb, List, [], ◌∷◌, ◌++◌, length, Some, None, Option, sym, refl, ap, ◌∙◌, inl, inr, add-zero, mul-le-mul_right, suc-mul, add-mul, one-mul, zero-mul, arith}
use Rattle.std.proofs.lemmas.Nat.{mul-le}
use Rattle.std.proofs.lemmas.Bool.{cases_lt, cases_eq, and_parts, leb-true}
use Rattle.archive.specs.declared.fault.Rule.{Rule}
use Rattle.archive.specs.Bits.{bits_from}
use Rattle.archive.specs.Layout.{Part, unless, rows, row, shift, linear, coupling, fill, copies, tail, size_at, rank_at, row_at}
use Rattle.archive.specs.Layout.{in_order, pairs, bits_before_fill, padding, parts_at, first_fault, state_fault}
use Rattle.archive.specs.Held.{Sound, place_of_coupling}
use Rattle.archive.proofs.First.{none-some}
use Rattle.archive.proofs.Pairs.{pairs-within}
use Rattle.archive.proofs.Steps.{cut, broken, fine}
use Rattle.archive.proofs.Whole.{few, few-pairs}

pub kept : (t : Bool) (r : Rule) → unless t r ≡ None → t ≡ true
kept true r e = refl
kept false r e = absurd (none-some r (sym e))

-- a field before others without a fault is all there and keeps its rule
module _ (b : List ℕ) (p : ℕ) (x : Part) (xs : List Part) (e : first_fault b p (x ∷ xs) ≡ None) where
  pub there : p + x.width ≤ 8 * length b
  there = elim (cases_lt (8 * length b) (p + x.width)) [
    | inl l ↦ absurd (none-some _ (sym e ∙ cut b p x xs l))
    | inr l ↦ l
  ]

  pub unbroken : x.breaks (bits_from b p x.width) ≡ None
  unbroken = go (x.breaks (bits_from b p x.width)) refl where
    go : (o : Option Rule) → x.breaks (bits_from b p x.width) ≡ o → o ≡ None
    go None i = refl
    go (Some r) i = absurd (none-some _ (sym e ∙ broken b p x xs _ refl there r i))

  pub later : first_fault b (p + x.width) xs ≡ None
  later = sym (fine b p x xs _ refl there unbroken) ∙ e

later-copies : (b : List ℕ) (p m : ℕ) (x : Part) (xs : List Part) → first_fault b p (copies m x ++ xs) ≡ None
    → first_fault b (p + m * x.width) xs ≡ None
later-copies b p zero x xs e = rw (zero-mul x.width, add-zero p) e
later-copies b p (suc m) x xs e =
    let s = suc-mul m x.width in
    let i : p + x.width + m * x.width ≡ p + suc m * x.width = omega arith in
    ap (λ q. first_fault b q xs) (sym i) ∙ later-copies b (p + x.width) m x xs (later b p x _ e)

-- m rows from row a on
module _ (b : List ℕ) (p n : ℕ) where
  rows-kept : (m a q : ℕ) (xs : List Part) → q ≡ p + 28 + a * n → first_fault b q (rows b p n a m ++ xs) ≡ None
      → (j : ℕ) → a ≤ j → j < a + m → in_order b p n (row_at b p n j) j ≡ true
  rows-kept zero a q xs i e j l g = absurd (omega arith)
  rows-kept (suc m) a q xs i e j l g =
      let s = add-mul a 1 n in
      let o = one-mul n in
      elim (cases_eq j a) [
        | inl here ↦
            let v = ap (λ t. bits_from b t n) i in
            let rule = kept (in_order b p n (bits_from b q n) a) _ (unbroken b q (row b p n a) _ e) in
            ap (λ t. in_order b p n (row_at b p n t) t) here ∙ ap (λ t. in_order b p n t a) (sym v) ∙ rule
        | inr there ↦ rows-kept m (a + 1) (q + n) xs (omega arith) (later b q (row b p n a) _ e) j (omega arith) (omega arith)
      ]

  later_rows : (m a q : ℕ) (xs : List Part) → first_fault b q (rows b p n a m ++ xs) ≡ None → first_fault b (q + m * n) xs ≡ None
  later_rows zero a q xs e = rw (zero-mul n, add-zero q) e
  later_rows (suc m) a q xs e =
      let s = suc-mul m n in
      let i : q + n + m * n ≡ q + suc m * n = omega arith in
      ap (λ t. first_fault b t xs) (sym i) ∙ later_rows m (a + 1) (q + n) xs (later b q (row b p n a) _ e)

-- the sizes, and what the fields after the header keep
in-range : (low high v : ℕ) → (leb low v && leb v high) ≡ true → (low ≤ v) × (v ≤ high)
in-range low high v e = let q = and_parts (leb low v) (leb v high) e in (leb-true low v q.0, leb-true v high q.1)

pub sound : (b : List ℕ) (p : ℕ) → state_fault b p ≡ None → Sound b p (size_at b p) (rank_at b p)
unfolding state_fault parts_at
sound b p e₀ =
    let n = size_at b p in
    let k = rank_at b p in
    let e₁ = later b p _ _ e₀ in
    let e₂ = later b (p + 6) _ _ e₁ in
    let e₃ = later b (p + 6 + 6) _ _ e₂ in
    let e₄ = later b (p + 6 + 6 + 13) _ _ e₃ in
    let at : p + 6 + 6 + 13 + 3 ≡ p + 28 = omega arith in
    let e₅ : first_fault b (p + 28) (rows b p n 0 k ++ tail b p n k) ≡ None = ap (λ t. first_fault b t (rows b p n 0 k ++ tail b p n k))
    (sym at) ∙ e₄ in
    let e₆ = later_rows b p n k 0 (p + 28) (tail b p n k) e₅ in
    let e₇ = later b (p + 28 + k * n) (shift b p n k) _ e₆ in
    let e₈ = later-copies b (p + 28 + k * n + n) k linear _ e₇ in
    let e₉ = later-copies b (p + 28 + k * n + n + k * 2) (pairs k) coupling _ e₈ in
    let end : p + 28 + k * n + n + k * 2 + pairs k * 1 ≡ p + bits_before_fill n k = omega arith in
    let e₁₀ = ap (λ t. first_fault b t (fill (p + bits_before_fill n k) ∷ [])) (sym end) ∙ e₉ in
    let zeros = in-range 0 0 (bits_from b (p + bits_before_fill n k) (padding (p + bits_before_fill n k)))
    (kept _ _ (unbroken b (p + bits_before_fill n k) (fill (p + bits_before_fill n k)) [] e₁₀)) in
    let size = in-range 1 48 n (kept _ _ (unbroken b p _ _ e₀)) in
    let rank = in-range 0 n k (kept _ _ (unbroken b (p + 6) _ _ e₁)) in
    let at₂ : p + 6 + 6 ≡ p + 12 = omega arith in
    let load = in-range 0 4096 (bits_from b (p + 6 + 6) 13) (kept _ _ (unbroken b (p + 6 + 6) _ _ e₂)) in
    record {
      some = size.0;
      few = size.1;
      fewer = rank.1;
      light = rw (sym at₂) load.1;
      rows = λ a l. rows-kept b p n k 0 (p + 28) (tail b p n k) (omega arith) e₅ a (omega arith) (omega arith);
      shift = kept _ _ (unbroken b (p + 28 + k * n) (shift b p n k) _ e₆);
      long = there b (p + bits_before_fill n k) (fill (p + bits_before_fill n k)) [] e₁₀;
      fill = omega (arith, zeros.1);
    }

pub sound-at : (b : List ℕ) (p n k : ℕ) → n ≡ size_at b p → k ≡ rank_at b p → state_fault b p ≡ None → Sound b p n k
sound-at b p n k en ek e = rw (en, ek) (sound b p e)

-- the fields are all there, and their places are small
module _ (b : List ℕ) (p n k : ℕ) (s : Sound b p n k) where
  pub rows-there : (a : ℕ) → a < k → (p + 28 + a * n + n ≤ 8 * length b) × (a * n ≤ 2304)
  rows-there a l =
      let m = add-mul a 1 n in
      let o = one-mul n in
      let h : (a + 1) * n ≤ k * n = mul-le-mul_right n (omega arith) in
      (omega (arith, s.long), mul-le a n 48 48 (omega (arith, s.few, s.fewer)) s.few)

  pub couplings-there : (a c : ℕ) → a < c → c < k
      → (place_of_coupling p n k a c + 1 ≤ 8 * length b) × (place_of_coupling p n k a c ≤ p + 4096)
  couplings-there a c l h =
      let w = pairs-within k a c l h in
      let f = few k n s.fewer s.few in
      let g = few-pairs k (k - 1) (omega (arith, s.few, s.fewer)) refl in
      (omega (arith, s.long), omega (arith, s.few, s.fewer))
