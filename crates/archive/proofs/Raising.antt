-- One row more in the space.
use Rattle.std.proofs.Common.{◌≡◌, ℕ, suc, ◌+◌, ◌*◌, ◌/◌, ◌%◌, ◌^◌, ◌<◌, ◌≤◌, List, [], ◌∷◌, ◌++◌, get_or, Some, None, sym, ap, ◌∙◌, subst, ap₂, inl, inr, add-zero, one-mul, zero-mul, arith, length-append, pow_pos, below_more}
use native.Mathlib.Nat.{zero-mod}
use lib.Bits.{bit_xor, xor_zero_l, xor_zero_r, xor_shifted}
use lib.Count.{ones, ones_cat}
use lib.Pow.{pow-lt}
use Rattle.std.proofs.Math.ListN.{get_or-append}
use Rattle.std.proofs.Math.Seq.{get_or-append_seam}
use Rattle.std.proofs.lemmas.Nat.{shr_split}
use Rattle.std.proofs.lemmas.Bool.{cases_eq}
use Rattle.quadratic.specs.Bits.{bit}
use Rattle.quadratic.specs.Echelon.{row}
use Rattle.quadratic.specs.Strings.{Fitting}
use Rattle.quadratic.specs.Building.{RowAdded}
use Rattle.quadratic.specs.declared.affine.AffineSpace.{AffineSpace}
use Rattle.quadratic.specs.declared.phased.PhasedSpace.{PhasedSpace}
use Rattle.quadratic.proofs.Bitlaws.{bit-lt, bit-xor, bit-zero, bit-pow, bit-pow-other, same_low, ones-digit}
use Rattle.archive.specs.Layout.{row_at, lead}
use Rattle.archive.specs.Held.{Sound}
use Rattle.archive.specs.Reading.{Raised, Listed}
use Rattle.archive.proofs.Leads.{lead-on, lead-most, lead-only, row-pos, row_low, row-lead, row_apart, order}

-- one set bit more below all others
ones-under : (x p : ℕ) → ((q : ℕ) → bit x q ≡ 1 → p < q) → ones (bit_xor x (2 ^ p)) ≡ ones x + 1
ones-under x p h =
    let a = x / 2 ^ suc p in
    let none : x % 2 ^ suc p ≡ 0 = same_low (suc p) x 0 (λ i l. zero_bit i (omega arith) ∙ sym (bit-zero i)) ∙ zero-mod (2 ^ suc p) in
    let whole : x ≡ a * 2 ^ suc p = sym (shr_split x (suc p)) ∙ ap (λ r. a * 2 ^ suc p + r) none ∙ add-zero (a * 2 ^ suc p) in
    let less : 2 ^ p < 2 ^ suc p = pow-lt (omega arith) in
    let one : ones (2 ^ p) ≡ 1 = ap ones (sym (one-mul (2 ^ p)) ∙ sym (add-zero (1 * 2 ^ p))) ∙ ones_cat p 1 0 (pow_pos p)
    ∙ ap₂ ◌+◌ (ones-digit 1 (omega arith)) (ones-digit 0 (omega arith)) in
    let old : ones x ≡ ones a = ap ones (whole ∙ sym (add-zero (a * 2 ^ suc p))) ∙ ones_cat (suc p) a 0 (pow_pos (suc p))
    ∙ ap (λ i. ones a + i) (ones-digit 0 (omega arith)) ∙ add-zero (ones a) in
    ap (λ y. ones (bit_xor y (2 ^ p))) whole ∙ ap ones (xor_shifted a (suc p) (2 ^ p) less) ∙ ones_cat (suc p) a (2 ^ p) less
    ∙ ap₂ ◌+◌ (sym old) one
  where
    zero_bit : (i : ℕ) → i ≤ p → bit x i ≡ 0
    zero_bit i l = elim (cases_eq (bit x i) 0) [ inl z ↦ z | inr z ↦ let g = h i (omega (arith, bit-lt x i)) in absurd (omega arith) ]

module _ (b : List ℕ) (p n k : ℕ) (good : Sound b p n k) (a : ℕ) (l : a < k) (s : PhasedSpace) (w : Raised b p n a s) where
  abbrev v : ℕ
  v = row_at b p n a

  off-pivot : (q : ℕ) → bit s.space.pivots q ≡ 1 → lead v < q
  off-pivot q e = let f = w.pivots q e in rw f.2 (order b p n k good a l f.0 f.1)

  free-there : (q : ℕ) → bit (row s.space.rows q) (lead v) ≡ 0
  free-there q = elim (cases_eq (bit s.space.pivots q) 0) [
    | inl z ↦ ap (λ x. bit x (lead v)) (s.space.idle q z) ∙ bit-zero (lead v)
    | inr z ↦
        let o : bit s.space.pivots q ≡ 1 = omega (arith, bit-lt s.space.pivots q) in
        let f = w.pivots q o in
        ap (λ x. bit x (lead v)) (ap (row s.space.rows) f.2 ∙ w.rows f.0 f.1) ∙ row_apart b p n k good a l f.0 f.1
  ]

  pub fitting : Fitting s.space v (lead v)
  fitting = record {
    place = omega (arith, row-lead b p n k good a l, good.few);
    on = lead-on v (row-pos b p n k good a l) (row_low b p n k good a l);
    most = lead-most v (row-pos b p n k good a l) (row_low b p n k good a l);
    below = off-pivot;
    free = free-there;
    clear = ap (λ x. bit x (lead v)) w.shift ∙ bit-zero (lead v);
  }

  empty : row s.space.rows (lead v) ≡ 0
  empty = s.space.idle (lead v) (elim (cases_eq (bit s.space.pivots (lead v)) 0) [
    | inl z ↦ z
    | inr z ↦ let h = off-pivot (lead v) (omega (arith, bit-lt s.space.pivots (lead v))) in absurd (omega arith)
  ])

  -- the row is not refused
  pub granted : (x : ℕ) (s' : PhasedSpace) → x ≡ v → RowAdded None s s' x → ⊥
  granted x s' e h = (subst (λ t. RowAdded None s s' t) e h).0.1 (lead v) fitting

  module _ (q x : ℕ) (s' : PhasedSpace) (ex : x ≡ v) (h₀ : RowAdded (Some q) s s' x) where
    h : RowAdded (Some q) s s' v
    h = subst (λ t. RowAdded (Some q) s s' t) ex h₀

    same-lead : q ≡ lead v
    same-lead = lead-only v (row-pos b p n k good a l) (row_low b p n k good a l) q h.0.0.on h.0.0.most

    new_row : (t : ℕ) → row s'.space.rows t ≡ bit_xor (row s.space.rows t) (bit (2 ^ lead v) t * v)
    new_row t = h.0.2 t ∙ ap (λ i. bit_xor (row s.space.rows t) (bit (2 ^ i) t * v)) same-lead

    new-pivot : (t : ℕ) → bit s'.space.pivots t ≡ 1 → (j : ℕ) × (j < a + 1) × (t ≡ lead (row_at b p n j))
    new-pivot t e = elim (cases_eq t (lead v)) [
      | inl here ↦ (a, omega arith, here)
      | inr there ↦
          let z = bit-pow-other (lead v) t there in
          let x = ap (λ m. bit m t) (h.0.1 ∙ ap (λ i. bit_xor s.space.pivots (2 ^ i)) same-lead)
          ∙ bit-xor s.space.pivots (2 ^ lead v) t in
          let o : bit s.space.pivots t ≡ 1 = omega (arith, bit-lt s.space.pivots t) in
          let f = w.pivots t o in (f.0, omega (arith, f.1), f.2)
    ]

    pub raised : Raised b p n (a + 1) s'
    raised = record {
      count = ap ones (h.0.1 ∙ ap (λ i. bit_xor s.space.pivots (2 ^ i)) same-lead)
          ∙ ones-under s.space.pivots (lead v) off-pivot ∙ ap (λ i. i + 1) w.count;
      pivots = new-pivot;
      rows = below_more _ _
          (λ j i. let o = order b p n k good a l j i in
          new_row (lead (row_at b p n j))
          ∙ ap (λ x. bit_xor (row s.space.rows (lead (row_at b p n j))) (x * v))
          (bit-pow-other (lead v) (lead (row_at b p n j)) (omega arith))
          ∙ rw (zero-mul v, xor_zero_r (row s.space.rows (lead (row_at b p n j)))) (w.rows j i))
          (new_row (lead v) ∙ ap₂ (λ x y. bit_xor x (y * v)) empty (bit-pow (lead v)) ∙ rw (one-mul v) (xor_zero_l v));
      shift = h.0.3 ∙ w.shift;
    }

    pub listed_more : (leads leads' : List ℕ) → leads' ≡ leads ++ q ∷ [] → Listed b p n a leads → Listed b p n (a + 1) leads'
    listed_more leads leads' e t =
        let last = subst (λ i. get_or (leads ++ q ∷ []) i 0 ≡ q) t.places (get_or-append_seam leads q [] 0) in
        rw e (record {
          places = length-append leads (q ∷ []) ∙ ap (λ i. i + 1) t.places;
          listed = below_more _ _ (λ j i. get_or-append leads (q ∷ []) 0 j (omega (arith, t.places)) ∙ t.listed j i) (last ∙ same-lead);
        })

-- the leads of the rows are pivots
pub on-pivots : (b : List ℕ) (p n k : ℕ) → Sound b p n k → (s : AffineSpace)
    → ((j : ℕ) → j < k → row s.rows (lead (row_at b p n j)) ≡ row_at b p n j) → (j : ℕ) → j < k
    → bit s.pivots (lead (row_at b p n j)) ≡ 1
on-pivots b p n k good s rows j l =
    let q = lead (row_at b p n j) in
    elim (cases_eq (bit s.pivots q) 0) [
      | inl z ↦ let e = sym (rows j l) ∙ s.idle q z in absurd (omega (arith, row-pos b p n k good j l))
      | inr z ↦ omega (arith, bit-lt s.pivots q)
    ]
