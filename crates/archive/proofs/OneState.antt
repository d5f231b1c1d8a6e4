-- Bits without a fault hold one state.
use Rattle.std.proofs.Common.{◌≡◌, ℕ, zero, suc, ◌+◌, ◌*◌, ◌%◌, ◌^◌, ◌<◌, List, None, sym, refl, ap, ◌∙◌, ap₂, inl, inr, add-zero, mod-eq_of_lt, add_comm, mul-zero, zero-add, zero-mul, arith}
use lib.Bits.{bit_and}
use Rattle.std.proofs.lemmas.Bool.{cases_lt, cases_eq}
use Rattle.quadratic.specs.Bits.{bit, inner}
use Rattle.quadratic.specs.Echelon.{row}
use Rattle.quadratic.specs.Fields.{coefficient_at}
use Rattle.quadratic.specs.Quadratic.{quad, coef, link}
use Rattle.quadratic.specs.Value.{value_at}
use Rattle.quadratic.specs.declared.phased.PhasedSpace.{PhasedSpace}
use Rattle.quadratic.proofs.Algebra.{sum_same, cancel8}
use Rattle.quadratic.proofs.Bitlaws.{bit-lt, bit-and, bit-zero, bit-pow-other}
use Rattle.quadratic.proofs.Distinct.{strings-same}
use Rattle.quadratic.proofs.Dots.{by_bits}
use Rattle.quadratic.proofs.Same.{same-phases}
use Rattle.stabilizer.specs.States.{SameState}
use Rattle.stabilizer.specs.declared.state.StabilizerState.{StabilizerState}
use Rattle.stabilizer.proofs.Same.{same-state}
use Rattle.archive.specs.Layout.{row_at, lead, state_fault}
use Rattle.archive.specs.Held.{Sound, Spans, Weighs, Holds}
use Rattle.archive.proofs.Built.{drop-same}
use Rattle.archive.proofs.Coefficients.{value-zero, value-one, value-two, coef-low, link-low, bit-both}
use Rattle.archive.proofs.Leads.{order}
use Rattle.archive.proofs.Raising.{on-pivots}
use Rattle.archive.proofs.Sound.{sound}

-- where there is no pivot there is no coefficient
module _ (s : PhasedSpace) where
  abbrev P : ℕ
  P = s.space.pivots

  -- the pivots in a power of two
  part : (q : ℕ) → bit P q ≡ 0 → bit_and (2 ^ q) P ≡ 0
  part q z = by_bits (bit_and (2 ^ q) P) 0 (λ i. bit-and (2 ^ q) P i ∙ none i ∙ sym (bit-zero i)) where
    none : (i : ℕ) → bit (2 ^ q) i * bit P i ≡ 0
    none i = elim (cases_eq i q) [
      | inl e ↦ ap (λ x. bit (2 ^ q) i * x) (ap (bit P) e ∙ z) ∙ mul-zero (bit (2 ^ q) i)
      | inr ne ↦ ap (λ x. x * bit P i) (bit-pow-other q i ne) ∙ zero-mul (bit P i)
    ]

  idle-linear : (q : ℕ) → q < 48 → bit P q ≡ 0 → coefficient_at s q ≡ 0
  idle-linear q l z =
      drop-same s.form.phase (coefficient_at s q) (coef-low s.form q)
      (sym (value-one s.form q l) ∙ s.idle (2 ^ q) ∙ ap (value_at s.form) (part q z) ∙ value-zero s.form)

  -- of two powers of two, one of them at no pivot, the other's part is left
  part-both : (k b i : ℕ) → b < k → bit P i ≡ 0 → (j : ℕ) → ((x : ℕ) → bit (2 ^ k) x + bit (2 ^ b) x ≡ bit (2 ^ i) x + bit (2 ^ j) x)
      → bit_and (2 ^ k + 2 ^ b) P ≡ bit_and (2 ^ j) P
  part-both k b i h z j e = by_bits (bit_and (2 ^ k + 2 ^ b) P) (bit_and (2 ^ j) P)
      (λ x. bit-and (2 ^ k + 2 ^ b) P x ∙ ap (λ y. y * bit P x) (bit-both k b x h ∙ e x) ∙ at x ∙ sym (bit-and (2 ^ j) P x))
    where
      at : (x : ℕ) → (bit (2 ^ i) x + bit (2 ^ j) x) * bit P x ≡ bit (2 ^ j) x * bit P x
      at x = elim (cases_eq x i) [
        | inl m ↦ ap (λ y. (bit (2 ^ i) x + bit (2 ^ j) x) * y) (ap (bit P) m ∙ z) ∙ mul-zero (bit (2 ^ i) x + bit (2 ^ j) x)
            ∙ sym (ap (λ y. bit (2 ^ j) x * y) (ap (bit P) m ∙ z) ∙ mul-zero (bit (2 ^ j) x))
        | inr ne ↦ ap (λ y. (y + bit (2 ^ j) x) * bit P x) (bit-pow-other i x ne) ∙ ap (λ y. y * bit P x) (zero-add (bit (2 ^ j) x))
      ]

  idle-link : (k b i j : ℕ) → k < 48 → b < k → bit P i ≡ 0 → i < 48 → j < 48
      → ((x : ℕ) → bit (2 ^ k) x + bit (2 ^ b) x ≡ bit (2 ^ i) x + bit (2 ^ j) x)
      → coefficient_at s b + coefficient_at s k ≡ coefficient_at s i + coefficient_at s j
      → link s.form.coupling k b ≡ 0
  idle-link k b i j l h z li lj e f =
      let q = s.form.phase in
      let v = sym (value-two s.form k b l h) ∙ s.idle (2 ^ k + 2 ^ b) ∙ ap (value_at s.form) (part-both k b i h z j e)
      ∙ sym (s.idle (2 ^ j)) ∙ value-one s.form j lj in
      left q (coefficient_at s b) (coefficient_at s k) (coefficient_at s j) (link s.form.coupling k b) (link-low s.form k b)
      (f ∙ ap (λ x. x + coefficient_at s j) (idle-linear i li z) ∙ zero-add (coefficient_at s j)) v
    where
      left : (q x y w l : ℕ) → l < 2 → x + y ≡ w → (q + x + (y + 4 * l)) % 8 ≡ (q + w) % 8 → l ≡ 0
      left q x y w l h e v =
          let t : q + x + (y + 4 * l) ≡ q + w + 4 * l = omega arith in
          let u = cancel8 (q + w) (q + w) (4 * l) 0 refl (ap (λ z. z % 8) (sym t) ∙ v ∙ ap (λ z. z % 8) (sym (add-zero (q + w)))) in
          small l h u
        where
          small : (l : ℕ) → l < 2 → 4 * l % 8 ≡ 0 % 8 → l ≡ 0
          small l h u = let m : 4 * l % 8 ≡ 4 * l = mod-eq_of_lt {n = 4 * l} {m = 8} (omega arith) in omega arith

-- forms with the same coefficients have the same values
same-quad : (Q : ℕ) (D D' : ℕ → ℕ) (J J' : ℕ → ℕ → ℕ) (c : ℕ → ℕ) (n : ℕ) → ((k : ℕ) → k < n → D k ≡ D' k)
    → ((k b : ℕ) → k < n → b < k → J k b ≡ J' k b) → quad Q D J c n ≡ quad Q D' J' c n
same-quad Q D D' J J' c zero d j = refl
same-quad Q D D' J J' c (suc n) d j =
    let row : inner (J n) c n ≡ inner (J' n) c n = sum_same (λ b. J n b * c b) (λ b. J' n b * c b) n
    (λ b l. ap (λ x. x * c b) (j n b (omega arith) l)) in
    ap₂ (λ x y. x + c n * (y + 4 * inner (J n) c n))
    (same-quad Q D D' J J' c n (λ k l. d k (omega arith)) (λ k b l h. j k b (omega arith) h)) (d n (omega arith))
    ∙ ap (λ x. quad Q D' J' c n + c n * (D' n + 4 * x)) row

module _ (b : List ℕ) (p n k : ℕ) (good : Sound b p n k) where
  abbrev at : ℕ → ℕ
  at a = lead (row_at b p n a)

  -- a pivot of the one space is a pivot of the other
  shared : (s t : PhasedSpace) → Spans b p n k s → Spans b p n k t → (q : ℕ) → bit s.space.pivots q ≡ 1 → bit t.space.pivots q ≡ 1
  shared s t v w q o = let f = v.pivots q o in ap (bit t.space.pivots) f.2
      ∙ on-pivots b p n k good t.space w.rows f.0 f.1

  module _ (s t : PhasedSpace) (v : Spans b p n k s) (w : Spans b p n k t) where
    same-pivots : s.space.pivots ≡ t.space.pivots
    same-pivots = by_bits s.space.pivots t.space.pivots (λ q.
        both (bit s.space.pivots q) (bit t.space.pivots q) (bit-lt s.space.pivots q) (bit-lt t.space.pivots q)
        (shared s t v w q) (shared t s w v q)) where
          both : (x y : ℕ) → x < 2 → y < 2 → (x ≡ 1 → y ≡ 1) → (y ≡ 1 → x ≡ 1) → x ≡ y
          both x y l m f g = elim (cases_eq x 1) [
            | inl e ↦ e ∙ sym (f e)
            | inr ne ↦ elim (cases_eq y 1) [ inl i ↦ absurd (ne (g i)) | inr ni ↦ omega arith ]
          ]

    off : (q : ℕ) → bit s.space.pivots q ≡ 0 → bit t.space.pivots q ≡ 0
    off q z = ap (λ x. bit x q) (sym same-pivots) ∙ z

    same_row : (q : ℕ) → row s.space.rows q ≡ row t.space.rows q
    same_row q = elim (cases_eq (bit s.space.pivots q) 0) [
      | inl z ↦ s.space.idle q z ∙ sym (t.space.idle q (off q z))
      | inr z ↦
          let f = v.pivots q (omega (arith, bit-lt s.space.pivots q)) in
          ap (row s.space.rows) f.2 ∙ v.rows f.0 f.1 ∙ sym (w.rows f.0 f.1) ∙ ap (row t.space.rows) (sym f.2)
    ]

    module _ (x : Weighs b p n k s) (y : Weighs b p n k t) where
      same-linear : (q : ℕ) → q < 48 → coefficient_at s q ≡ coefficient_at t q
      same-linear q l = elim (cases_eq (bit s.space.pivots q) 0) [
        | inl z ↦ idle-linear s q l z ∙ sym (idle-linear t q l (off q z))
        | inr z ↦
            let f = v.pivots q (omega (arith, bit-lt s.space.pivots q)) in
            ap (coefficient_at s) f.2 ∙ x.linear f.0 f.1 ∙ sym (y.linear f.0 f.1) ∙ ap (coefficient_at t) (sym f.2)
      ]

      same-link : (i j : ℕ) → i < 48 → j < i → link s.form.coupling i j ≡ link t.form.coupling i j
      same-link i j l h = elim (cases_eq (bit s.space.pivots i) 0) [
        | inl z ↦ idle-link s i j i j l h z l (omega arith) (λ e. refl) (add_comm _ _)
            ∙ sym (idle-link t i j i j l h (off i z) l (omega arith) (λ e. refl) (add_comm _ _))
        | inr z ↦ elim (cases_eq (bit s.space.pivots j) 0) [
          | inl u ↦ idle-link s i j j i l h u (omega arith) l (λ e. add_comm _ _) refl
              ∙ sym (idle-link t i j j i l h (off j u) (omega arith) l (λ e. add_comm _ _) refl)
          | inr u ↦
              let f = v.pivots i (omega (arith, bit-lt s.space.pivots i)) in
              let g = v.pivots j (omega (arith, bit-lt s.space.pivots j)) in
              let less : f.0 < g.0 = before f.0 g.0 f.1 g.1 (rw (sym f.2, sym g.2) h) in
              let e = x.coupling f.0 g.0 less g.1 ∙ sym (y.coupling f.0 g.0 less g.1) in
              ap₂ (link s.form.coupling) f.2 g.2 ∙ quarter _ _ e ∙ ap₂ (link t.form.coupling) (sym f.2) (sym g.2)
        ]
      ] where
        before : (a c : ℕ) → a < k → c < k → at c < at a → a < c
        before a c m o d = elim (cases_lt a c) [
          | inl r ↦ r
          | inr r ↦ elim (cases_eq a c) [
            | inl e ↦ let z = ap at e in absurd (omega arith)
            | inr ne ↦ let z = order b p n k good a m c (omega arith) in absurd (omega arith)
          ]
        ]

        quarter : (a c : ℕ) → 4 * a ≡ 4 * c → a ≡ c
        quarter a c e = omega arith

      same-value : (c : ℕ) → value_at s.form c ≡ value_at t.form c
      unfolding value_at
      same-value c =
          ap (λ q. quad q (coef s.form.odd s.form.neg) (link s.form.coupling) (bit c) 48 % 8) (x.phase ∙ sym y.phase)
          ∙ ap (λ r. r % 8) (same-quad t.form.phase (coef s.form.odd s.form.neg) (coef t.form.odd t.form.neg)
          (link s.form.coupling) (link t.form.coupling) (bit c) 48 same-linear same-link)

-- two states that the same bits hold are the same
pub one_state : (b : List ℕ) (p : ℕ) (s t : StabilizerState) → state_fault b p ≡ None → Holds b p s → Holds b p t → SameState s t
one_state b p s t e v w =
    let good = sound b p e in
    let shift = v.spans.shift ∙ sym w.spans.shift in
    let rows = λ (q : ℕ). same_row b p _ _ good s.body t.body v.spans w.spans q in
    same-state s t (v.qubits ∙ sym w.qubits) (v.weight ∙ sym w.weight)
    (same-phases s.body t.body (
      strings-same s.body.space t.body.space shift (λ q l. rows q),
      strings-same t.body.space s.body.space (sym shift) (λ q l. sym (rows q)),
    )
    (same-value b p _ _ good s.body t.body v.spans w.spans v.weighs w.weighs))
