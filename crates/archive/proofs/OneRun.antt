-- A state stands in one run of bytes.
use Rattle.std.proofs.Common.{◌≡◌, ℕ, zero, suc, ◌+◌, ◌-◌, ◌*◌, ◌/◌, ◌^◌, ◌<◌, ◌≤◌, List, length, None, sym, ap, ◌∙◌, subst, ap₂, inl, inr, add-zero, suc-mul, zero-add, zero-mul, arith}
use lib.Count.{ones}
use Rattle.std.proofs.lemmas.Bool.{cases_lt, cases_eq}
use Rattle.quadratic.specs.Echelon.{row}
use Rattle.quadratic.specs.Fields.{coefficient_at, coupling_between}
use Rattle.quadratic.specs.declared.phased.PhasedSpace.{PhasedSpace}
use Rattle.stabilizer.specs.declared.state.StabilizerState.{StabilizerState}
use Rattle.archive.specs.Bits.{bits_from}
use Rattle.archive.specs.Layout.{row_at, lead, size_at, bits_before_fill, padded, padding, pairs, alone_fault}
use Rattle.archive.specs.Held.{Sound, Spans, Weighs, Holds, linear_place, place_of_coupling, pairs_before}
use Rattle.archive.specs.Writes.{length_of, RunOf}
use Rattle.archive.proofs.Alone.{alone-end}
use Rattle.archive.proofs.Laws.{bits-split, bits_none, bytes_same}
use Rattle.archive.proofs.Leads.{order}
use Rattle.archive.proofs.Pairs.{pairs-split}
use Rattle.archive.proofs.Raising.{on-pivots}
use Rattle.archive.proofs.Sound.{sound-at}
use Rattle.archive.proofs.Whole.{end_is}

-- two falling runs of the same numbers are the same
module _ (f g : ℕ → ℕ) (k : ℕ) (down : (a : ℕ) → a < k → (c : ℕ) → c < a → f a < f c) (fall : (a : ℕ) → a < k → (c : ℕ) → c < a → g a < g c)
    (into : (a : ℕ) → a < k → (c : ℕ) × (c < k) × (f a ≡ g c)) (back : (a : ℕ) → a < k → (c : ℕ) × (c < k) × (g a ≡ f c)) where
  not-above : (f g : ℕ → ℕ) → ((a : ℕ) → a < k → (c : ℕ) → c < a → f a < f c) → ((a : ℕ) → a < k → (c : ℕ) → c < a → g a < g c)
      → (a : ℕ) → a < k → ((j : ℕ) → j < a → f j ≡ g j) → (c : ℕ) → c < k → f a ≡ g c → f a ≤ g a
  not-above f g down fall a l same c m e = elim (cases_lt c a) [
    | inl h ↦ let x = down a l c h in let y = same c h in absurd (omega arith)
    | inr h ↦ elim (cases_eq c a) [
      | inl i ↦ let y = ap g i in omega arith
      | inr i ↦ let y = fall c m a (omega arith) in omega arith
    ]
  ]

  same_runs : (m : ℕ) → m ≤ k → (j : ℕ) → j < m → f j ≡ g j
  same_runs zero h j l = absurd (omega arith)
  same_runs (suc m) h j l =
      let before = same_runs m (omega arith) in
      elim (cases_eq j m) [
        | inl e ↦
            let i = into m h in
            let o = back m h in
            let low = not-above f g down fall m h before i.0 i.1 i.2 in
            let high = not-above g f fall down m h (λ j l. sym (before j l)) o.0 o.1 o.2 in
            let here : f m ≡ g m = omega arith in
            ap f e ∙ here ∙ ap g (sym e)
        | inr ne ↦ before j (omega arith)
      ]

-- the bits of two runs agree up to a place
abbrev Same : List ℕ → List ℕ → ℕ → Type 0
Same b d q = bits_from b 0 q ≡ bits_from d 0 q

further : (b d : List ℕ) (p w : ℕ) → Same b d p → bits_from b p w ≡ bits_from d p w → Same b d (p + w)
further b d p w e f =
    simp zero-add at (bits-split b 0 p w) ∙ ap₂ (λ x y. x * 2 ^ w + y) e f ∙ sym (simp zero-add at (bits-split d 0 p w))

module _ (b d : List ℕ) (n k : ℕ) (good : Sound b 0 n k) (fine : Sound d 0 n k) (s : PhasedSpace)
    (v : Spans b 0 n k s) (w : Spans d 0 n k s) (x : Weighs b 0 n k s) (y : Weighs d 0 n k s) where
  same-lead : (a : ℕ) → a < k → lead (row_at b 0 n a) ≡ lead (row_at d 0 n a)
  same-lead = same_runs (λ a. lead (row_at b 0 n a)) (λ a. lead (row_at d 0 n a)) k (order b 0 n k good) (order d 0 n k fine)
      (λ a l. w.pivots _ (on-pivots b 0 n k good s.space v.rows a l))
      (λ a l. v.pivots _ (on-pivots d 0 n k fine s.space w.rows a l)) k (omega arith)

  same_row : (a : ℕ) → a < k → row_at b 0 n a ≡ row_at d 0 n a
  same_row a l = sym (v.rows a l) ∙ ap (row s.space.rows) (same-lead a l) ∙ w.rows a l

  rows_same : Same b d 28 → (a : ℕ) → a ≤ k → Same b d (28 + a * n)
  rows_same e zero h = rw (zero-mul n) e
  rows_same e (suc a) h =
      let m = suc-mul a n in
      let at : 28 + suc a * n ≡ 28 + a * n + n = omega arith in
      rw at (further b d (28 + a * n) n (rows_same e a (omega arith)) (same_row a h))

  shift_same : Same b d 28 → Same b d (28 + k * n + n)
  shift_same e = further b d (28 + k * n) n (rows_same e k (omega arith)) (sym v.shift ∙ w.shift)

  linear-same : Same b d 28 → (a : ℕ) → a ≤ k → Same b d (linear_place 0 n k a)
  linear-same e zero h = let at : linear_place 0 n k 0 ≡ 28 + k * n + n = omega arith in rw at (shift_same e)
  linear-same e (suc a) h =
      let at : linear_place 0 n k (suc a) ≡ linear_place 0 n k a + 2 = omega arith in
      rw at (further b d (linear_place 0 n k a) 2 (linear-same e a (omega arith))
      (half _ _ (sym (x.linear a h) ∙ ap (coefficient_at s) (same-lead a h) ∙ y.linear a h)))
    where
      half : (i j : ℕ) → 2 * i ≡ 2 * j → i ≡ j
      half i j e = omega arith

  -- the couplings of row a with the next m rows
  row_same : (a : ℕ) → a < k → Same b d (linear_place 0 n k k + pairs_before k a) → (m : ℕ) → m ≤ k - suc a
      → Same b d (linear_place 0 n k k + pairs_before k a + m)
  row_same a l e zero h = rw (add-zero (linear_place 0 n k k + pairs_before k a)) e
  row_same a l e (suc m) h =
      let c = suc a + m in
      let gap : c - suc a ≡ m = omega arith in
      let q = linear_place 0 n k k + pairs_before k a + m in
      let at : linear_place 0 n k k + pairs_before k a + suc m ≡ q + 1 = omega arith in
      let place : place_of_coupling 0 n k a c ≡ q = omega arith in
      let field : bits_from b (place_of_coupling 0 n k a c) 1 ≡ bits_from d (place_of_coupling 0 n k a c) 1 =
      quarter _ _ (sym (x.coupling a c (omega arith) (omega arith)) ∙ ap₂ (coupling_between s) (same-lead a l) (same-lead c (omega arith))
      ∙ y.coupling a c (omega arith) (omega arith)) in
      rw at (further b d q 1 (row_same a l e m (omega arith)) (ap (λ t. bits_from b t 1) (sym place) ∙ field
      ∙ ap (λ t. bits_from d t 1) place))
    where
      quarter : (i j : ℕ) → 4 * i ≡ 4 * j → i ≡ j
      quarter i j e = omega arith

  couplings-same : Same b d 28 → (a : ℕ) → a ≤ k → Same b d (linear_place 0 n k k + pairs_before k a)
  couplings-same e zero h = rw (add-zero (linear_place 0 n k k)) (linear-same e k (omega arith))
  couplings-same e (suc a) h =
      let at : linear_place 0 n k k + pairs_before k (suc a) ≡ linear_place 0 n k k + pairs_before k a + (k - suc a) = omega arith in
      rw at (row_same a h (couplings-same e a (omega arith)) (k - suc a) (omega arith))

  whole_same : Same b d 28 → Same b d (padded (bits_before_fill n k))
  whole_same e =
      let z : k - k ≡ 0 = omega arith in
      let s = ap pairs z in
      let all = pairs-split k k (omega arith) in
      let at : linear_place 0 n k k + pairs_before k k ≡ bits_before_fill n k = omega arith in
      let here = zero-add (bits_before_fill n k) in
      let zeros = ap (λ t. bits_from b t (padding t)) (sym here) ∙ good.fill ∙ sym fine.fill ∙ ap (λ t. bits_from d t (padding t)) here in
      further b d (bits_before_fill n k) (padding (bits_before_fill n k)) (subst (Same b d) at (couplings-same e k (omega arith))) zeros

-- the fields by the numbers of the state
module _ (b : List ℕ) (s : StabilizerState) (e : alone_fault b ≡ None) (h : Holds b 0 s) where
  abbrev n : ℕ
  n = s.qubits

  abbrev k : ℕ
  k = ones s.body.space.pivots

  pub good-at : Sound b 0 n k
  good-at = sound-at b 0 n k h.qubits h.spans.count (alone-end b e).0

  pub spans-at : Spans b 0 n k s.body
  spans-at = subst (λ m. Spans b 0 m k s.body) (sym h.qubits)
      (subst (λ j. Spans b 0 (size_at b 0) j s.body) (sym h.spans.count) h.spans)

  pub weighs-at : Weighs b 0 n k s.body
  weighs-at = subst (λ m. Weighs b 0 m k s.body) (sym h.qubits)
      (subst (λ j. Weighs b 0 (size_at b 0) j s.body) (sym h.spans.count) h.weighs)

  pub length_at : 8 * length b ≡ padded (bits_before_fill n k)
  length_at = (alone-end b e).1 ∙ end_is b 0 n k h.qubits h.spans.count ∙ ap padded (zero-add (bits_before_fill n k))

-- two runs of bytes that hold the same state are the same
pub one-run : (s : StabilizerState) (b d : List ℕ) → RunOf s b → RunOf s d → b ≡ d
one-run s b d x y =
    let h = x.holds in
    let g = y.holds in
    let size = sym h.qubits ∙ g.qubits in
    let rank = sym h.spans.count ∙ g.spans.count in
    let weight = sym h.weight ∙ g.weight in
    let phase = sym h.weighs.phase ∙ g.weighs.phase in
    let none = bits_none b 0 ∙ sym (bits_none d 0) in
    let front = further b d 25 3 (further b d 12 13 (further b d 6 6 (further b d 0 6 none size) rank) weight) phase in
    let whole = whole_same b d s.qubits (ones s.body.space.pivots) (good-at b s x.sound h) (good-at d s y.sound g) s.body
    (spans-at b s x.sound h) (spans-at d s y.sound g) (weighs-at b s x.sound h) (weighs-at d s y.sound g) front in
    let long = length_at b s x.sound h in
    let size_same : length b ≡ length d = eighth (length b) (length d) (long ∙ sym (length_at d s y.sound g)) in
    bytes_same b d size_same x.bytes y.bytes (rw long whole)
  where
    eighth : (i j : ℕ) → 8 * i ≡ 8 * j → i ≡ j
    eighth i j e = omega arith

pub length-of : (b : List ℕ) (s : StabilizerState) → alone_fault b ≡ None → Holds b 0 s → length b ≡ length_of s
length-of b s e h = eighth (length b) _ (length_at b s e h) where
  eighth : (i j : ℕ) → 8 * i ≡ j → i ≡ j / 8
  eighth i j e = omega arith
