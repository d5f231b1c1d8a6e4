-- The lead of a number, and the leads of rows in order.
use Rattle.std.proofs.Common.{◌≡◌, ℕ, zero, suc, ◌+◌, ◌-◌, ◌*◌, ◌/◌, ◌%◌, ◌^◌, ◌<◌, ◌≤◌, true, eqb, ltb, List, sym, ap, ◌∙◌, inl, inr, pow-suc, arith, pow_mono, pow_pos}
use lib.Count.{leading_top}
use Rattle.std.proofs.lemmas.Bool.{cases_lt, cases_eq, and_parts, ltb-true, eqb-true}
use Rattle.quadratic.specs.Bits.{bit}
use Rattle.quadratic.proofs.Bitlaws.{bit_past, bit-top}
use Rattle.archive.specs.Layout.{row_at, lead, descends, apart, off_leads}
use Rattle.archive.specs.Held.{Sound}
use Rattle.archive.proofs.Laws.{bits_below}

-- the lead is the whole logarithm
pub lead_log : (v r : ℕ) → v < 2 ^ 64 → 2 ^ r ≤ v → v < 2 * 2 ^ r → r ≡ lead v
lead_log v r small least most =
    let t = leading_top 64 v (omega (arith, pow_pos r)) small in
    let e : lead v ≡ t.0 = omega (arith, t.1) in
    elim (cases_lt r t.0) [
      | inl l ↦ let m : 2 ^ suc r ≤ 2 ^ t.0 = pow_mono l in absurd (omega (arith, t.2, pow-suc 2 r))
      | inr g ↦ elim (cases_lt t.0 r) [
        | inl l ↦ let m : 2 ^ suc t.0 ≤ 2 ^ r = pow_mono l in absurd (omega (arith, t.3))
        | inr h ↦ omega arith
      ]
    ]

-- the highest bit of a number of 48 bits
module _ (v : ℕ) (pos : 0 < v) (low : v < 2 ^ 48) where
  top : (2 ^ lead v ≤ v) × (v < 2 ^ suc (lead v))
  top =
      let t = leading_top 64 v pos (omega arith) in
      let e : lead v ≡ t.0 = omega (arith, t.1) in
      rw e (t.2, t.3)

  pub lead-most : v < 2 ^ suc (lead v)
  lead-most = top.1

  pub lead-on : bit v (lead v) ≡ 1
  lead-on =
      let s = pow-suc 2 (lead v) in
      let t = top in
      let e : 2 ^ lead v + (v - 2 ^ lead v) ≡ v = omega arith in
      ap (λ x. bit x (lead v)) (sym e) ∙ bit-top (lead v) (v - 2 ^ lead v) (omega arith)

  lead_low : (n : ℕ) → v < 2 ^ n → lead v < n
  lead_low n h = elim (cases_lt (lead v) n) [
    | inl l ↦ l
    | inr g ↦ let m : 2 ^ n ≤ 2 ^ lead v = pow_mono g in absurd (omega (arith, top.0))
  ]

  -- a highest bit is the lead
  pub lead-only : (q : ℕ) → bit v q ≡ 1 → v < 2 ^ suc q → q ≡ lead v
  lead-only q on most =
      elim (cases_lt q (lead v)) [
        | inl l ↦ let m : 2 ^ suc q ≤ 2 ^ lead v = pow_mono l in absurd (omega (arith, top.0))
        | inr g ↦ elim (cases_lt (lead v) q) [
          | inl l ↦
              let m : 2 ^ suc (lead v) ≤ 2 ^ q = pow_mono l in
              let z = bit_past q v q (omega (arith, top.1)) (omega arith) in absurd (omega arith)
          | inr h ↦ omega arith
        ]
      ]

-- what the rule of each test says at each row before
apart-at : (b : List ℕ) (p n t a : ℕ) → apart b p n t a ≡ true → (j : ℕ) → j < a → bit (row_at b p n j) t ≡ 0
unfolding bit
apart-at b p n t zero e j l = absurd (omega arith)
apart-at b p n t (suc a) e j l =
    let q = and_parts (eqb (row_at b p n a / 2 ^ t % 2) 0) (apart b p n t a) e in
    elim (cases_eq j a) [
      | inl here ↦ ap (λ i. row_at b p n i / 2 ^ t % 2) here ∙ eqb-true _ 0 q.0
      | inr there ↦ apart-at b p n t a q.1 j (omega arith)
    ]

pub off_at : (b : List ℕ) (p n v a : ℕ) → off_leads b p n v a ≡ true → (j : ℕ) → j < a → bit v (lead (row_at b p n j)) ≡ 0
unfolding bit
off_at b p n v zero e j l = absurd (omega arith)
off_at b p n v (suc a) e j l =
    let q = and_parts (eqb (v / 2 ^ lead (row_at b p n a) % 2) 0) (off_leads b p n v a) e in
    elim (cases_eq j a) [
      | inl here ↦ ap (λ i. v / 2 ^ lead (row_at b p n i) % 2) here ∙ eqb-true _ 0 q.0
      | inr there ↦ off_at b p n v a q.1 j (omega arith)
    ]

module _ (b : List ℕ) (p n k : ℕ) (s : Sound b p n k) where
  module _ (a : ℕ) (l : a < k) where
    rule : (ltb 0 (row_at b p n a) ≡ true) × (descends b p n (row_at b p n a) a ≡ true) × (apart b p n (lead (row_at b p n a)) a ≡ true)
    rule =
        let q = and_parts (ltb 0 (row_at b p n a)) _ (s.rows a l) in
        let r = and_parts (descends b p n (row_at b p n a) a) _ q.1 in
        (q.0, r.0, r.1)

    pub row-pos : 0 < row_at b p n a
    row-pos = ltb-true _ _ rule.0

    pub row_low : row_at b p n a < 2 ^ 48
    row_low = let h = bits_below b (p + 28 + a * n) n in let m : 2 ^ n ≤ 2 ^ 48 = pow_mono s.few in omega arith

    pub row-lead : lead (row_at b p n a) < n
    row-lead = lead_low _ row-pos row_low n (bits_below b (p + 28 + a * n) n)

    pub row_apart : (j : ℕ) → j < a → bit (row_at b p n j) (lead (row_at b p n a)) ≡ 0
    row_apart = apart-at b p n _ a rule.2

  -- the leads fall
  pub order : (a : ℕ) → a < k → (j : ℕ) → j < a → lead (row_at b p n a) < lead (row_at b p n j)
  order zero l j h = absurd (omega arith)
  order (suc a) l j h =
      let step = ltb-true _ _ (rule (suc a) l).1 in
      elim (cases_eq j a) [
        | inl here ↦ rw here step
        | inr there ↦ let m = order a (omega arith) j (omega arith) in omega arith
      ]
