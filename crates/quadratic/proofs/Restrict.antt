-- The strings of a space where a parity has a given value: one row goes.
use Rattle.std.proofs.Common.{◌≡◌, ℕ, suc, ◌*◌, ◌^◌, ◌<◌, ◌≤◌, sym, refl, ap, ◌∙◌, ap₂, lt_of_lt_of_le, lt_of_le_of_lt, one-mul, mul-zero, zero-mul, mul-one, arith, pow_pos, pow_mono}
use native.Mathlib.Decide.{ℕ_discrete, dec_lt}
use lib.Bits.{bit_and, bit_xor, xor_assoc, xor_self, xor_zero_l, xor_zero_r, xor_lt, and_comm, and_self, and_le_r, and_zero_l}
use lib.Count.{ones}
use lib.Pow.{pow-lt}
use Rattle.quadratic.specs.Bits.{bit, dot, RowsXor}
use Rattle.quadratic.proofs.Bitlaws.{digit, bit-lt, bits-both}
use Rattle.quadratic.proofs.Dots.{and_xor, dot-lt, dot-pow, dot-comm}
use Rattle.quadratic.proofs.Rows.{pick-lt}
use Rattle.quadratic.proofs.Lowest.{set_below, dropped, undropped, ones-drop}
use Rattle.quadratic.specs.Echelon.{row, combination, reduced}
use Rattle.quadratic.specs.Strings.{Member, Half}
use Rattle.quadratic.specs.declared.affine.AffineSpace.{AffineSpace}
use Rattle.quadratic.proofs.Linear.{Linear, linear-pick, bit-linear, dot-linear, and-linear, sum-linear, pick-linear, cancel}
use Rattle.quadratic.proofs.Laws.{Facts, comb-linear, comb-is, comb-pow, and_pow, and-twice, part_same, off-bit}
use Rattle.quadratic.proofs.Laws.{red-clean, part_off, part-on, part-dot, lead-bit, facts, holds, member, response, dot-none}

module _ (P : ℕ) (R : ℕ → ℕ) (h : ℕ) (f : Facts P R h) (l : ℕ) (part : bit_and l P ≡ l) (p : ℕ) (on : bit l p ≡ 1)
    (least : (q : ℕ) → q < p → bit l q ≡ 0)
    (R' : ℕ → ℕ) (rows : (q : ℕ) → R' q ≡ bit_xor (R q) (bit l q * R p)) (P' : ℕ) (pe : P' ≡ bit_xor P (2 ^ p))
    (b : ℕ) (small : b < 2) where
  -- p is a pivot
  pivot : bit P p ≡ 1
  pivot = part-on l P p part on

  here : (x : ℕ) → bit_and x (2 ^ p) ≡ bit x p * 2 ^ p
  here x = and_comm x (2 ^ p) ∙ and_pow p x

  sub : bit_and P P' ≡ P'
  sub = ap (bit_and P) pe ∙ and_xor P P (2 ^ p) ∙ ap₂ bit_xor (and_self P) (here P ∙ ap (λ x. x * 2 ^ p) pivot ∙ one-mul (2 ^ p)) ∙ sym pe

  gone : bit P' p ≡ 0
  gone = ap (λ x. bit x p) pe ∙ dropped P p pivot

  -- the new combination
  L : ℕ → ℕ
  L c = bit_xor (combination R (bit_and c P)) (dot l c * R p)

  L-linear : Linear L
  unfolding L
  L-linear =
      sum-linear (λ c. combination R (bit_and c P)) (λ c. dot l c * R p)
      (λ x y. ap (combination R) (and-linear P x y) ∙ comb-linear R (bit_and x P) (bit_and y P))
      (pick-linear (dot l) (dot-linear l) (dot-lt l) (R p))

  L-pow : (q : ℕ) → R' q ≡ L (2 ^ q)
  unfolding L
  L-pow q = rows q ∙ sym (ap₂ (λ x y. bit_xor x (y * R p)) (comb-pow P R h f q) (dot-pow l q))

  none : R' p ≡ 0
  none = rows p ∙ ap (λ x. bit_xor (R p) (x * R p)) on ∙ ap (bit_xor (R p)) (one-mul (R p)) ∙ xor_self (R p)

  L-part : (y : ℕ) → L (bit_and y P') ≡ L (bit_and y P)
  L-part y =
      ap (λ m. L (bit_and y m)) pe ∙ ap L (and_xor y P (2 ^ p)) ∙ L-linear (bit_and y P) (bit_and y (2 ^ p))
      ∙ ap (bit_xor (L (bit_and y P))) (ap L (here y) ∙ linear-pick L L-linear (bit y p) (2 ^ p) (bit-lt y p)
      ∙ ap (λ x. bit y p * x) (sym (L-pow p) ∙ none) ∙ mul-zero (bit y p))
      ∙ xor_zero_r (L (bit_and y P))

  within' : P' < 2 ^ 48
  within' = rw pe (xor_lt 48 P (2 ^ p) f.within (pow-lt (set_below 48 P p f.within pivot)))

  pub red-new : (y : ℕ) → reduced P' R' y ≡ bit_xor (reduced P R y) (dot l y * R p)
  unfolding L
  red-new y =
      ap (bit_xor y) (comb-is L L-linear R' L-pow (bit_and y P') (lt_of_le_of_lt (and_le_r y P') within') ∙ L-part y
      ∙ ap₂ (λ x z. bit_xor (combination R x) (z * R p)) (and-twice y P) (part-dot l P y part))
      ∙ sym (xor_assoc y (combination R (bit_and y P)) (dot l y * R p))

  low' : (q : ℕ) → R' q < 2 ^ suc q
  low' q =
      rw (rows q) (xor_lt (suc q) (R q) (bit l q * R p) (f.low q)
      (digit (λ x. bit l q ≡ x → x * R p < 2 ^ suc q) (λ z. rw zero-mul (pow_pos (suc q)))
      (λ o. rw one-mul (lt_of_lt_of_le (f.low p) (pow_mono (after o)))) (bit l q) (bit-lt l q) refl))
    where
      after : bit l q ≡ 1 → suc p ≤ suc q
      after o = elim (dec_lt q p) [ yes i ↦ let z = least q i in absurd (omega arith) | no i ↦ omega arith ]

  lead-part : (q : ℕ) → bit_and (R q) P' ≡ bit_and (2 ^ q) P'
  lead-part q = part_same (R q) (2 ^ q) P P' sub (f.lead q)

  row-off : bit_and (R p) P' ≡ 0
  row-off = lead-part p ∙ and_pow p P' ∙ ap (λ x. x * 2 ^ p) gone ∙ zero-mul (2 ^ p)

  -- adding row p changes nothing at the pivots that stay
  add-off : (x a : ℕ) → a < 2 → bit_and (bit_xor x (a * R p)) P' ≡ bit_and x P'
  add-off x a s =
      and-linear P' x (a * R p) ∙ ap (bit_xor (bit_and x P'))
      (linear-pick (λ x. bit_and x P') (and-linear P') a (R p) s ∙ ap (λ z. a * z) row-off ∙ mul-zero a) ∙ xor_zero_r (bit_and x P')

  idle' : (q : ℕ) → bit P' q ≡ 0 → R' q ≡ 0
  idle' q z =
      elim (ℕ_discrete q p) [
        | yes i ↦ ap R' i ∙ none
        | no ne ↦
            let o : bit P q ≡ 0 = sym (ap (λ x. bit x q) pe ∙ undropped P p q ne) ∙ z in
            rows q ∙ ap₂ (λ x y. bit_xor x (y * R p)) (f.idle q o) (part_off l P q part o) ∙ ap (bit_xor 0) (zero-mul (R p))
      ]

  pub new-facts : Facts P' R' (bit_xor h (b * R p))
  new-facts = record {
    within = within';
    low = low';
    lead = λ q. ap (λ x. bit_and x P') (rows q) ∙ add-off (R q) (bit l q) (bit-lt l q) ∙ lead-part q;
    idle = idle';
    inside = xor_lt 48 h (b * R p) f.inside
        (pick-lt 48 b (R p) small (lt_of_lt_of_le (f.low p) (pow_mono (set_below 48 P p f.within pivot))));
    clean = add-off h b small ∙ part_same h 0 P P' sub (f.clean ∙ sym (and_zero_l P)) ∙ and_zero_l P';
  }

  -- ---- the law

  at-pivot : (x a : ℕ) → a < 2 → bit_and x P ≡ 0 → bit (bit_xor x (a * R p)) p ≡ a
  at-pivot x a s e =
      bit-linear p x (a * R p) ∙ ap₂ bit_xor (off-bit x P p e pivot)
      (linear-pick (λ x. bit x p) (bit-linear p) a (R p) s ∙ ap (λ z. a * z) (lead-bit P R h f p pivot) ∙ mul-one a) ∙ xor_zero_l a

  parity-of : (y : ℕ) → reduced P' R' y ≡ bit_xor h (b * R p) → dot l y ≡ b
  parity-of y e =
      sym (at-pivot (reduced P R y) (dot l y) (dot-lt l y) (red-clean P R h f y)) ∙ ap (λ x. bit x p) (sym (red-new y) ∙ e)
      ∙ at-pivot h b small f.clean

  pub law-old : (y : ℕ) → reduced P' R' y ≡ bit_xor h (b * R p) → (reduced P R y ≡ h) × (dot l y ≡ b)
  law-old y e =
      let d = parity-of y e in
      (cancel (reduced P R y) h (b * R p) (ap (λ x. bit_xor (reduced P R y) (x * R p)) (sym d) ∙ sym (red-new y) ∙ e), d)

  law-new : (y : ℕ) → reduced P R y ≡ h → dot l y ≡ b → reduced P' R' y ≡ bit_xor h (b * R p)
  law-new y e d = red-new y ∙ ap₂ (λ x z. bit_xor x (z * R p)) e d

-- ---- the same over spaces

pub cut-half : (s s' : AffineSpace) (l p b : ℕ) → bit_and l s.pivots ≡ l → bit l p ≡ 1 → ((q : ℕ) → q < p → bit l q ≡ 0) → b < 2
    → RowsXor s.rows s'.rows l (row s.rows p) → s'.pivots ≡ bit_xor s.pivots (2 ^ p) → s'.shift
    ≡ bit_xor s.shift (b * row s.rows p) → Half s s' l b
cut-half s s' l p b part on least small rows pe he =
    let P = s.pivots in
    let R = row s.rows in
    let h = s.shift in
    let f = facts s in
    let old = λ (y : ℕ) (m : Member s' y). law-old P R h f l part p on least (row s'.rows) rows
    s'.pivots pe b small y (holds s' y m ∙ he) in
    record {
      old = λ y m. member s y (old y m).0;
      parity = λ y m. (old y m).1;
      kept = λ y m d. member s' y (law-new P R h f l part p on least (row s'.rows) rows s'.pivots pe b small y (holds s y m) d
          ∙ sym he);
      fewer = let e = ones-drop P p s.within (bits-both l P p (ap (λ x. bit x p) part ∙ on)).1 in omega (arith, e, ap ones pe);
    }

-- the same strings by a parity of the whole string
pub by-parity : (s s' : AffineSpace) (w l b β : ℕ) → ((p : ℕ) → bit l p ≡ dot w (row s.rows p)) → β
    ≡ bit_xor (dot w s.shift) b → Half s s' l β → Half s s' w b
by-parity s s' w l b β is e d =
    let h = dot w s.shift in
    let at = λ (y : ℕ) (m : Member s y). response s.pivots (row s.rows) s.shift (facts s) w l is y (holds s y m) in
    record {
      old = d.old;
      parity = λ y m. at y (d.old y m) ∙ ap (bit_xor h) (d.parity y m ∙ e) ∙ sym (xor_assoc h h b)
          ∙ ap (λ x. bit_xor x b) (xor_self h) ∙ xor_zero_l b;
      kept = λ y m q. d.kept y m (sym (xor_zero_l (dot l y)) ∙ ap (λ x. bit_xor x (dot l y)) (sym (xor_self h))
          ∙ xor_assoc h h (dot l y) ∙ ap (bit_xor h) (sym (at y m) ∙ q) ∙ sym e);
      fewer = d.fewer;
    }

-- no row answers: the parity is that of the shift
pub flat : (s : AffineSpace) (w l : ℕ) → ((p : ℕ) → bit l p ≡ dot w (row s.rows p)) → l ≡ 0 → (y : ℕ)
    → Member s y → dot w y ≡ dot w s.shift
flat s w l is z y m =
    response s.pivots (row s.rows) s.shift (facts s) w l is y (holds s y m)
    ∙ ap (bit_xor (dot w s.shift)) (ap (λ x. dot x y) z ∙ dot-comm 0 y ∙ dot-none y) ∙ xor_zero_r (dot w s.shift)
