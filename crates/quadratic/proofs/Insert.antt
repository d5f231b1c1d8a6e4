-- One direction more: a new row, whose pivot goes from the others.
use Rattle.std.proofs.Common.{◌≡◌, ℕ, suc, ◌*◌, ◌^◌, ◌<◌, ◌≤◌, ◌⊎◌, sym, refl, ap, ◌∙◌, ap₂, inl, inr, lt_of_lt_of_le, lt_of_le_of_lt, one-mul, mul-zero, zero-mul, mul-one, arith, pow_pos, pow_mono}
use native.Mathlib.Decide.{ℕ_discrete, dec_lt}
use lib.Bits.{bit_and, bit_xor, xor_assoc, xor_comm, xor_self, xor_zero_l, xor_zero_r, xor_lt, and_comm, and_self, and_le_r}
use lib.Pow.{pow-lt}
use Rattle.quadratic.specs.Bits.{bit, RowsXor}
use Rattle.quadratic.proofs.Bitlaws.{digit, digit₂, bit-lt, bit-and, bit-zero, bit-pow, bit-pow-other, bit_past}
use Rattle.quadratic.proofs.Dots.{and_assoc, and_xor, dot-pow, dot-comm}
use Rattle.quadratic.proofs.Rows.{pick-lt}
use Rattle.quadratic.specs.Echelon.{row, combination, reduced}
use Rattle.quadratic.specs.Strings.{Doubled}
use Rattle.quadratic.specs.declared.affine.AffineSpace.{AffineSpace}
use Rattle.quadratic.proofs.Linear.{Linear, linear-pick, bit-linear, and-linear, sum-linear, pick-linear, pick-xor, back}
use Rattle.quadratic.proofs.Linear.{cancel}
use Rattle.quadratic.proofs.Laws.{Facts, comb-linear, comb-is, comb-pow, and_pow, off-bit, red-linear, red-keep, facts, holds}
use Rattle.quadratic.proofs.Laws.{member}

bit-swap : (p q : ℕ) → bit (2 ^ q) p ≡ bit (2 ^ p) q
bit-swap p q = sym (dot-pow (2 ^ q) p) ∙ dot-comm (2 ^ q) (2 ^ p) ∙ dot-pow (2 ^ p) q

module _ (P : ℕ) (R : ℕ → ℕ) (h : ℕ) (f : Facts P R h) (g p : ℕ) (top : bit g p ≡ 1) (most : g < 2 ^ suc p)
    (place : p < 48) (off : bit_and g P ≡ 0)
    (l : ℕ) (is : (q : ℕ) → bit l q ≡ bit_xor (bit (R q) p) (bit (2 ^ p) q))
    (R' : ℕ → ℕ) (rows : (q : ℕ) → R' q ≡ bit_xor (R q) (bit l q * g)) (P' : ℕ) (pe : P' ≡ bit_xor P (2 ^ p)) where
  -- z without its bit p, by g
  pub rid : ℕ → ℕ
  rid z = bit_xor z (bit z p * g)

  rid-linear : Linear rid
  unfolding rid
  rid-linear = sum-linear (λ z. z) (λ z. bit z p * g) (λ x y. refl) (pick-linear (λ z. bit z p) (bit-linear p) (λ z. bit-lt z p) g)

  rid-g : rid g ≡ 0
  unfolding rid
  rid-g = ap (λ b. bit_xor g (b * g)) top ∙ ap (bit_xor g) (one-mul g) ∙ xor_self g

  free : bit P p ≡ 0
  free = digit (λ b. bit P p ≡ b → b ≡ 0) (λ z. refl) (λ o. let z = off-bit g P p off o in absurd (omega arith)) (bit P p) (bit-lt P p) refl

  here : (x : ℕ) → bit_and x (2 ^ p) ≡ bit x p * 2 ^ p
  here x = and_comm x (2 ^ p) ∙ and_pow p x

  split : (x : ℕ) → bit_and x P' ≡ bit_xor (bit_and x P) (bit x p * 2 ^ p)
  split x = ap (bit_and x) pe ∙ and_xor x P (2 ^ p) ∙ ap (bit_xor (bit_and x P)) (here x)

  sup : bit_and P' P ≡ P
  sup = and_comm P' P ∙ split P ∙ ap₂ (λ x b. bit_xor x (b * 2 ^ p)) (and_self P) free ∙ ap (bit_xor P) (zero-mul (2 ^ p)) ∙ xor_zero_r P

  now_on : bit P' p ≡ 1
  now_on = ap (λ x. bit x p) pe ∙ bit-linear p P (2 ^ p) ∙ ap₂ bit_xor free (bit-pow p)

  -- g more changes no old pivot
  add-off : (x a : ℕ) → a < 2 → bit_and (bit_xor x (a * g)) P ≡ bit_and x P
  add-off x a s =
      and-linear P x (a * g) ∙ ap (bit_xor (bit_and x P))
      (linear-pick (λ x. bit_and x P) (and-linear P) a g s ∙ ap (λ z. a * z) off ∙ mul-zero a) ∙ xor_zero_r (bit_and x P)

  add-on : (x a : ℕ) → a < 2 → bit (bit_xor x (a * g)) p ≡ bit_xor (bit x p) a
  add-on x a s = bit-linear p x (a * g)
      ∙ ap (bit_xor (bit x p)) (linear-pick (λ x. bit x p) (bit-linear p) a g s ∙ ap (λ z. a * z) top ∙ mul-one a)

  -- ---- the new combination

  L : ℕ → ℕ
  L c = bit_xor (rid (combination R (bit_and c P))) (bit c p * g)

  L-linear : Linear L
  unfolding L
  L-linear =
      sum-linear (λ c. rid (combination R (bit_and c P))) (λ c. bit c p * g)
      (λ x y. ap rid (ap (combination R) (and-linear P x y) ∙ comb-linear R (bit_and x P) (bit_and y P))
      ∙ rid-linear (combination R (bit_and x P)) (combination R (bit_and y P)))
      (pick-linear (λ c. bit c p) (bit-linear p) (λ c. bit-lt c p) g)

  L-pow : (q : ℕ) → R' q ≡ L (2 ^ q)
  unfolding L rid
  L-pow q =
      let a = bit (R q) p in
      let b = bit (2 ^ p) q in
      rows q ∙ ap (λ b. bit_xor (R q) (b * g)) (is q) ∙ ap (bit_xor (R q)) (pick-xor a b g (bit-lt (R q) p) (bit-lt (2 ^ p) q))
      ∙ sym (xor_assoc (R q) (a * g) (b * g))
      ∙ sym (ap₂ (λ x b. bit_xor (rid x) (b * g)) (comb-pow P R h f q) (bit-swap p q))

  within' : P' < 2 ^ 48
  within' = rw pe (xor_lt 48 P (2 ^ p) f.within (pow-lt place))

  pub red-new : (y : ℕ) → reduced P' R' y ≡ rid (reduced P R y)
  unfolding L rid
  red-new y =
      let k = combination R (bit_and y P) in
      ap (bit_xor y) (comb-is L L-linear R' L-pow (bit_and y P') (lt_of_le_of_lt (and_le_r y P') within')
      ∙ ap₂ (λ x b. bit_xor (rid (combination R x)) (b * g)) (and_assoc y P' P ∙ ap (bit_and y) sup)
      (bit-and y P' p ∙ ap (λ b. bit y p * b) now_on ∙ mul-one (bit y p)))
      ∙ ap (bit_xor y) (xor_comm (rid k) (bit y p * g)) ∙ sym (xor_assoc y (bit y p * g) (rid k)) ∙ sym (rid-linear y k)

  low' : (q : ℕ) → R' q < 2 ^ suc q
  low' q =
      rw (rows q) (xor_lt (suc q) (R q) (bit l q * g) (f.low q)
      (digit (λ x. bit l q ≡ x → x * g < 2 ^ suc q) (λ z. rw zero-mul (pow_pos (suc q)))
      (λ o. rw one-mul (lt_of_lt_of_le most (pow_mono (after o)))) (bit l q) (bit-lt l q) refl))
    where
      after : bit l q ≡ 1 → suc p ≤ suc q
      after o =
          elim (dec_lt q p) [
            | yes i ↦
                let z : bit l q ≡ 0 = is q
                ∙ ap₂ bit_xor (bit_past (suc q) (R q) p (f.low q) (omega arith)) (bit-pow-other p q (omega arith)) in
                absurd (omega arith)
            | no i ↦ omega arith
          ]

  idle' : (q : ℕ) → bit P' q ≡ 0 → R' q ≡ 0
  idle' q z =
      elim (ℕ_discrete q p) [
        | yes i ↦ let o = ap (bit P') i ∙ now_on in absurd (omega arith)
        | no ne ↦
            let o : bit P q ≡ 0 = sym (xor_zero_r (bit P q)) ∙ ap (bit_xor (bit P q)) (sym (bit-pow-other p q ne))
            ∙ sym (ap (λ x. bit x q) pe ∙ bit-linear q P (2 ^ p)) ∙ z in
            let r = f.idle q o in
            let m : bit l q ≡ 0 = is q ∙ ap₂ bit_xor (ap (λ x. bit x p) r ∙ bit-zero p) (bit-pow-other p q ne) in
            rows q ∙ ap₂ (λ x y. bit_xor x (y * g)) r m ∙ ap (bit_xor 0) (zero-mul g)
      ]

  lead' : (q : ℕ) → bit_and (R' q) P' ≡ bit_and (2 ^ q) P'
  lead' q =
      split (R' q) ∙ ap₂ (λ x b. bit_xor x (b * 2 ^ p)) (ap (λ x. bit_and x P) (rows q) ∙ add-off (R q) (bit l q) (bit-lt l q) ∙ f.lead q)
      (ap (λ x. bit x p) (rows q) ∙ add-on (R q) (bit l q) (bit-lt l q) ∙ ap (bit_xor (bit (R q) p)) (is q)
      ∙ sym (xor_assoc (bit (R q) p) (bit (R q) p) (bit (2 ^ p) q))
      ∙ ap (λ x. bit_xor x (bit (2 ^ p) q)) (xor_self (bit (R q) p)) ∙ xor_zero_l (bit (2 ^ p) q) ∙ sym (bit-swap p q))
      ∙ sym (split (2 ^ q))

  pub new-facts : Facts P' R' (bit_xor h (bit h p * g))
  new-facts = record {
    within = within';
    low = low';
    lead = lead';
    idle = idle';
    inside = xor_lt 48 h (bit h p * g) f.inside (pick-lt 48 (bit h p) g (bit-lt h p) (lt_of_lt_of_le most (pow_mono place)));
    clean =
        split (bit_xor h (bit h p * g)) ∙ ap₂ (λ x b. bit_xor x (b * 2 ^ p)) (add-off h (bit h p) (bit-lt h p) ∙ f.clean)
        (add-on h (bit h p) (bit-lt h p) ∙ xor_self (bit h p))
        ∙ ap (bit_xor 0) (zero-mul (2 ^ p));
  }

  -- ---- the law

  law-either : (y : ℕ) → reduced P' R' y ≡ bit_xor h (bit h p * g) → (reduced P R y ≡ h) ⊎ (reduced P R (bit_xor y g) ≡ h)
  unfolding rid
  law-either y e =
      let r = reduced P R y in
      let w : bit_xor r g ≡ reduced P R (bit_xor y g) = ap (bit_xor r) (sym (red-keep P R h f g off)) ∙ sym (red-linear P R h f y g) in
      digit₂ (λ a b. bit_xor r (a * g) ≡ bit_xor h (b * g) → (r ≡ h) ⊎ (reduced P R (bit_xor y g) ≡ h)) (λ e. inl (cancel r h (0 * g) e))
      (λ e. inr (sym w ∙ ap (λ x. bit_xor x g) (sym (xor_zero_r r) ∙ ap (bit_xor r) (sym (zero-mul g)) ∙ e ∙ ap (bit_xor h) (one-mul g))
      ∙ back h g))
      (λ e. inr (sym w ∙ ap (bit_xor r) (sym (one-mul g)) ∙ e ∙ ap (bit_xor h) (zero-mul g)
      ∙ xor_zero_r h)) (λ e. inl (cancel r h (1 * g) e))
      (bit r p) (bit h p) (bit-lt r p) (bit-lt h p) (sym (red-new y) ∙ e)

  pub law-old : (y : ℕ) → reduced P R y ≡ h → reduced P' R' y ≡ bit_xor h (bit h p * g)
  unfolding rid
  law-old y e = red-new y ∙ ap rid e

  law-moved : (y : ℕ) → reduced P R (bit_xor y g) ≡ h → reduced P' R' y ≡ bit_xor h (bit h p * g)
  unfolding rid
  law-moved y e =
      let r = reduced P R y in
      let k : bit_xor r g ≡ h = ap (bit_xor r) (sym (red-keep P R h f g off)) ∙ sym (red-linear P R h f y g) ∙ e in
      red-new y ∙ sym (xor_zero_r (rid r)) ∙ ap (bit_xor (rid r)) (sym rid-g) ∙ sym (rid-linear r g) ∙ ap rid k

-- ---- the same over spaces

pub insert-doubled : (s s' : AffineSpace) (g p l : ℕ) → bit g p ≡ 1 → g < 2 ^ suc p → p < 48 → bit_and g s.pivots ≡ 0
    → ((q : ℕ) → bit l q ≡ bit_xor (bit (row s.rows q) p) (bit (2 ^ p) q)) → RowsXor s.rows s'.rows l g
    → s'.pivots ≡ bit_xor s.pivots (2 ^ p) → s'.shift ≡ bit_xor s.shift (bit s.shift p * g) → Doubled s s' g
insert-doubled s s' g p l top most place off is rows pe he =
    let P = s.pivots in
    let R = row s.rows in
    let f = facts s in
    record {
      either = λ y m. elim
          (law-either P R s.shift f g p top most place off l is (row s'.rows) rows s'.pivots pe y (holds s' y m ∙ he)) [
            | inl e ↦ inl (member s y e)
            | inr e ↦ inr (member s (bit_xor y g) e)
          ];
      old = λ y m. member s' y (law-old P R s.shift f g p top most place off l is (row s'.rows) rows s'.pivots pe y (holds s y m)
          ∙ sym he);
      moved = λ y m. member s' y
          (law-moved P R s.shift f g p top most place off l is (row s'.rows) rows s'.pivots pe y (holds s (bit_xor y g) m)
          ∙ sym he);
    }

-- the rows with bit p, and p
pub rows-with : (R : ℕ → ℕ) (p m l : ℕ) → ((q : ℕ) → bit m q ≡ bit (R q) p) → l ≡ bit_xor m (2 ^ p) → (q : ℕ)
    → bit l q ≡ bit_xor (bit (R q) p) (bit (2 ^ p) q)
rows-with R p m l is le q = ap (λ x. bit x q) le ∙ bit-linear q m (2 ^ p) ∙ ap (λ x. bit_xor x (bit (2 ^ p) q)) (is q)
