-- The parts of a state, one after another.
use Rattle.std.proofs.Common.{◌≡◌, ℕ, ◌+◌, ◌*◌, ◌%◌, ◌^◌, ◌<◌, ◌≤◌, Bool, true, false, List, get_or, sym, refl, ap, ◌∙◌, subst, inl, inr, mul-zero, zero-mul, arith, pow_pos, pow_mono}
use lib.Bits.{bit_and}
use lib.Count.{ones}
use Rattle.std.proofs.lemmas.Nat.{mod_below}
use Rattle.std.proofs.lemmas.Bool.{cases_lt, cases_eq}
use Rattle.quadratic.specs.Bits.{bit}
use Rattle.quadratic.specs.Fields.{coefficient_at}
use Rattle.quadratic.specs.Quadratic.{coef, link}
use Rattle.quadratic.specs.Building.{Begun, Reshifted}
use Rattle.quadratic.specs.declared.phased.PhasedSpace.{PhasedSpace}
use Rattle.quadratic.proofs.Bitlaws.{bit-lt, bit-and, bit-zero, bit-low, bit_past}
use Rattle.quadratic.proofs.Dots.{by_bits}
use Rattle.stabilizer.specs.States.{Sound as Parts}
use Rattle.stabilizer.specs.declared.state.StabilizerState.{StabilizerState}
use Rattle.archive.specs.Bits.{bits_from}
use Rattle.archive.specs.Layout.{size_at, rank_at, row_at, lead}
use Rattle.archive.specs.Held.{Sound, Spans, Weighs, Holds, shift_place}
use Rattle.archive.specs.Reading.{Raised, OnPivots, LinearUpTo, CouplingUpTo}
use Rattle.archive.proofs.Laws.{bits_below}
use Rattle.archive.proofs.Coefficients.{value-one, value-two, coef-low, link-low}
use Rattle.archive.proofs.Leads.{row-lead, order, off_at}
use Rattle.archive.proofs.Raising.{on-pivots}

-- a form with one value has no coefficients
pub drop-same : (q x : ℕ) → x < 8 → (q + x) % 8 ≡ q → x ≡ 0
drop-same q x h e = omega arith

module _ (s : PhasedSpace) (begun : Begun s s.form.phase) where
  no-linear : (k : ℕ) → k < 48 → coefficient_at s k ≡ 0
  no-linear k l = drop-same s.form.phase (coefficient_at s k) (coef-low s.form k) (sym (value-one s.form k l) ∙ begun.value (2 ^ k))

  no-link : (k b : ℕ) → k < 48 → b < k → link s.form.coupling k b ≡ 0
  no-link k b l h =
      let z = drop-sum s.form.phase _ _ (link s.form.coupling k b) (no-linear b (omega arith)) (no-linear k l)
      (sym (value-two s.form k b l h) ∙ begun.value (2 ^ k + 2 ^ b)) in
      drop-four s.form.phase (link s.form.coupling k b) (link-low s.form k b) z
    where
      drop-sum : (q x y l : ℕ) → x ≡ 0 → y ≡ 0 → (q + x + (y + 4 * l)) % 8 ≡ q → (q + 4 * l) % 8 ≡ q
      drop-sum q x y l e f h = let i : q + 4 * l ≡ q + x + (y + 4 * l) = omega arith in ap (λ t. t % 8) i ∙ h

      drop-four : (q l : ℕ) → l < 2 → (q + 4 * l) % 8 ≡ q → l ≡ 0
      drop-four q l h e = let z = drop-same q (4 * l) (omega arith) e in omega arith

-- the shift
module _ (b : List ℕ) (p n k : ℕ) (good : Sound b p n k) (s : PhasedSpace) (w : Raised b p n k s) where
  abbrev h : ℕ
  h = bits_from b (shift_place p n k) n

  shift-low : h < 2 ^ 48
  shift-low = let l = bits_below b (shift_place p n k) n in let m : 2 ^ n ≤ 2 ^ 48 = pow_mono good.few in omega arith

  shift-off : bit_and h s.space.pivots ≡ 0
  shift-off = by_bits (bit_and h s.space.pivots) 0 (λ q. bit-and h s.space.pivots q ∙ none q ∙ sym (bit-zero q)) where
    none : (q : ℕ) → bit h q * bit s.space.pivots q ≡ 0
    none q = elim (cases_eq (bit s.space.pivots q) 0) [
      | inl z ↦ ap (λ x. bit h q * x) z ∙ mul-zero (bit h q)
      | inr z ↦
          let f = w.pivots q (omega (arith, bit-lt s.space.pivots q)) in
          ap (λ x. x * bit s.space.pivots q) (ap (bit h) f.2 ∙ off_at b p n h k good.shift f.0 f.1)
          ∙ zero-mul (bit s.space.pivots q)
    ]

  -- it is not refused
  pub reshifted : (r : Bool) (s' : PhasedSpace) (x : ℕ) → x ≡ h → Reshifted r s s' x → Reshifted true s s' h
  reshifted true s' x e g = subst (λ t. Reshifted true s s' t) e g
  reshifted false s' x e g = absurd ((subst (λ t. Reshifted false s s' t) e g).0.1 shift-low shift-off)

  module _ (s' : PhasedSpace) (g : Reshifted true s s' h) where
    pub shift-spans : Spans b p n k s'
    shift-spans = record {
      count = ap ones g.0.2 ∙ w.count;
      pivots = λ q e. w.pivots q (ap (λ t. bit t q) (sym g.0.2) ∙ e);
      rows = λ a l. ap (λ t. get_or t (lead (row_at b p n a)) 0) g.0.3 ∙ w.rows a l;
      shift = g.0.4;
    }

    pub shift-pivots : OnPivots b p n k s'
    shift-pivots j l = ap (λ t. bit t (lead (row_at b p n j))) g.0.2 ∙ on-pivots b p n k good s.space w.rows j l

pub pivots-same : (b : List ℕ) (p n k : ℕ) (s s' : PhasedSpace) → s'.space ≡ s.space → OnPivots b p n k s → OnPivots b p n k s'
pivots-same b p n k s s' e w j l = ap (λ t. bit t.pivots (lead (row_at b p n j))) e ∙ w j l

-- the coefficients, from the first space s₀, with no coefficients, over s₁, with linear ones
module _ (b : List ℕ) (p n k : ℕ) (good : Sound b p n k) (s₀ : PhasedSpace) (blank : Begun s₀ s₀.form.phase) (s₁ : PhasedSpace)
    (same : s₁.form ≡ s₀.form) where
  lead-48 : (a : ℕ) → a < k → lead (row_at b p n a) < 48
  lead-48 a l = omega (arith, row-lead b p n k good a l, good.few)

  pub linear-blank : LinearUpTo b p n k 0 s₁ s₁
  linear-blank = record {
    space = refl;
    phase = refl;
    done = λ j l. absurd (omega arith);
    todo = λ j i l. ap (λ f. coef f.odd f.neg (lead (row_at b p n j))) same ∙ no-linear s₀ blank (lead (row_at b p n j)) (lead-48 j l);
    links = λ i j l h. refl;
  }

  module _ (s₂ : PhasedSpace) (w : LinearUpTo b p n k k s₁ s₂) where
    pub coupling-blank : CouplingUpTo b p n k 0 s₂ s₂
    coupling-blank = record {
      same = record { space = refl; phase = refl; linear = λ q l. refl };
      done = λ i j h l m. absurd (omega arith);
      todo = λ i j h l m.
          let x = lead (row_at b p n i) in
          let y = lead (row_at b p n j) in
          let o = order b p n k good j m i l in
          w.links x y (lead-48 i (omega arith)) o ∙ ap (λ f. link f.coupling x y) same
          ∙ no-link s₀ blank x y (lead-48 i (omega arith)) o;
    }

    pub weighed : (s₃ : PhasedSpace) → CouplingUpTo b p n k k s₂ s₃ → s₀.form.phase ≡ bits_from b (p + 25) 3 → Weighs b p n k s₃
    weighed s₃ v e = record {
      phase = v.same.phase ∙ w.phase ∙ ap (λ f. f.phase) same ∙ e;
      linear = λ a l. v.same.linear (lead (row_at b p n a)) (lead-48 a l) ∙ w.done a l;
      coupling = λ a c l m. ap (λ t. 4 * t) (v.done a c (omega arith) l m);
    }

-- a number whose bits are all below n is below 2^n
below-bits : (x n : ℕ) → ((q : ℕ) → bit x q ≡ 1 → q < n) → x < 2 ^ n
below-bits x n h = rw (by_bits x (x % 2 ^ n) same) (mod_below x (2 ^ n) (pow_pos n)) where
  same : (q : ℕ) → bit x q ≡ bit (x % 2 ^ n) q
  same q = elim (cases_lt q n) [
    | inl l ↦ sym (bit-low n x q l)
    | inr g ↦
        let past = bit_past n (x % 2 ^ n) q (mod_below x (2 ^ n) (pow_pos n)) g in
        elim (cases_eq (bit x q) 0) [
          | inl z ↦ z ∙ sym past
          | inr z ↦ let l = h q (omega (arith, bit-lt x q)) in absurd (omega arith)
        ]
  ]

-- the parts make a state
pub parts-sound : (b : List ℕ) (p n k l : ℕ) (s : PhasedSpace) → Sound b p n k → l ≡ bits_from b (p + 12) 13 → Spans b p n k s → Parts n l s
parts-sound b p n k l s good e w = record {
  some = good.some;
  few = good.few;
  light = rw e good.light;
  inside = below-bits s.space.pivots n (λ q o. let f = w.pivots q o in rw f.2 (row-lead b p n k good f.0 f.1));
  near = rw w.shift (bits_below b (shift_place p n k) n);
}

-- the state that the parts make stands in the bits
pub held : (b : List ℕ) (p n k l : ℕ) (t : PhasedSpace) (s : StabilizerState) → n ≡ size_at b p → k ≡ rank_at b p
    → l ≡ bits_from b (p + 12) 13
    → Spans b p n k t → Weighs b p n k t → s.qubits ≡ n → s.loss ≡ l → s.body ≡ t → Holds b p s
held b p n k l t s en ek el w v eq es et = record {
  qubits = eq ∙ en;
  weight = es ∙ el;
  spans = subst (λ m. Spans b p m (rank_at b p) s.body) en (subst (λ j. Spans b p n j s.body) ek (subst (Spans b p n k) (sym et) w));
  weighs = subst (λ m. Weighs b p m (rank_at b p) s.body) en
      (subst (λ j. Weighs b p n j s.body) ek (subst (Weighs b p n k) (sym et) v));
}
