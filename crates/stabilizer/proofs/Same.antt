-- States with the same amplitudes have the same weight and the same phases.
use Rattle.std.proofs.Common.{◌≡◌, ℕ, ◌+◌, ◌%◌, ◌<◌, pos, neg_ℤ, Some, None, Option, sym, refl, ap, ◌∙◌, ap₂, mod-eq_of_lt, arith}
use borrow.Author.Differences.{ints}
use lib.Count.{ones}
use Rattle.quadratic.specs.Phase.{phase, SamePhases}
use Rattle.quadratic.proofs.Distinct.{pivots-same}
use Rattle.quadratic.proofs.Extent.{phase-lt, shift-phase}
use Rattle.quadratic.proofs.Same.{same-strings}
use Rattle.stabilizer.specs.Overlaps.{depth}
use Rattle.stabilizer.specs.States.{amplitude_of, SameState}
use Rattle.stabilizer.specs.declared.state.StabilizerState.{StabilizerState}

negatives : (a b : ℕ) → neg_ℤ (pos a) ≡ neg_ℤ (pos b) → a ≡ b
negatives a b e = omega (arith, ints)

module _ (s t : StabilizerState) where
  -- equal amplitudes come from equal phases
  same-option : (a b : Option ℕ) → ((m : ℕ) → a ≡ Some m → m < 8) → ((m : ℕ) → b ≡ Some m → m < 8) → amplitude_of s a
      ≡ amplitude_of t b → a ≡ b
  same-option (Some m) (Some n) hm hn e =
      ap (λ x. Some x) (sym (mod-eq_of_lt (hm m refl)) ∙ ap (λ x. x.2) e ∙ mod-eq_of_lt (hn n refl))
  same-option (Some m) None hm hn e = let z : ◌≡◌ {A = ℕ} 1 0 = ap (λ x. x.0) e in absurd (omega arith)
  same-option None (Some n) hm hn e = let z : ◌≡◌ {A = ℕ} 0 1 = ap (λ x. x.0) e in absurd (omega arith)
  same-option None None hm hn e = refl

  pub same_body : SameState s t → SamePhases s.body t.body
  same_body h y = same-option (phase s.body y) (phase t.body y) (phase-lt s.body y) (phase-lt t.body y) (h.amplitudes y)

  dimension-same : SamePhases s.body t.body → ones s.body.space.pivots ≡ ones t.body.space.pivots
  dimension-same h = ap ones (pivots-same s.body.space t.body.space (same-strings s.body t.body h))

  pub same-loss : SameState s t → s.loss ≡ t.loss
  same-loss h =
      let p = same_body h in
      let y = s.body.space.shift in
      let here = shift-phase s.body in
      let d : depth s ≡ depth t = negatives (depth s) (depth t)
      (ap (λ x. x.1) (sym (ap (amplitude_of s) here) ∙ h.amplitudes y ∙ ap (amplitude_of t) (sym (p y) ∙ here))) in
      let k = dimension-same p in
      omega (arith, d, k)

  -- and the converse
  pub same-state : s.qubits ≡ t.qubits → s.loss ≡ t.loss → SamePhases s.body t.body → SameState s t
  same-state q l p = record { qubits = q; amplitudes = λ y. go (phase s.body y) ∙ ap (amplitude_of t) (p y) }
    where
      go : (a : Option ℕ) → amplitude_of s a ≡ amplitude_of t a
      go (Some m) = ap (λ d. (1, neg_ℤ (pos d), m % 8)) (ap₂ ◌+◌ l (dimension-same p))
      go None = refl
