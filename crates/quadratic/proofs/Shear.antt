-- One bit of every string turned over where another is 1.
use Rattle.std.proofs.Common.{◌≡◌, ℕ, ◌+◌, ◌*◌, ◌^◌, ◌<◌, Bool, true, false, cond, eqb, None, sym, refl, ap, ◌∙◌, subst, ap₂, inl, inr, one-mul, zero-mul, mul-one, arith}
use native.Mathlib.Decide.{ℕ_discrete}
use lib.Bits.{bit_xor, xor_zero_r}
use lib.Count.{ones}
use Rattle.std.proofs.lemmas.Bool.{eq-eqb, ne_eqb, cond-true, cond-false}
use Rattle.quadratic.specs.Bits.{bit, dot}
use Rattle.quadratic.specs.Moves.{turn, Turned, Halved, Kept, Outside, Along, Extended, Grown, Sheared}
use Rattle.quadratic.specs.Phase.{phase}
use Rattle.quadratic.specs.Strings.{Member}
use Rattle.quadratic.specs.Value.{value_at}
use Rattle.quadratic.specs.declared.affine.Outcome.{Outcome}
use Rattle.quadratic.specs.declared.affine.Outcome.TheVariants.{Unchanged, Empty, Restricted}
use Rattle.quadratic.specs.declared.phased.PhasedSpace.{PhasedSpace}
use Rattle.quadratic.proofs.Bitlaws.{digit, digit₂, bit-lt, bit-pow-other, not-both}
use Rattle.quadratic.proofs.Dots.{dot-lt, dot-comm, dot-pow}
use Rattle.quadratic.proofs.Laws.{holds, shift_in, dot-none}
use Rattle.quadratic.proofs.Left.{left, left-xor}
use Rattle.quadratic.proofs.Linear.{bit-linear, dot-linear, linear-pick, back}
use Rattle.quadratic.proofs.Phases.{phase-in, phase-out, in-or-out}
use Rattle.quadratic.proofs.Same.{has-phase}
use Rattle.quadratic.proofs.Turning.{turn_twice, unturned}

-- a turn by a parity with no bit
no-turn : (s : PhasedSpace) (y k x : ℕ) → k ≡ 4 * dot 0 x → turn k (phase s y) ≡ phase s y
no-turn s y k x e = unturned s y k (e ∙ ap (λ n. 4 * n) (dot-comm 0 x ∙ dot-none x))

-- ---- the bit is a combination of rows: the phases turn

module _ (s s₁ s' : PhasedSpace) (j l w q n d : ℕ) (we : (y : ℕ) → dot w y ≡ bit y j) (de : d ≡ 2 ^ l) (turns : Along s d 0 q n)
    (first : Turned s s₁ (λ y. 2 * q * dot w y)) (second : Turned s₁ s' (λ y. 4 * (dot w y * dot n y))) where
  both : (y t : ℕ) → t < 2 → turn (4 * (t * dot n y)) (turn (2 * q * t) (phase s y)) ≡ phase s (bit_xor y (t * 2 ^ l))
  both y =
      let a = phase s y in
      let k = dot n y in
      digit (λ t. turn (4 * (t * k)) (turn (2 * q * t) a) ≡ phase s (bit_xor y (t * 2 ^ l)))
      (turn_twice (2 * q * 0) (4 * (0 * k)) 0 a (λ m. omega arith) ∙ unturned s y 0 refl
      ∙ ap (phase s) (sym (ap (bit_xor y) (zero-mul (2 ^ l)) ∙ xor_zero_r y)))
      (turn_twice (2 * q * 1) (4 * (1 * k)) (2 * q + 4 * k) a (λ m. omega arith) ∙ sym (turns y)
      ∙ no-turn s (bit_xor y d) (4 * dot 0 (bit_xor y d)) (bit_xor y d) refl
      ∙ ap (λ x. phase s (bit_xor y x)) (de ∙ sym (one-mul (2 ^ l))))

  pub turned-shear : Sheared s s' j l
  turned-shear = record {
    phases = λ y. second.phases y ∙ ap (turn (4 * (dot w y * dot n y))) (first.phases y)
        ∙ ap (λ t. turn (4 * (t * dot n y)) (turn (2 * q * t) (phase s y))) (we y) ∙ both y (bit y j) (bit-lt y j);
    rows = ap (λ x. ones x.pivots) (second.space ∙ first.space);
  }

-- ---- it is none: a direction comes, and a row goes

pub grown : (r : Bool) (s s₁ : PhasedSpace) (d q z : ℕ) → Grown r s s₁ d q z → d < 2 ^ 48 → Outside s d → Extended s s₁ d q z
grown true s s₁ d q z h l out = h
grown false s s₁ d q z h l out =
    let own = shift_in s.space in
    absurd (out s.space.shift own (h.1 l s.space.shift own))

differ : (x b : ℕ) → x < 2 → x ≡ b → bit_xor x 1 ≡ b → ⊥
differ x b l e f = digit (λ x. x ≡ b → bit_xor x 1 ≡ b → ⊥) (λ e f. not-both b (sym e) (sym f)) (λ e f. not-both b (sym f) (sym e)) x l e f

-- of two strings with different parities one stays
kept_half : (o : Outcome) (s s' : PhasedSpace) (w b y y' : ℕ) → Kept o s s' w b → b < 2 → Member s.space y → Member s.space y'
    → dot w y' ≡ bit_xor (dot w y) 1 → Halved s s' w b
kept_half Unchanged s s' w b y y' h l m m' e = absurd (differ (dot w y) b (dot-lt w y) (h.1 y m) (sym e ∙ h.1 y' m'))
kept_half Empty s s' w b y y' h l m m' e =
    absurd (digit₂ (λ x b. (x ≡ b → ⊥) → (bit_xor x 1 ≡ b → ⊥) → ⊥) (λ f g. f refl) (λ f g. g refl) (λ f g. g refl) (λ f g. f refl)
    (dot w y) b (dot-lt w y) l (h.1 y m) (λ f. h.1 y' m' (e ∙ f)))
kept_half Restricted s s' w b y y' h l m m' e = h

module _ (s s₁ s' : PhasedSpace) (j l i w w₀ d b : ℕ) (de : d ≡ 2 ^ l) (ne : j ≡ l → ⊥)
    (check : (y : ℕ) → dot w₀ y ≡ bit (left s.space y) i) (we : w ≡ bit_xor w₀ (2 ^ j)) (be : b ≡ bit s.space.shift i)
    (top : bit (left s.space d) i ≡ 1) (more : Extended s s₁ d 0 0) where
  over : (y : ℕ) → Member s.space y → phase s₁ (bit_xor y d) ≡ phase s₁ y
  over y m = more.new y m ∙ no-turn s y (2 * 0 + 4 * dot 0 y) y (omega arith) ∙ sym (more.old y m)

  -- the direction carries the phases over
  steady : (y : ℕ) → phase s₁ (bit_xor y d) ≡ phase s₁ y
  steady y =
      elim (in-or-out s y) [
        | inl m ↦ over y m
        | inr n ↦ elim (in-or-out s (bit_xor y d)) [
          | inl m ↦ sym (ap (phase s₁) (sym (back y d)) ∙ over (bit_xor y d) m)
          | inr n' ↦ more.none (bit_xor y d) n' (λ m. n (subst (Member s.space) (back y d) m)) ∙ sym (more.none y n n')
        ]
      ]

  steady_by : (y t : ℕ) → t < 2 → phase s₁ (bit_xor y (t * d)) ≡ phase s₁ y
  steady_by y =
      digit (λ t. phase s₁ (bit_xor y (t * d)) ≡ phase s₁ y) (ap (phase s₁) (ap (bit_xor y) (zero-mul d) ∙ xor_zero_r y))
      (ap (λ x. phase s₁ (bit_xor y x)) (one-mul d) ∙ steady y)

  -- the strings of s are those that the check lets pass
  passed : (x : ℕ) → phase s x ≡ cond (eqb (bit (left s.space x) i) b) (phase s₁ x) None
  passed x =
      let k = bit (left s.space x) i in
      elim (in-or-out s x) [
        | inl m ↦
            let e = ap (λ y. bit y i) (holds s.space x m) ∙ sym be in
            sym (cond-true (eqb k b) (phase s₁ x) None (eq-eqb k b e) ∙ more.old x m)
        | inr n ↦ phase-out s x n ∙ elim (ℕ_discrete k b) [
          | yes e ↦ sym (cond-true (eqb k b) (phase s₁ x) None (eq-eqb k b e) ∙ more.none x n (λ m.
              let f : bit_xor k 1 ≡ b = ap (bit_xor k) (sym top) ∙ sym (bit-linear i (left s.space x) (left s.space d))
              ∙ ap (λ y. bit y i) (sym (left-xor s.space x d) ∙ holds s.space (bit_xor x d) m) ∙ sym be in
              differ k b (bit-lt (left s.space x) i) e f))
          | no other ↦ sym (cond-false (eqb k b) (phase s₁ x) None (ne_eqb k b other))
        ]
      ]

  -- the new parity at y is the check at y with its bit turned over
  parity : (y : ℕ) → dot w y ≡ bit (left s.space (bit_xor y (bit y j * d))) i
  parity y =
      let t = bit y j in
      let L = left s.space in
      ap (λ x. dot x y) we ∙ dot-comm (bit_xor w₀ (2 ^ j)) y ∙ dot-linear y w₀ (2 ^ j) ∙ ap₂ bit_xor (dot-comm y w₀ ∙ check y) (dot-pow y j)
      ∙ sym (ap (λ x. bit x i) (left-xor s.space y (t * d)) ∙ bit-linear i (L y) (L (t * d))
      ∙ ap (bit_xor (bit (L y) i)) (ap (λ x. bit x i) (linear-pick L (left-xor s.space) t d (bit-lt y j))
      ∙ linear-pick (λ x. bit x i) (bit-linear i) t (L d) (bit-lt y j) ∙ ap (λ x. t * x) top ∙ mul-one t))

  halves : (o : Outcome) → Kept o s₁ s' w b → b < 2 → Halved s₁ s' w b
  halves o h small =
      let y = s.space.shift in
      let own = more.old y (shift_in s.space) ∙ phase-in s y (shift_in s.space) in
      kept_half o s₁ s' w b y (bit_xor y d) h small (has-phase s₁ y (value_at s.form y) own)
      (has-phase s₁ (bit_xor y d) (value_at s.form y) (steady y ∙ own))
      (dot-linear w y d ∙ ap (bit_xor (dot w y)) (ap (λ x. dot x d) we ∙ dot-comm (bit_xor w₀ (2 ^ j)) d ∙ dot-linear d w₀ (2 ^ j)
      ∙ ap₂ bit_xor (dot-comm d w₀ ∙ check d ∙ top) (dot-pow d j ∙ ap (λ x. bit x j) de ∙ bit-pow-other l j ne)))

  pub slid : (o : Outcome) → Kept o s₁ s' w b → b < 2 → Sheared s s' j l
  slid o h small =
      let half = halves o h small in
      record {
        phases = λ y.
            let x = bit_xor y (bit y j * d) in
            half.phases y
            ∙ ap₂ (λ k a. cond (eqb k b) a None) (parity y) (sym (steady_by y (bit y j) (bit-lt y j)))
            ∙ sym (passed x) ∙ ap (λ k. phase s (bit_xor y (bit y j * k))) de;
        rows = omega (arith, half.rows, more.rows);
      }
