-- Phases that change while the strings stay, and strings that carry their phases along.
use Rattle.std.proofs.Common.{◌≡◌, ℕ, suc, ◌+◌, ◌*◌, ◌%◌, ◌^◌, ◌<◌, Some, None, Option, sym, refl, ap, ◌∙◌, subst, ap₂, inl, inr, lt_of_lt_of_le, add-zero, arith, pow_mono}
use lib.Bits.{bit_and, bit_xor, xor_comm, xor_lt}
use lib.Pow.{pow-lt}
use Rattle.quadratic.specs.Bits.{bit, dot}
use Rattle.quadratic.specs.Echelon.{row, reduced}
use Rattle.quadratic.specs.Moves.{turn, Turned}
use Rattle.quadratic.specs.Phase.{phase}
use Rattle.quadratic.specs.Strings.{Member, Moved}
use Rattle.quadratic.specs.Value.{value_at}
use Rattle.quadratic.specs.declared.affine.AffineSpace.{AffineSpace}
use Rattle.quadratic.specs.declared.phased.PhasedSpace.{PhasedSpace}
use Rattle.quadratic.proofs.Bitlaws.{digit₂}
use Rattle.quadratic.proofs.Dots.{dot-lt}
use Rattle.quadratic.proofs.Laws.{facts, holds, member, comb-pow, red-clean, and-twice, resp-inside, response, part-dot}
use Rattle.quadratic.proofs.Left.{left, left-xor}
use Rattle.quadratic.proofs.Linear.{and-linear, back}
use Rattle.quadratic.proofs.Phases.{phase-in, phase-out, in-or-out}
use Rattle.quadratic.proofs.Sight.{Seen}
use Rattle.quadratic.proofs.Values.{value-mod}

-- ---- turns

pub turn_twice : (j k l : ℕ) (a : Option ℕ) → ((m : ℕ) → ((m + j) % 8 + k) % 8 ≡ (m + l) % 8) → turn k (turn j a) ≡ turn l a
turn_twice j k l (Some m) h = ap (λ x. Some x) (h m)
turn_twice j k l None h = refl

-- a turn by nothing
pub unturned : (s : PhasedSpace) (y k : ℕ) → k ≡ 0 → turn k (phase s y) ≡ phase s y
unturned s y k z =
    elim (in-or-out s y) [
      | inl m ↦
          let v = value_at s.form y in
          ap (turn k) (phase-in s y m) ∙ ap (λ x. Some x) (ap (λ x. (v + x) % 8) z ∙ ap (λ x. x % 8) (add-zero v) ∙ value-mod s.form y)
          ∙ sym (phase-in s y m)
      | inr n ↦ ap (turn k) (phase-out s y n) ∙ sym (phase-out s y n)
    ]

-- a change of the form alone
pub turned_by : (s s' : PhasedSpace) (k : ℕ → ℕ) → s'.space ≡ s.space
    → ((y : ℕ) → Member s.space y → value_at s'.form y ≡ (value_at s.form y + k y) % 8) → Turned s s' k
turned_by s s' k e v = record { phases = at; space = e }
  where
    at : (y : ℕ) → phase s' y ≡ turn (k y) (phase s y)
    at y =
        elim (in-or-out s y) [
          | inl m ↦ phase-in s' y (subst (λ x. Member x y) (sym e) m) ∙ ap (λ x. Some x) (v y m) ∙ ap (turn (k y)) (sym (phase-in s y m))
          | inr n ↦ phase-out s' y (λ m. n (subst (λ x. Member x y) e m)) ∙ ap (turn (k y)) (sym (phase-out s y n))
        ]

-- the parity of a string with w, by its coordinates
pub by_rows : (s : AffineSpace) (w l : ℕ) → ((p : ℕ) → bit l p ≡ dot w (row s.rows p)) → (a : ℕ) → a ≡ dot w s.shift
    → (y : ℕ) → Member s y → bit_xor a (dot l y) ≡ dot w y
by_rows s w l is a e y m =
    ap (λ x. bit_xor x (dot l y)) e ∙ sym (response s.pivots (row s.rows) s.shift (facts s) w l is y (holds s y m))

-- and it depends on the pivots alone
pub rows_seen : (s : AffineSpace) (w l : ℕ) → ((p : ℕ) → bit l p ≡ dot w (row s.rows p)) → Seen (dot l) s.pivots
rows_seen s w l is y = sym (part-dot l s.pivots y (resp-inside s.pivots (row s.rows) s.shift (facts s) w l is))

abbrev Steps : ℕ → ℕ → ℕ → ℕ → ℕ → Type 0
Steps v a b x y = (((v + 4 * (x * y)) % 8 + 2 * (2 * a) * bit_xor b y) % 8 + 2 * (2 * b) * x) % 8 ≡ (v + 4 * (bit_xor a x * bit_xor b y)) % 8

steps : (v a b : ℕ) → a < 2 → b < 2 → (x y : ℕ) → x < 2 → y < 2 → Steps v a b x y
steps v =
    digit₂ (λ a b. (x y : ℕ) → x < 2 → y < 2 → Steps v a b x y)
    (digit₂ (Steps v 0 0) (omega arith) (omega arith) (omega arith) (omega arith))
    (digit₂ (Steps v 0 1) (omega arith) (omega arith) (omega arith) (omega arith))
    (digit₂ (Steps v 1 0) (omega arith) (omega arith) (omega arith) (omega arith))
    (digit₂ (Steps v 1 1) (omega arith) (omega arith) (omega arith) (omega arith))

-- a product of two parities in three steps
pub product-steps : (v v₁ v₂ v₃ : ℕ → ℕ) (a b l m : ℕ) → a < 2 → b < 2 → ((c : ℕ) → v₁ c ≡ (v c + 4 * (dot l c * dot m c)) % 8)
    → ((c : ℕ) → v₂ c ≡ (v₁ c + 2 * (2 * a) * bit_xor b (dot m c)) % 8) → ((c : ℕ) → v₃ c ≡ (v₂ c + 2 * (2 * b) * dot l c) % 8)
    → (c : ℕ) → v₃ c ≡ (v c + 4 * (bit_xor a (dot l c) * bit_xor b (dot m c))) % 8
product-steps v v₁ v₂ v₃ a b l m la lb h₁ h₂ h₃ c =
    h₃ c ∙ ap (λ x. (x + 2 * (2 * b) * dot l c) % 8) (h₂ c ∙ ap (λ x. (x + 2 * (2 * a) * bit_xor b (dot m c)) % 8) (h₁ c))
    ∙ steps (v c) a b la lb (dot l c) (dot m c) (dot-lt l c) (dot-lt m c)

-- each string moves by d, and its phase with it
pub moved_by : (s s' : PhasedSpace) (d : ℕ) → Moved s.space s'.space d
    → ((y : ℕ) → value_at s'.form y ≡ value_at s.form (bit_xor y d)) → (y : ℕ) → phase s' y ≡ phase s (bit_xor y d)
moved_by s s' d strings v y =
    elim (in-or-out s (bit_xor y d)) [
      | inl m ↦ phase-in s' y (strings.moved y m) ∙ ap (λ x. Some x) (v y) ∙ sym (phase-in s (bit_xor y d) m)
      | inr n ↦ phase-out s' y (λ m. n (strings.back y m)) ∙ sym (phase-out s (bit_xor y d) n)
    ]

-- values moved by d depend on the same mask
pub seen-moved : (v v' : ℕ → ℕ) (P d : ℕ) → Seen v P → ((c : ℕ) → v' c ≡ v (bit_xor c d)) → Seen v' P
seen-moved v v' P d h law c =
    law c ∙ h (bit_xor c d)
    ∙ ap v (and-linear P c d ∙ ap (λ x. bit_xor x (bit_and d P)) (sym (and-twice c P)) ∙ sym (and-linear P (bit_and c P) d))
    ∙ sym (h (bit_xor (bit_and c P) d)) ∙ sym (law (bit_and c P))

-- ---- one bit of every string turned over

module _ (s : AffineSpace) (i d : ℕ) (e : d ≡ bit_xor (row s.rows i) (2 ^ i)) where
  left-of-bit : left s (2 ^ i) ≡ d
  left-of-bit =
      ap (bit_xor (2 ^ i)) (comb-pow s.pivots (row s.rows) s.shift (facts s) i) ∙ xor_comm (2 ^ i) (row s.rows i) ∙ sym e

  pub flip-inside : i < 48 → bit_xor s.shift d < 2 ^ 48
  flip-inside l = xor_lt 48 s.shift d s.inside
      (rw e (xor_lt 48 (row s.rows i) (2 ^ i) (lt_of_lt_of_le (s.low i) (pow_mono {i = suc i} {j = 48} l)) (pow-lt l)))

  pub flip-clean : bit_and (bit_xor s.shift d) s.pivots ≡ 0
  flip-clean =
      let P = s.pivots in
      and-linear P s.shift d ∙ ap₂ bit_xor s.clean (ap (λ x. bit_and x P) (sym left-of-bit)
      ∙ red-clean P (row s.rows) s.shift (facts s) (2 ^ i))

  pub flip-strings : (s' : AffineSpace) → s'.pivots ≡ s.pivots → s'.rows ≡ s.rows → s'.shift ≡ bit_xor s.shift d → Moved s s' (2 ^ i)
  flip-strings s' pe re he =
      let turned : (y : ℕ) → left s (bit_xor y (2 ^ i)) ≡ bit_xor (left s y) d =
      λ y. left-xor s y (2 ^ i) ∙ ap (bit_xor (left s y)) left-of-bit in
      let same : (y : ℕ) → left s' y ≡ left s y = λ y. ap₂ (λ P R. reduced P (row R) y) pe re in
      record {
        back = λ y m. member s (bit_xor y (2 ^ i)) (turned y ∙ ap (λ x. bit_xor x d) (sym (same y) ∙ holds s' y m ∙ he) ∙ back s.shift d);
        moved = λ y m. member s' y (same y ∙ sym (back (left s y) d)
            ∙ ap (λ x. bit_xor x d) (sym (turned y) ∙ holds s (bit_xor y (2 ^ i)) m) ∙ sym he);
      }
