-- One direction more, with its phases.
use Rattle.std.proofs.Common.{◌≡◌, ℕ, ◌+◌, ◌*◌, ◌%◌, ◌^◌, ◌<◌, Some, None, Option, sym, refl, ap, ◌∙◌, subst, ap₂, inl, inr, zero-mul, arith}
use lib.Bits.{bit_xor, xor_assoc, xor_self}
use lib.Count.{ones}
use Rattle.quadratic.specs.Bits.{bit, dot}
use Rattle.quadratic.specs.Moves.{turn, Outside, Along, Extended}
use Rattle.quadratic.specs.Phase.{phase}
use Rattle.quadratic.specs.Strings.{Member, Doubled}
use Rattle.quadratic.specs.Value.{value_at}
use Rattle.quadratic.specs.declared.phased.PhasedSpace.{PhasedSpace}
use Rattle.quadratic.proofs.Bitlaws.{digit₃, bit-pow, bit-zero}
use Rattle.quadratic.proofs.Laws.{holds, member}
use Rattle.quadratic.proofs.Left.{left, left-xor, left-zero, left-none, left-same}
use Rattle.quadratic.proofs.Linear.{bit-linear, back}
use Rattle.quadratic.proofs.Lowest.{ones-drop}
use Rattle.quadratic.proofs.Phases.{phase-in, phase-out, in-or-out}
use Rattle.quadratic.proofs.Turning.{unturned}

-- ---- along a combination of rows

pub along : (s : PhasedSpace) (f z q l : ℕ) → left s.space f ≡ 0
    → ((c : ℕ) → (value_at s.form (bit_xor c f) + 4 * dot z (bit_xor c f)) % 8 ≡ (value_at s.form c + (2 * q + 4 * dot l c)) % 8)
    → Along s f z q l
along s f z q l e gain y =
    let x = bit_xor y f in
    elim (in-or-out s y) [
      | inl m ↦
          ap (turn (4 * dot z x)) (phase-in s x (left-none s.space f e y m)) ∙ ap (λ n. Some n) (gain y)
          ∙ ap (turn (2 * q + 4 * dot l y)) (sym (phase-in s y m))
      | inr n ↦
          ap (turn (4 * dot z x)) (phase-out s x (λ m. n (subst (Member s.space) (back y f) (left-none s.space f e x m))))
          ∙ ap (turn (2 * q + 4 * dot l y)) (sym (phase-out s y n))
    ]

-- a phase that is there after a turn was there before
turned-some : (k x : ℕ) (a : Option ℕ) → turn k a ≡ Some x → (m : ℕ) × (a ≡ Some m) × ((m + k) % 8 ≡ x)
turned-some k x (Some m) e = (m, refl, cc)
turned-some k x None e = let z : ◌≡◌ {A = ℕ} 0 1 = cc in absurd (omega arith)

-- ---- on the new side

abbrev Across : ℕ → ℕ → ℕ → ℕ → ℕ → Type 0
Across m q b x y = (((m + 2 * q * bit_xor b x) % 8 + 4 * (x * y)) % 8 + 2 * (2 * b) * y) % 8 ≡ (m + bit_xor b x * (2 * q + 4 * y)) % 8

pub across : (q b x y : ℕ) → b < 2 → x < 2 → y < 2 → (a : Option ℕ)
    → turn (2 * (2 * b) * y) (turn (4 * (x * y)) (turn (2 * q * bit_xor b x) a)) ≡ turn (bit_xor b x * (2 * q + 4 * y)) a
across q b x y lb lx ly None = refl
across q b x y lb lx ly (Some m) =
    ap (λ n. Some n) (digit₃ (Across m q) (omega arith) (omega arith) (omega arith) (omega arith)
    (omega arith) (omega arith) (omega arith) (omega arith) b x y lb lx ly)

added : (v v' q t n z : ℕ) → (v' + 4 * z) % 8 ≡ (v + (2 * t + 4 * n)) % 8
    → (v + 1 * (2 * (q % 4 + t) + 4 * n)) % 8 ≡ (v' + (2 * q + 4 * z)) % 8
added v v' q t n z h = omega arith

module _ (s s₁ s' : PhasedSpace) (d q z t n w b g p : ℕ) (check : (y : ℕ) → dot w y ≡ bit (left s.space y) p)
    (be : b ≡ bit s.space.shift p) (ge : g ≡ left s.space d) (top : bit g p ≡ 1) (free : bit s.space.pivots p ≡ 0)
    (pe : s₁.space.pivots ≡ bit_xor s.space.pivots (2 ^ p)) (strings : Doubled s.space s₁.space g) (same : s₁.form ≡ s.form)
    (gain : (c : ℕ) → (value_at s.form (bit_xor c d) + 4 * dot z (bit_xor c d)) % 8 ≡ (value_at s.form c + (2 * t + 4 * dot n c)) % 8)
    (law : (y : ℕ) → phase s' y ≡ turn (bit_xor b (dot w y) * (2 * (q % 4 + t) + 4 * dot n y)) (phase s₁ y))
    (space : s'.space ≡ s₁.space) where
  -- the strings of s are on one side, and d leads to the other
  side-old : (y : ℕ) → Member s.space y → bit_xor b (dot w y) ≡ 0
  side-old y m = ap (bit_xor b) (check y ∙ ap (λ x. bit x p) (holds s.space y m) ∙ sym be) ∙ xor_self b

  side-new : (y : ℕ) → Member s.space y → bit_xor b (dot w (bit_xor y d)) ≡ 1
  side-new y m =
      ap (bit_xor b) (check (bit_xor y d) ∙ ap (λ x. bit x p) (left-xor s.space y d) ∙ bit-linear p (left s.space y) (left s.space d)
      ∙ ap₂ bit_xor (sym (check y)) (ap (λ x. bit x p) (sym ge) ∙ top))
      ∙ sym (xor_assoc b (dot w y) 1) ∙ ap (λ x. bit_xor x 1) (side-old y m)

  other : (y : ℕ) → Member s.space (bit_xor y g) → Member s.space (bit_xor y d)
  other y m = member s.space (bit_xor y d) (sym (left-same s.space d y) ∙ ap (λ x. left s.space (bit_xor y x)) (sym ge)
      ∙ holds s.space (bit_xor y g) m)

  moved : (y : ℕ) → Member s.space y → Member s₁.space (bit_xor y d)
  moved y m =
      let x = bit_xor y d in
      strings.moved x (member s.space (bit_xor x g) (ap (λ k. left s.space (bit_xor x k)) ge ∙ left-same s.space d x
      ∙ ap (left s.space) (back y d) ∙ holds s.space y m))

  old : (y : ℕ) → Member s.space y → phase s' y ≡ phase s y
  old y m =
      let k : ℕ = 2 * (q % 4 + t) + 4 * dot n y in
      law y ∙ ap (λ x. turn (x * k) (phase s₁ y)) (side-old y m) ∙ unturned s₁ y (0 * k) (zero-mul k) ∙ phase-in s₁ y (strings.old y m)
      ∙ ap (λ f. Some (value_at f y)) same ∙ sym (phase-in s y m)

  new : (y : ℕ) → Member s.space y → phase s' (bit_xor y d) ≡ turn (2 * q + 4 * dot z y) (phase s y)
  new y m =
      let x = bit_xor y d in
      let v = value_at s.form in
      let k : ℕ = 2 * (q % 4 + t) + 4 * dot n x in
      law x ∙ ap (λ j. turn (j * k) (phase s₁ x)) (side-new y m)
      ∙ ap (turn (1 * k)) (phase-in s₁ x (moved y m) ∙ ap (λ f. Some (value_at f x)) same)
      ∙ ap (λ j. Some j) (added (v x) (v y) q t (dot n x) (dot z y)
      (ap (λ c. (v c + 4 * dot z c) % 8) (sym (back y d)) ∙ gain x))
      ∙ ap (turn (2 * q + 4 * dot z y)) (sym (phase-in s y m))

  outside : Outside s d
  outside y m m' =
      let zero : bit g p ≡ 0 = ap (λ x. bit x p) (ge ∙ left-zero s.space d y m m') ∙ bit-zero p in
      omega (arith, zero, top)

  rows : ones s'.space.pivots ≡ ones s.space.pivots + 1
  rows =
      let P = s.space.pivots in
      let P₁ = s₁.space.pivots in
      let on : bit P₁ p ≡ 1 = ap (λ x. bit x p) pe ∙ bit-linear p P (2 ^ p) ∙ ap₂ bit_xor free (bit-pow p) in
      ap (λ x. ones x.pivots) space ∙ sym (ones-drop P₁ p s₁.space.within on)
      ∙ ap (λ x. ones x + 1) (ap (λ x. bit_xor x (2 ^ p)) pe ∙ back P (2 ^ p))

  pub extended : Extended s s' d q z
  extended = record {
    old = old;
    new = new;
    none = λ y a a'. law y ∙ ap (turn (bit_xor b (dot w y) * (2 * (q % 4 + t) + 4 * dot n y)))
        (phase-out s₁ y (λ m. elim (strings.either y m) [ inl x ↦ a x | inr x ↦ a' (other y x) ]));
    outside = outside;
    rows = rows;
  }
