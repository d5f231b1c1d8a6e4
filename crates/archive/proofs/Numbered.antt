-- Rows by number and by their places in the bits.
use Rattle.std.proofs.Common.{◌≡◌, ℕ, zero, suc, ◌-◌, ◌<◌, List, Some, None, sym, refl, ap, ◌∙◌, ap₂, zero-add, arith}
use native.Mathlib.Decide.{ℕ_discrete}
use lib.Count.{ones}
use Rattle.quadratic.specs.Bits.{bit}
use Rattle.quadratic.specs.Echelon.{row}
use Rattle.quadratic.specs.Fields.{coefficient_at, coupling_between, found, found_both, row_pivot}
use Rattle.quadratic.specs.Numbering.{place}
use Rattle.quadratic.proofs.Lowest.{set_below}
use Rattle.quadratic.proofs.Numbering.{place_here, place-passed, place-off}
use Rattle.stabilizer.specs.declared.state.StabilizerState.{StabilizerState}
use Rattle.archive.specs.Bits.{bits_from}
use Rattle.archive.specs.Held.{Sound, Spans, Holds}
use Rattle.archive.specs.Layout.{row_at, lead, bits_before_fill, padding, alone_fault}
use Rattle.archive.specs.Writes.{LaidOut}
use Rattle.archive.proofs.Leads.{order}
use Rattle.archive.proofs.OneRun.{good-at, spans-at, weighs-at, length_at}
use Rattle.archive.proofs.Raising.{on-pivots}

-- f numbers the set bits of a mask below n, the highest first
pub record Numbers (n mask k : ℕ) (f : ℕ → ℕ) : Type 0 where
  pub on : (a : ℕ) → a < k → bit mask (f a) ≡ 1
  pub below : (a : ℕ) → a < k → f a < n
  pub down : (a : ℕ) → a < k → (c : ℕ) → c < a → f a < f c
  pub all : (q : ℕ) → q < n → bit mask q ≡ 1 → (a : ℕ) × (a < k) × (q ≡ f a)

module _ (n mask k : ℕ) (f : ℕ → ℕ) (h : Numbers (suc n) mask k f) where
  -- a set bit at the top is the first
  top : bit mask n ≡ 1 → n ≡ f 0
  top o = let (a, l, e) = h.all n (omega arith) o in go a l e
    where
      go : (a : ℕ) → a < k → n ≡ f a → n ≡ f 0
      go zero l e = e
      go (suc a) l e = let d = h.down (suc a) l 0 (omega arith) in let b = h.below 0 (omega arith) in absurd (omega (arith, d, b, e))

  -- without it, or without the top, the others are left
  rest : bit mask n ≡ 1 → Numbers n mask (k - 1) (λ a. f (suc a))
  rest o =
      let t = top o in
      record {
        on = λ a l. h.on (suc a) (omega arith);
        below = λ a l. let d = h.down (suc a) (omega arith) 0 (omega arith) in omega (arith, d, t);
        down = λ a l c m. h.down (suc a) (omega arith) (suc c) (omega arith);
        all = λ q l i. let (a, m, e) = h.all q (omega arith) i in after q l a m e t;
      }
    where
      after : (q : ℕ) → q < n → (a : ℕ) → a < k → q ≡ f a → n ≡ f 0 → (a : ℕ) × (a < k - 1) × (q ≡ f (suc a))
      after q l zero m e t = absurd (omega (arith, l, e, t))
      after q l (suc a) m e t = (a, omega arith, e)

  shorter : (bit mask n ≡ 1 → ⊥) → Numbers n mask k f
  shorter off = record {
    on = h.on;
    below = λ a l. under a (ℕ_discrete (f a) n) l;
    down = h.down;
    all = λ q l i. h.all q (omega arith) i;
  }
    where
      under : (a : ℕ) → Dec (f a ≡ n) → a < k → f a < n
      under a (yes e) l = absurd (off (ap (bit mask) (sym e) ∙ h.on a l))
      under a (no ne) l = let b = h.below a l in omega arith

-- row a + 1 is the one at f a
place_of : (n mask k : ℕ) (f : ℕ → ℕ) → Numbers n mask k f → (a : ℕ) → a < k → place n mask (suc a) ≡ Some (f a)
place_of zero mask k f h a l = absurd (omega (arith, h.below a l))
place_of (suc n) mask k f h zero l = elim (ℕ_discrete (bit mask n) 1) [
  | yes o ↦ place_here n mask 1 o refl ∙ ap Some (top n mask k f h o)
  | no off ↦ place-off n mask 1 off ∙ place_of n mask k f (shorter n mask k f h off) 0 l
]
place_of (suc n) mask k f h (suc a) l = elim (ℕ_discrete (bit mask n) 1) [
  | yes o ↦
      let e : suc (suc a) - 1 ≡ suc a = omega arith in
      place-passed n mask (suc (suc a)) o (λ i. omega arith) ∙ ap (place n mask) e
      ∙ place_of n mask (k - 1) (λ a. f (suc a)) (rest n mask k f h o) a (omega arith)
  | no off ↦ place-off n mask (suc (suc a)) off ∙ place_of n mask k f (shorter n mask k f h off) (suc a) l
]

-- ---- the layout of a state that stands in a run of bytes

module _ (s : StabilizerState) (b : List ℕ) (e : alone_fault b ≡ None) (h : Holds b 0 s) where
  abbrev n : ℕ
  n = s.qubits

  abbrev k : ℕ
  k = ones s.body.space.pivots

  abbrev at : ℕ → ℕ
  at a = lead (row_at b 0 n a)

  good : Sound b 0 n k
  good = good-at b s e h

  spans : Spans b 0 n k s.body
  spans = spans-at b s e h

  numbers : Numbers 48 s.body.space.pivots k at
  numbers =
      let on = on-pivots b 0 n k good s.body.space spans.rows in
      record {
        on = on;
        below = λ a l. set_below 48 s.body.space.pivots (at a) s.body.space.within (on a l);
        down = order b 0 n k good;
        all = λ q l o. spans.pivots q o;
      }

  pivot : (a : ℕ) → a < k → row_pivot s.body (suc a) ≡ Some (at a)
  pivot = place_of 48 s.body.space.pivots k at numbers

  pub laid_out : LaidOut s b
  laid_out =
      let weighs = weighs-at b s e h in
      record {
        size = sym h.qubits;
        rank = sym h.spans.count;
        weight = sym h.weight;
        phase = sym h.weighs.phase;
        rows = λ a l. ap (λ o. found o (row s.body.space.rows)) (pivot a l) ∙ ap Some (spans.rows a l);
        shift = sym spans.shift;
        linear = λ a l. ap (λ o. found o (coefficient_at s.body)) (pivot a l) ∙ ap Some (weighs.linear a l);
        coupling = λ a c m l. ap₂ (λ o p. found_both o p (coupling_between s.body)) (pivot a (omega arith)) (pivot c l)
            ∙ ap Some (weighs.coupling a c m l);
        fill = ap (λ t. bits_from b t (padding t)) (sym (zero-add (bits_before_fill n k))) ∙ good.fill;
        long = length_at b s e h;
      }
