-- One coefficient more.
use Rattle.std.proofs.Common.{◌≡◌, ℕ, ◌+◌, ◌*◌, ◌%◌, ◌^◌, ◌<◌, ◌≢◌, List, sym, ap, ◌∙◌, ap₂, inl, inr, add-zero, mod-eq_of_lt, mul-zero, zero-add, zero-mul, mul-one, arith, below_more}
use Rattle.std.proofs.lemmas.Bool.{cases_lt, cases_eq}
use Rattle.quadratic.specs.Bits.{bit}
use Rattle.quadratic.specs.Fields.{coefficient_at}
use Rattle.quadratic.specs.Quadratic.{link}
use Rattle.quadratic.specs.declared.phased.PhasedSpace.{PhasedSpace}
use Rattle.quadratic.proofs.Bitlaws.{bit-pow, bit-pow-other}
use Rattle.archive.specs.Bits.{bits_from}
use Rattle.archive.specs.Layout.{row_at, lead}
use Rattle.archive.specs.Held.{Sound, linear_place, place_of_coupling}
use Rattle.archive.specs.Reading.{LinearUpTo, RowUpTo, CouplingUpTo, link_at}
use Rattle.archive.specs.Coefficients.{LinearGrown, CouplingGrown}
use Rattle.archive.proofs.Coefficients.{coef-low, link-low}
use Rattle.archive.proofs.Leads.{row-lead, order}

-- different rows have different leads
module _ (b : List ℕ) (p n k : ℕ) (good : Sound b p n k) where
  lead-apart : (i j : ℕ) → i < k → j < k → i ≢ j → lead (row_at b p n i) ≢ lead (row_at b p n j)
  lead-apart i j l m ne e = elim (cases_lt i j) [
    | inl h ↦ let o = order b p n k good j m i h in omega arith
    | inr h ↦ let o = order b p n k good i l j (omega arith) in omega arith
  ]

  lead-48 : (a : ℕ) → a < k → lead (row_at b p n a) < 48
  lead-48 a l = omega (arith, row-lead b p n k good a l, good.few)

  -- the linear coefficient of row a
  module _ (a : ℕ) (l : a < k) (s₀ s s' : PhasedSpace) (q v : ℕ) (eq : q ≡ lead (row_at b p n a)) (low : v < 4)
      (ev : v ≡ bits_from b (linear_place p n k a) 2) (w : LinearUpTo b p n k a s₀ s) (g : LinearGrown s s' q v) where
    other : (j : ℕ) → j < k → j ≢ a → coefficient_at s' (lead (row_at b p n j)) ≡ coefficient_at s (lead (row_at b p n j))
    other j m ne =
        let x = lead (row_at b p n j) in
        let off = bit-pow-other x q (λ e. lead-apart j a m l ne (sym e ∙ eq)) in
        g.linear x (lead-48 j m) ∙ ap (λ t. (coefficient_at s x + 2 * v * t) % 8) off
        ∙ ap (λ t. (coefficient_at s x + t) % 8) (mul-zero (2 * v))
        ∙ ap (λ t. t % 8) (add-zero (coefficient_at s x)) ∙ mod-eq_of_lt (coef-low s.form x)

    here : coefficient_at s' (lead (row_at b p n a)) ≡ 2 * bits_from b (linear_place p n k a) 2
    here =
        let x = lead (row_at b p n a) in
        let on : bit (2 ^ x) q ≡ 1 = ap (bit (2 ^ x)) eq ∙ bit-pow x in
        g.linear x (lead-48 a l) ∙ ap₂ (λ t u. (t + 2 * v * u) % 8) (w.todo a (omega arith) l) on
        ∙ ap (λ t. t % 8) (zero-add (2 * v * 1) ∙ mul-one (2 * v)) ∙ mod-eq_of_lt {n = 2 * v} {m = 8} (omega arith) ∙ ap (λ t. 2 * t) ev

    pub linear-more : LinearUpTo b p n k (a + 1) s₀ s'
    linear-more = record {
      space = g.space ∙ w.space;
      phase = g.phase ∙ w.phase;
      done = below_more _ _ (λ j i. other j (omega arith) (omega arith) ∙ w.done j i) here;
      todo = λ j i m. other j m (omega arith) ∙ w.todo j (omega arith) m;
      links = λ i j m h. g.coupling i j m h ∙ ap (λ t. t % 2) (add-zero (link s.form.coupling i j))
          ∙ mod-eq_of_lt (link-low s.form i j) ∙ w.links i j m h;
    }

  -- the coupling of rows a and c
  module _ (a c : ℕ) (l : a < c) (m : c < k) (s₀ s s' : PhasedSpace) (p' q v : ℕ) (ep : p' ≡ lead (row_at b p n a))
      (eq : q ≡ lead (row_at b p n c)) (low : v < 2) (ev : v ≡ bits_from b (place_of_coupling p n k a c) 1) (w : RowUpTo b p n k a c s₀ s)
      (g : CouplingGrown s s' p' q v) where
    abbrev at : ℕ → ℕ
    at i = lead (row_at b p n i)

    step : (i j : ℕ) → i < j → j < k → link_at b p n s' i j ≡ (link_at b p n s i j + v * (bit (2 ^ at i) p' * bit (2 ^ at j) q)) % 2
    step i j h h₂ = g.coupling (at i) (at j) (lead-48 i (omega arith)) (order b p n k good j h₂ i h)

    still : (i j : ℕ) → i < j → j < k → bit (2 ^ at i) p' * bit (2 ^ at j) q ≡ 0 → link_at b p n s' i j ≡ link_at b p n s i j
    still i j h h₂ z =
        step i j h h₂ ∙ ap (λ t. (link_at b p n s i j + v * t) % 2) z ∙ ap (λ t. (link_at b p n s i j + t) % 2) (mul-zero v)
        ∙ ap (λ t. t % 2) (add-zero (link_at b p n s i j)) ∙ mod-eq_of_lt (link-low s.form (at i) (at j))

    other_row : (i j : ℕ) → i ≢ a → i < j → j < k → link_at b p n s' i j ≡ link_at b p n s i j
    other_row i j ne h h₂ = still i j h h₂
        (ap (λ t. t * bit (2 ^ at j) q) (bit-pow-other (at i) p' (λ e. lead-apart i a (omega arith) (omega arith) ne (sym e ∙ ep)))
        ∙ zero-mul (bit (2 ^ at j) q))

    other-column : (j : ℕ) → j ≢ c → a < j → j < k → link_at b p n s' a j ≡ link_at b p n s a j
    other-column j ne h h₂ = still a j h h₂
        (ap (λ t. bit (2 ^ at a) p' * t) (bit-pow-other (at j) q (λ e. lead-apart j c h₂ m ne (sym e ∙ eq))) ∙ mul-zero (bit (2 ^ at a) p'))

    there : link_at b p n s' a c ≡ bits_from b (place_of_coupling p n k a c) 1
    there =
        let x : bit (2 ^ at a) p' ≡ 1 = ap (bit (2 ^ at a)) ep ∙ bit-pow (at a) in
        let y : bit (2 ^ at c) q ≡ 1 = ap (bit (2 ^ at c)) eq ∙ bit-pow (at c) in
        step a c l m ∙ ap₂ (λ t u. (t + v * u) % 2) (w.todo c l (omega arith) m) (ap₂ (λ t u. t * u) x y)
        ∙ ap (λ t. t % 2) (zero-add (v * 1) ∙ mul-one v) ∙ mod-eq_of_lt low ∙ ev

    pub row_more : RowUpTo b p n k a (c + 1) s₀ s'
    row_more = record {
      same = record {
        space = g.space ∙ w.same.space;
        phase = g.phase ∙ w.same.phase;
        linear = λ x i. g.linear x i ∙ ap (λ t. t % 8) (add-zero (coefficient_at s x)) ∙ mod-eq_of_lt (coef-low s.form x)
            ∙ w.same.linear x i;
      };
      done = λ j h i. elim (cases_eq j c) [
        | inl e ↦ ap (link_at b p n s' a) e ∙ there ∙ ap (λ t. bits_from b (place_of_coupling p n k a t) 1) (sym e)
        | inr ne ↦ other-column j ne h (omega arith) ∙ w.done j h (omega arith)
      ];
      todo = λ j h i o. other-column j (omega arith) h o ∙ w.todo j h (omega arith) o;
      others = λ i j ne h o. other_row i j ne h o ∙ w.others i j ne h o;
    }

  -- all couplings of row a
  pub rows_more : (a : ℕ) → a < k → (s₀ s s' : PhasedSpace) → CouplingUpTo b p n k a s₀ s → RowUpTo b p n k a k s s'
      → CouplingUpTo b p n k (a + 1) s₀ s'
  rows_more a l s₀ s s' w r = record {
    same = record {
      space = r.same.space ∙ w.same.space;
      phase = r.same.phase ∙ w.same.phase;
      linear = λ x i. r.same.linear x i ∙ w.same.linear x i;
    };
    done = λ i j h h₂ o. elim (cases_eq i a) [
      | inl e ↦ ap (λ t. link_at b p n s' t j) e ∙ r.done j (omega arith) o ∙ ap (λ t. bits_from b (place_of_coupling p n k t j) 1) (sym e)
      | inr ne ↦ r.others i j ne h₂ o ∙ w.done i j (omega arith) h₂ o
    ];
    todo = λ i j h h₂ o. r.others i j (omega arith) h₂ o ∙ w.todo i j (omega arith) h₂ o;
  }
