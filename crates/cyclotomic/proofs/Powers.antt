-- Powers by squaring.
use Rattle.std.proofs.Common.{◌≡◌, ℕ, zero, suc, ◌+◌, ◌/◌, ◌%◌, ◌⊎◌, refl, ap, ap₂, ◌∙◌, inl, inr, add-suc, suc-add, arith}
use Rattle.cyclotomic.specs.Ring.{Ops, CommLaws, power}

module _ {R : Type 0} {o : Ops R} (laws : CommLaws o) where
  infixl 70 ◌⊗◌
  open o use {one, times as ◌⊗◌}
  open laws use {times_assoc, times_one}

  square-power : (x : R) (n : ℕ) → power o (x ⊗ x) n ≡ power o x (n + n)
  square-power x zero = refl
  square-power x (suc n) = rw (suc-add, add-suc) (ap (◌⊗◌ (x ⊗ x)) (square-power x n) ∙ times_assoc x x _)

  -- an even exponent
  pub even_step : (r x : R) (n : ℕ) → (n % 2 ≡ 1 → ⊥) → r ⊗ power o (x ⊗ x) (n / 2) ≡ r ⊗ power o x n
  even_step r x n h =
      let e : n / 2 + n / 2 ≡ n = omega arith in
      ap (◌⊗◌ r) (square-power x (n / 2) ∙ ap (power o x) e)

  -- an odd one
  odd_step : (r x : R) (n : ℕ) → n % 2 ≡ 1 → (r ⊗ x) ⊗ power o (x ⊗ x) (n / 2) ≡ r ⊗ power o x n
  odd_step r x n h =
      let e : suc (n / 2 + n / 2) ≡ n = omega arith in
      times_assoc r x _ ∙ ap (◌⊗◌ r) (ap (◌⊗◌ x) (square-power x (n / 2)) ∙ ap (power o x) e)

  -- what is left of a power after a step of squaring
  pub step : (r r' x x' : R) (n : ℕ) → x' ≡ x ⊗ x → ((n % 2 ≡ 1) × (r' ≡ r ⊗ x)) ⊎ ((n % 2 ≡ 1 → ⊥) × (r' ≡ r))
      → r' ⊗ power o x' (n / 2) ≡ r ⊗ power o x n
  step r r' x x' n s (inl (h, e)) = ap₂ (λ a b. a ⊗ power o b (n / 2)) e s ∙ odd_step r x n h
  step r r' x x' n s (inr (h, e)) = ap₂ (λ a b. a ⊗ power o b (n / 2)) e s ∙ even_step r x n h
