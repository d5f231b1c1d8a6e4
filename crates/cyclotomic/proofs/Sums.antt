use Rattle.std.proofs.Common.{◌≡◌, ℕ, zero, suc, ◌<◌, Bool, true, false, eqb, sym, refl, ap, ◌∙◌, ap₂, arith, eq-eqb, ne_eqb}
use native.Mathlib.Decide.{ℕ_discrete}
use borrow.Author.Tests.{clash}
use Rattle.cyclotomic.specs.Ring.{Ops, CommLaws}
use Rattle.cyclotomic.specs.Sum.{sum_to, only}
use Rattle.cyclotomic.specs.CommFacts

-- φ takes the numbers below m, one to one, to those below n at which P holds
pub record Onto (φ : ℕ → ℕ) (m n : ℕ) (P : ℕ → Bool) : Type 0 where
  pub into : (z : ℕ) → z < m → φ z < n
  pub holds : (z : ℕ) → z < m → P (φ z) ≡ true
  pub apart : (z y : ℕ) → z < m → y < m → φ z ≡ φ y → z ≡ y
  pub meets : (c : ℕ) → c < n → P c ≡ true → (z : ℕ) × (z < m) × (φ z ≡ c)

module _ {R : Type 0} {o : Ops R} (laws : CommLaws o) where
  infixl 65 ◌⊕◌
  infixl 70 ◌⊗◌
  open o use {nil, one, plus as ◌⊕◌, times as ◌⊗◌}
  open laws use {plus_assoc, plus_nil, times_plus, times_comm}

  pub sum_same : (f g : ℕ → R) (n : ℕ) → ((c : ℕ) → c < n → f c ≡ g c) → sum_to o f n ≡ sum_to o g n
  sum_same f g zero h = refl
  sum_same f g (suc n) h = ap₂ ◌⊕◌ (sum_same f g n (λ c l. h c (omega arith))) (h n (omega arith))

  -- every term is 0
  pub sum-nil : (f : ℕ → R) (n : ℕ) → ((c : ℕ) → c < n → f c ≡ nil) → sum_to o f n ≡ nil
  sum-nil f zero h = refl
  sum-nil f (suc n) h = ap₂ ◌⊕◌ (sum-nil f n (λ c l. h c (omega arith))) (h n (omega arith)) ∙ plus_nil nil

  pub sum-plus : (f g : ℕ → R) (n : ℕ) → sum_to o (λ c. f c ⊕ g c) n ≡ sum_to o f n ⊕ sum_to o g n
  sum-plus f g zero = sym (plus_nil nil)
  sum-plus f g (suc n) = ap (λ s. s ⊕ (f n ⊕ g n)) (sum-plus f g n) ∙ CommFacts.middle laws _ _ _ _

  pub sum-times : (x : R) (f : ℕ → R) (n : ℕ) → sum_to o (λ c. x ⊗ f c) n ≡ x ⊗ sum_to o f n
  sum-times x f zero = sym (CommFacts.times_nil laws x)
  sum-times x f (suc n) = ap (λ s. s ⊕ x ⊗ f n) (sum-times x f n) ∙ sym (times_plus x _ _)

  sum-swap : (f : ℕ → ℕ → R) (n m : ℕ) → sum_to o (λ a. sum_to o (λ b. f a b) m) n ≡ sum_to o (λ b. sum_to o (λ a. f a b) n) m
  sum-swap f zero m = sym (sum-nil (λ b. nil) m (λ c l. refl))
  sum-swap f (suc n) m = ap (λ s. s ⊕ sum_to o (f n) m) (sum-swap f n m) ∙ sym (sum-plus (λ b. sum_to o (λ a. f a b) n) (f n) m)

  -- every term but the one at z is 0
  sum_one : (f : ℕ → R) (n z : ℕ) → z < n → ((c : ℕ) → c < n → ¬ (c ≡ z) → f c ≡ nil) → sum_to o f n ≡ f z
  sum_one f zero z l h = absurd (omega arith)
  sum_one f (suc n) z l h = at (ℕ_discrete z n) (sum_one f n z)
    where
      at : Dec (z ≡ n) → (z < n → ((c : ℕ) → c < n → ¬ (c ≡ z) → f c ≡ nil) → sum_to o f n ≡ f z) → sum_to o f (suc n) ≡ f z
      at (yes e) back = ap₂ ◌⊕◌ (sum-nil f n (λ c k. h c (omega arith) (omega arith))) (ap f (sym e)) ∙ CommFacts.nil_plus laws (f z)
      at (no d) back = ap₂ ◌⊕◌ (back (omega arith) (λ c k. h c (omega arith))) (h n (omega arith) (omega arith)) ∙ plus_nil (f z)

  delta : (f : ℕ → R) (n z : ℕ) → z < n → sum_to o (λ y. only o (eqb y z) (f y)) n ≡ f z
  delta f n z l = sum_one _ n z l (λ c k d. ap (λ b. only o b (f c)) (ne_eqb c z d)) ∙ ap (λ b. only o b (f z)) (eq-eqb z z refl)

  -- the terms at φ z are the terms at which P holds
  pub reindex : (φ : ℕ → ℕ) (m n : ℕ) (P : ℕ → Bool) (f : ℕ → R) → Onto φ m n P → sum_to o (λ z. f (φ z)) m
      ≡ sum_to o (λ c. only o (P c) (f c)) n
  reindex φ m n P f onto =
      sum_same _ _ m (λ z l. sym (delta f n (φ z) (onto.into z l)))
      ∙ sum-swap (λ z c. only o (eqb c (φ z)) (f c)) m n
      ∙ sum_same _ _ n (λ c l. column c l (P c) refl)
    where
      column : (c : ℕ) → c < n → (b : Bool) → P c ≡ b → sum_to o (λ z. only o (eqb c (φ z)) (f c)) m ≡ only o b (f c)
      column c l true e =
          let (z, k, q) = onto.meets c l e in
          sum_one _ m z k (λ y j d. ap (λ b. only o b (f c)) (ne_eqb c (φ y) (λ s. d (onto.apart y z j k (sym s ∙ sym q)))))
          ∙ ap (λ b. only o b (f c)) (eq-eqb c (φ z) (sym q))
      column c l false e = sum-nil _ m (λ z j. ap (λ b. only o b (f c)) (ne_eqb c (φ z) (λ s. clash (sym e ∙ ap P s ∙ onto.holds z j))))

  -- φ permutes the numbers below n, with the inverse ψ
  permute : (φ ψ : ℕ → ℕ) (n : ℕ) (f : ℕ → R) → ((y : ℕ) → y < n → φ y < n) → ((y : ℕ) → y < n → ψ y < n)
      → ((y : ℕ) → y < n → ψ (φ y) ≡ y) → ((y : ℕ) → y < n → φ (ψ y) ≡ y) → sum_to o (λ y. f (φ y)) n ≡ sum_to o f n
  permute φ ψ n f into out back there = reindex φ n n (λ c. true) f (record {
    into = into;
    holds = λ z l. refl;
    apart = λ z y l k e. sym (back z l) ∙ ap ψ e ∙ back y k;
    meets = λ c l e. (ψ c, out c l, there c l);
  })

  pub involute : (φ : ℕ → ℕ) (n : ℕ) (f : ℕ → R) → ((y : ℕ) → y < n → φ y < n) → ((y : ℕ) → y < n → φ (φ y) ≡ y)
      → sum_to o (λ y. f (φ y)) n ≡ sum_to o f n
  involute φ n f into back = permute φ φ n f into into back back
