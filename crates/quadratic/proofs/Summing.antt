-- Variables summed out of a form, in any ring with w^4 = -1.
use Rattle.std.proofs.Common.{◌≡◌, ℕ, ◌+◌, ◌-◌, ◌*◌, ◌%◌, ◌^◌, ◌<◌, sym, refl, ap, ◌∙◌, ap₂, add-zero, add-one, arith}
use native.Mathlib.Nat.{mod-mod, mod-add-mod}
use lib.Bits.{bit_and, bit_xor, and_self}
use Rattle.cyclotomic.specs.Ring.{Ops, RingLaws, wpow, rpow, root, two}
use Rattle.cyclotomic.specs.CommFacts
use Rattle.cyclotomic.proofs.RingFacts
use Rattle.quadratic.specs.Bits.{bit, dot}
use Rattle.quadratic.specs.Sums.{over}
use Rattle.quadratic.proofs.Bitlaws.{digit}
use Rattle.quadratic.proofs.Dots.{dot-lt, dot-xor-r, dot-pow, dot-comm, and_assoc}
use Rattle.quadratic.proofs.Laws.{dot-and, dot-none, and_pow}
use Rattle.quadratic.proofs.Linear.{and-linear}
use Rattle.quadratic.proofs.Lowest.{undropped}
use Rattle.quadratic.proofs.Over

-- a part of a mask sees the row on the mask alone
row-part : (row rest x : ℕ) → Over.Part rest x → dot (bit_and row rest) x ≡ dot row x
row-part row rest x p = sym (dot-and row x rest) ∙ ap (dot row) p

-- adding in steps modulo 8
one-step : (v k : ℕ) → (v + k) % 8 % 8 ≡ (v + k) % 8
one-step v k = mod-mod (v + k) 8

two_steps : (v k t d : ℕ) → ((v + k) % 8 + t * d) % 8 % 8 ≡ (v + (k + t * d)) % 8
two_steps v k t d = mod-mod _ 8 ∙ mod-add-mod (v + k) 8 (t * d) ∙ ap (λ n. n % 8) (omega arith)

module _ {R : Type 0} {o : Ops R} (laws : RingLaws o) where
  infixl 65 ◌⊕◌
  infixl 70 ◌⊗◌
  open o use {nil, plus as ◌⊕◌, times as ◌⊗◌}
  open laws use {comm}

  -- 1 + w^(2 + 4x) = r w^(1 + 6x)
  sum-two : (Q x : ℕ) → x < 2 → wpow o Q ⊕ wpow o (Q + (2 + 4 * x)) ≡ root o ⊗ wpow o (Q + (1 + 6 * x))
  sum-two Q x = digit (λ x. wpow o Q ⊕ wpow o (Q + (2 + 4 * x)) ≡ root o ⊗ wpow o (Q + (1 + 6 * x)))
      (RingFacts.odd_base laws 0 Q) (RingFacts.odd_base laws 1 Q) x

  -- 1 + w^(6 + 4x) = r w^(7 + 2x)
  sum-six : (Q x : ℕ) → x < 2 → wpow o Q ⊕ wpow o (Q + (6 + 4 * x)) ≡ root o ⊗ wpow o (Q + (7 + 2 * x))
  sum-six Q x =
      digit (λ x. wpow o Q ⊕ wpow o (Q + (6 + 4 * x)) ≡ root o ⊗ wpow o (Q + (7 + 2 * x))) (RingFacts.odd_base laws 1 Q)
      (ap (◌⊕◌ (wpow o Q)) (RingFacts.wpow-mod laws _ _ (omega arith)) ∙ RingFacts.odd_base laws 0 Q
      ∙ ap (◌⊗◌ (root o)) (RingFacts.wpow-mod laws _ _ (omega arith))) x

  -- the same for the coefficient 2 + 4n
  pub odd_base : (n Q x : ℕ) → n < 2 → x < 2 → wpow o Q ⊕ wpow o (Q + (2 + 4 * n + 4 * x))
      ≡ root o ⊗ wpow o (Q + (1 + 6 * n + (6 - 4 * n) * x))
  odd_base n Q x ln lx =
      digit (λ n. wpow o Q ⊕ wpow o (Q + (2 + 4 * n + 4 * x)) ≡ root o ⊗ wpow o (Q + (1 + 6 * n + (6 - 4 * n) * x)))
      (sum-two Q x lx) (sum-six Q x lx) n ln

  -- a form by its values, one of its live variables, and that variable's row
  module _ (v : ℕ → ℕ) (live a row D : ℕ) (on : bit live a ≡ 1) (place : a < 48)
      (slope : (c : ℕ) → v (bit_xor c (2 ^ a)) ≡ (v c + (D + 4 * dot row c)) % 8) where
    turned : (x : ℕ) → wpow o (v (bit_xor x (2 ^ a))) ≡ wpow o (v x + (D + 4 * dot row x))
    turned x = RingFacts.wpow-mod laws _ _ (ap (λ n. n % 8) (slope x) ∙ one-step (v x) (D + 4 * dot row x))

    -- what a pair of terms comes to, it comes to in the sum
    summed : (k : R) (f : ℕ → R)
        → ((x : ℕ) → Over.Part (bit_xor live (2 ^ a)) x → wpow o (v x) ⊕ wpow o (v x + (D + 4 * dot row x)) ≡ k ⊗ f x)
        → over o (λ c. wpow o (v c)) live 48 0 ≡ k ⊗ over o f (bit_xor live (2 ^ a)) 48 0
    summed k f h =
        Over.over-out comm (λ c. wpow o (v c)) live a 48 0 on place
        ∙ Over.over-same comm _ (λ x. k ⊗ f x) (bit_xor live (2 ^ a)) 48 0 (λ x p. ap (◌⊕◌ (wpow o (v x))) (turned x) ∙ h x p) refl
        ∙ Over.over-times comm k f (bit_xor live (2 ^ a)) 48 0

    module _ (v₁ v' : ℕ → ℕ) (k t : ℕ) (one : (c : ℕ) → v₁ c ≡ (v c + k) % 8)
        (law : (c : ℕ) → v' c ≡ (v₁ c + t * dot (bit_and row (bit_xor live (2 ^ a))) c) % 8) where
      odd-value : (x : ℕ) → Over.Part (bit_xor live (2 ^ a)) x → wpow o (v x + (k + t * dot row x)) ≡ wpow o (v' x)
      odd-value x p =
          RingFacts.wpow-mod laws _ _
          (sym (ap (λ n. n % 8) (law x ∙ ap₂ (λ u d. (u + t * d) % 8) (one x) (row-part row (bit_xor live (2 ^ a)) x p))
          ∙ two_steps (v x) k t (dot row x)))

      -- a variable with the coefficient 2 or 6
      pub odd-out : ((Q x : ℕ) → x < 2 → wpow o Q ⊕ wpow o (Q + (D + 4 * x)) ≡ root o ⊗ wpow o (Q + (k + t * x)))
          → over o (λ c. wpow o (v c)) live 48 0 ≡ root o ⊗ over o (λ c. wpow o (v' c)) (bit_xor live (2 ^ a)) 48 0
      odd-out base = summed (root o) (λ c. wpow o (v' c)) (λ x p. base (v x) (dot row x) (dot-lt row x) ∙ ap (◌⊗◌ (root o)) (odd-value x p))

    -- a variable that is coupled with no live one
    module _ (alone : bit_and row live ≡ 0) where
      no-dot : (x : ℕ) → Over.Part (bit_xor live (2 ^ a)) x → dot row x ≡ 0
      no-dot x p =
          let inside : bit_and x live ≡ x = ap (λ y. bit_and y live) (sym p) ∙ and_assoc x (bit_xor live (2 ^ a)) live
          ∙ ap (bit_and x) sub ∙ p in
          ap (dot row) (sym inside) ∙ dot-and row x live ∙ ap (λ m. dot m x) alone ∙ dot-comm 0 x ∙ dot-none x
        where
          sub : bit_and (bit_xor live (2 ^ a)) live ≡ bit_xor live (2 ^ a)
          sub = and-linear live live (2 ^ a) ∙ ap₂ bit_xor (and_self live) (and_pow a live ∙ ap (λ b. b * 2 ^ a) on ∙ omega arith)

      pub lone-out : D ≡ 0 → over o (λ c. wpow o (v c)) live 48 0 ≡ two o ⊗ over o (λ c. wpow o (v c)) (bit_xor live (2 ^ a)) 48 0
      lone-out d = summed (two o) (λ c. wpow o (v c)) (λ x p.
          ap (λ n. wpow o (v x) ⊕ wpow o (v x + n)) (ap₂ (λ e y. e + 4 * y) d (no-dot x p))
          ∙ ap (λ n. wpow o (v x) ⊕ wpow o n) (add-zero (v x))
          ∙ sym (CommFacts.two_times comm (wpow o (v x))))

      pub lone-zero : D ≡ 4 → over o (λ c. wpow o (v c)) live 48 0 ≡ nil
      lone-zero d =
          summed nil (λ c. nil) (λ x p.
          ap (λ n. wpow o (v x) ⊕ wpow o (v x + n)) (ap₂ (λ e y. e + 4 * y) d (no-dot x p))
          ∙ ap (◌⊕◌ (wpow o (v x))) (RingFacts.wpow-mod laws _ (4 + v x) (omega arith) ∙ RingFacts.wpow-add laws 4 (v x))
          ∙ RingFacts.and-fourth laws (wpow o (v x))
          ∙ sym (CommFacts.times_nil comm nil))
          ∙ CommFacts.nil_times comm _

  -- two coupled variables, with the coefficients 4 α and 4 β
  module _ (v : ℕ → ℕ) (live a b row col α β : ℕ) (on : bit live a ≡ 1) (on' : bit live b ≡ 1) (apart : b ≡ a → ⊥)
      (place : a < 48) (place' : b < 48)
      (coupled : bit row b ≡ 1) (slope : (c : ℕ) → v (bit_xor c (2 ^ a)) ≡ (v c + (4 * α + 4 * dot row c)) % 8)
      (slope' : (c : ℕ) → v (bit_xor c (2 ^ b)) ≡ (v c + (4 * β + 4 * dot col c)) % 8) where
    abbrev left : ℕ
    left = bit_xor (bit_xor live (2 ^ a)) (2 ^ b)

    first : (x : ℕ) → wpow o (v (bit_xor x (2 ^ a))) ≡ wpow o (v x + 4 * (α + dot row x))
    first x = RingFacts.wpow-mod laws _ _
        (ap (λ n. n % 8) (slope x) ∙ one-step (v x) (4 * α + 4 * dot row x) ∙ ap (λ n. n % 8) (omega arith))

    second : (x : ℕ) → wpow o (v (bit_xor x (2 ^ b))) ≡ wpow o (v x + 4 * (β + dot col x))
    second x = RingFacts.wpow-mod laws _ _
        (ap (λ n. n % 8) (slope' x) ∙ one-step (v x) (4 * β + 4 * dot col x) ∙ ap (λ n. n % 8) (omega arith))

    both : (x : ℕ) → wpow o (v (bit_xor (bit_xor x (2 ^ b)) (2 ^ a))) ≡ wpow o (v x + 4 * (β + dot col x + (α + dot row x) + 1))
    both x =
        let flipped : dot row (bit_xor x (2 ^ b)) ≡ (dot row x + 1) % 2 = dot-xor-r row x (2 ^ b)
        ∙ ap (λ d. (dot row x + d) % 2) (dot-pow row b ∙ coupled) in
        RingFacts.wpow-mod laws _ _ (ap (λ n. n % 8) (slope (bit_xor x (2 ^ b)) ∙ ap₂ (λ w d. (w + (4 * α + 4 * d)) % 8) (slope' x) flipped)
        ∙ mod-mod _ 8 ∙ steps (v x) (dot row x) (dot col x))
      where
        steps : (v x y : ℕ) → ((v + (4 * β + 4 * y)) % 8 + (4 * α + 4 * ((x + 1) % 2))) % 8 ≡ (v + 4 * (β + y + (α + x) + 1)) % 8
        steps v x y = mod-add-mod (v + (4 * β + 4 * y)) 8 (4 * α + 4 * ((x + 1) % 2)) ∙ omega arith

    module _ (v₁ v₂ v₃ v' : ℕ → ℕ) (one : (c : ℕ) → v₁ c ≡ (v c + 4 * (α * β)) % 8)
        (law₂ : (c : ℕ) → v₂ c ≡ (v₁ c + 4 * α * dot (bit_and col left) c) % 8)
        (law₃ : (c : ℕ) → v₃ c ≡ (v₂ c + 4 * β * dot (bit_and row left) c) % 8)
        (law : (c : ℕ) → v' c ≡ (v₃ c + 4 * (dot (bit_and row left) c * dot (bit_and col left) c)) % 8) where
      pair-value : (x : ℕ) → Over.Part left x → wpow o (v x + 4 * ((β + dot col x) * (α + dot row x))) ≡ wpow o (v' x)
      pair-value x p =
          let r = row-part row left x p in
          let c = row-part col left x p in
          let e₁ = one x in
          let e₂ = law₂ x ∙ ap₂ (λ u d. (u + 4 * α * d) % 8) e₁ c in
          let e₃ = law₃ x ∙ ap₂ (λ u d. (u + 4 * β * d) % 8) e₂ r in
          let e = law x ∙ ap₂ (λ u d. (u + 4 * d) % 8) e₃ (ap₂ ◌*◌ r c) in
          RingFacts.wpow-mod laws _ _ (sym (ap (λ n. n % 8) e ∙ simp (mod-mod, mod-add-mod) (ap (λ n. n % 8) (omega arith))))

      pub pair-out : over o (λ c. wpow o (v c)) live 48 0 ≡ two o ⊗ over o (λ c. wpow o (v' c)) left 48 0
      pair-out =
          Over.over-out comm (λ c. wpow o (v c)) live a 48 0 on place
          ∙ Over.over-out comm _ (bit_xor live (2 ^ a)) b 48 0 (undropped live a b apart ∙ on') place'
          ∙ Over.over-same comm _ (λ x. two o ⊗ wpow o (v' x)) left 48 0 (λ x p.
          ap₂ ◌⊕◌ (ap (◌⊕◌ (wpow o (v x))) (first x)) (ap₂ ◌⊕◌ (second x) (both x))
          ∙ RingFacts.pair-base laws (β + dot col x) (α + dot row x) (v x)
          ∙ ap (◌⊗◌ (two o)) (pair-value x p)) refl
          ∙ Over.over-times comm (two o) (λ c. wpow o (v' c)) left 48 0

  -- one root, or two, move to the power before the sum
  pub root-out : (p : ℕ) (x y : R) → x ≡ root o ⊗ y → rpow o (p + 1) ⊗ y ≡ rpow o p ⊗ x
  root-out p x y e =
      ap (λ n. rpow o n ⊗ y) (add-one p) ∙ ap (λ t. t ⊗ y) (comm.times_comm (root o) (rpow o p))
      ∙ comm.times_assoc (rpow o p) (root o) y ∙ ap (◌⊗◌ (rpow o p)) (sym e)

  pub two_out : (p : ℕ) (x y : R) → x ≡ two o ⊗ y → rpow o (p + 2) ⊗ y ≡ rpow o p ⊗ x
  two_out p x y e =
      let n : p + 2 ≡ p + 1 + 1 = omega arith in
      ap (λ n. rpow o n ⊗ y) n ∙ root-out (p + 1) (root o ⊗ y) y refl
      ∙ root-out p (two o ⊗ y) (root o ⊗ y) (ap (λ t. t ⊗ y) (sym (RingFacts.root-square laws)) ∙ comm.times_assoc (root o) (root o) y)
      ∙ ap (◌⊗◌ (rpow o p)) (sym e)
