use Rattle.std.proofs.Common.{◌≡◌, ℕ, zero, suc, ◌+◌, ◌*◌, ◌/◌, ◌%◌, ◌^◌, ◌<◌, sym, refl, ap, ◌∙◌, ap₂, suc-add, zero-add, arith}
use Rattle.cyclotomic.specs.Ring.{Ops, RingLaws, wpow, root, two, rpow, exact}
use Rattle.cyclotomic.specs.CommFacts.{nil_plus, one_times, plus_times, cancel, neg_times, neg_neg, middle, times_middle}
use Rattle.cyclotomic.specs.CommFacts.{two_times}
use Rattle.cyclotomic.proofs.Maps.{num, num_plus}

-- what holds at 0 to 7 holds below 8
pub below-eight : (P : ℕ → Type 0) → P 0 → P 1 → P 2 → P 3 → P 4 → P 5 → P 6 → P 7 → (m : ℕ) → m < 8 → P m
below-eight P a b c d e f g h zero l = a
below-eight P a b c d e f g h (suc zero) l = b
below-eight P a b c d e f g h (suc (suc zero)) l = c
below-eight P a b c d e f g h (suc (suc (suc zero))) l = d
below-eight P a b c d e f g h (suc (suc (suc (suc zero)))) l = e
below-eight P a b c d e f g h (suc (suc (suc (suc (suc zero))))) l = f
below-eight P a b c d e f g h (suc (suc (suc (suc (suc (suc zero)))))) l = g
below-eight P a b c d e f g h (suc (suc (suc (suc (suc (suc (suc zero))))))) l = h
below-eight P a b c d e f g h (suc (suc (suc (suc (suc (suc (suc (suc m)))))))) l = absurd (omega arith)

module _ {R : Type 0} {o : Ops R} (laws : RingLaws o) where
  infixl 65 ◌⊕◌
  infixl 70 ◌⊗◌
  open o use {nil, one, w, neg, plus as ◌⊕◌, times as ◌⊗◌}
  open laws use {comm, w_fourth}
  open laws.comm use {plus_comm, plus_assoc, plus_nil, plus_neg, times_comm, times_assoc, times_one, times_plus}

  pub wpow-add : (i j : ℕ) → wpow o (i + j) ≡ wpow o i ⊗ wpow o j
  wpow-add zero j = rw zero-add (sym (one_times comm (wpow o j)))
  wpow-add (suc i) j = rw suc-add (ap (◌⊗◌ w) (wpow-add i j) ∙ sym (times_assoc w (wpow o i) (wpow o j)))

  pub wpow-four : wpow o 4 ≡ neg one
  wpow-four = cancel comm (wpow o 4) (neg one) one
      (simp (← times_assoc, times_one) (w_fourth ∙ sym (plus_comm (neg one) one ∙ plus_neg one)))

  wpow-four-more : (m : ℕ) → wpow o (4 + m) ≡ neg (wpow o m)
  wpow-four-more m = wpow-add 4 m ∙ ap (λ s. s ⊗ wpow o m) wpow-four ∙ neg_times comm one (wpow o m) ∙ ap neg (one_times comm (wpow o m))

  wpow-eight : (m : ℕ) → wpow o (8 + m) ≡ wpow o m
  wpow-eight m =
      let e : 8 + m ≡ 4 + (4 + m) = omega arith in
      ap (wpow o) e ∙ wpow-four-more (4 + m) ∙ ap neg (wpow-four-more m) ∙ neg_neg comm (wpow o m)

  wpow-eights : (k m : ℕ) → wpow o (8 * k + m) ≡ wpow o m
  wpow-eights zero m = ap (wpow o) (omega arith)
  wpow-eights (suc k) m =
      let e : 8 * suc k + m ≡ 8 + (8 * k + m) = omega arith in
      ap (wpow o) e ∙ wpow-eight (8 * k + m) ∙ wpow-eights k m

  pub wpow-least : (m : ℕ) → wpow o m ≡ wpow o (m % 8)
  wpow-least m =
      let e : m ≡ 8 * (m / 8) + m % 8 = omega arith in
      ap (wpow o) e ∙ wpow-eights (m / 8) (m % 8)

  pub wpow-mod : (m n : ℕ) → m % 8 ≡ n % 8 → wpow o m ≡ wpow o n
  wpow-mod m n h = wpow-least m ∙ ap (wpow o) h ∙ sym (wpow-least n)

  wpow-skip : (k m n : ℕ) → n ≡ 8 * k + m → wpow o n ≡ wpow o m
  wpow-skip k m n h = ap (wpow o) h ∙ wpow-eights k m

  -- the root times a power
  root-wpow : (m : ℕ) → root o ⊗ wpow o m ≡ wpow o (1 + m) ⊕ wpow o (7 + m)
  root-wpow m = plus_times comm (wpow o 1) (wpow o 7) (wpow o m) ∙ ap₂ ◌⊕◌ (sym (wpow-add 1 m)) (sym (wpow-add 7 m))

  pub root-square : root o ⊗ root o ≡ two o
  root-square =
      times_plus (root o) (wpow o 1) (wpow o 7)
      ∙ ap₂ ◌⊕◌ (root-wpow 1 ∙ ap (◌⊕◌ (wpow o 2)) (wpow-eight 0)) (root-wpow 7 ∙ ap₂ ◌⊕◌ (wpow-eight 0) (wpow-eight 6 ∙ wpow-four-more 2))
      ∙ sums (wpow o 2)
    where
      sums : (x : R) → (x ⊕ one) ⊕ (one ⊕ neg x) ≡ one ⊕ one
      sums x = ap (◌⊕◌ (x ⊕ one)) (plus_comm one (neg x)) ∙ middle comm x one (neg x) one ∙ ap (λ s. s ⊕ (one ⊕ one)) (plus_neg x)
          ∙ nil_plus comm _

  pub one-two : one ⊕ wpow o 2 ≡ root o ⊗ w
  one-two = sym (ap (◌⊗◌ (root o)) (sym (times_one w)) ∙ root-wpow 1 ∙ ap (◌⊕◌ (wpow o 2)) (wpow-eight 0) ∙ plus_comm _ _)

  pub one-six : one ⊕ wpow o 6 ≡ root o ⊗ wpow o 7
  one-six = sym (root-wpow 7 ∙ ap₂ ◌⊕◌ (wpow-eight 0) (wpow-eight 6))

  pub one-four : one ⊕ wpow o 4 ≡ nil
  one-four = ap (◌⊕◌ one) wpow-four ∙ plus_neg one

  -- the sum over one variable whose coefficient is 2 (mod 4)
  pub odd_base : (δ Q : ℕ) → wpow o Q ⊕ wpow o (Q + (2 + 4 * δ)) ≡ root o ⊗ wpow o (Q + (1 + 6 * (δ * δ)))
  odd_base zero Q = ap₂ ◌⊕◌ (wpow-mod _ _ (omega arith)) (wpow-mod _ _ (omega arith)) ∙ plus_comm _ _ ∙ sym (root-wpow (Q + 1))
  odd_base (suc zero) Q = ap₂ ◌⊕◌ (wpow-mod _ _ (omega arith)) (wpow-mod _ _ (omega arith)) ∙ sym (root-wpow (Q + 7))
  odd_base (suc (suc δ)) Q = ap (◌⊕◌ (wpow o Q)) (wpow-mod _ _ (omega arith)) ∙ odd_base δ Q
      ∙ ap (◌⊗◌ (root o)) (sym (wpow-skip (3 * δ + 3) _ _ (omega arith)))

  pub and-fourth : (x : R) → x ⊕ wpow o 4 ⊗ x ≡ nil
  and-fourth x = ap (λ s. x ⊕ s ⊗ x) wpow-four ∙ ap (◌⊕◌ x) (neg_times comm one x ∙ ap neg (one_times comm x)) ∙ plus_neg x

  wpow-opposite : (m : ℕ) → wpow o m ⊕ wpow o (m + 4) ≡ nil
  wpow-opposite m = ap (◌⊕◌ (wpow o m)) (wpow-mod _ (4 + m) (omega arith) ∙ wpow-four-more m) ∙ plus_neg (wpow o m)

  three-one : (x y : R) → x ⊕ y ≡ nil → (x ⊕ x) ⊕ (x ⊕ y) ≡ two o ⊗ x
  three-one x y h = ap (◌⊕◌ (x ⊕ x)) h ∙ plus_nil (x ⊕ x) ∙ sym (two_times comm x)

  four : (a b c d : ℕ) (x y z u : ℕ) → a % 8 ≡ x % 8 → b % 8 ≡ y % 8 → c % 8 ≡ z % 8 → d % 8 ≡ u % 8
      → (wpow o a ⊕ wpow o b) ⊕ (wpow o c ⊕ wpow o d) ≡ (wpow o x ⊕ wpow o y) ⊕ (wpow o z ⊕ wpow o u)
  four a b c d x y z u h k l m = ap₂ ◌⊕◌ (ap₂ ◌⊕◌ (wpow-mod a x h) (wpow-mod b y k)) (ap₂ ◌⊕◌ (wpow-mod c z l) (wpow-mod d u m))

  -- the sum over two variables that meet
  pub pair-base : (α β Q : ℕ) → (wpow o Q ⊕ wpow o (Q + 4 * β)) ⊕ (wpow o (Q + 4 * α) ⊕ wpow o (Q + 4 * (α + β + 1)))
      ≡ two o ⊗ wpow o (Q + 4 * (α * β))
  pair-base zero zero Q = four _ _ _ _ (Q + 0) (Q + 0) (Q + 0) (Q + 0 + 4) (omega arith) refl refl (omega arith)
      ∙ three-one _ _ (wpow-opposite (Q + 0))
  pair-base zero (suc zero) Q = four _ _ _ _ (Q + 0) (Q + 0 + 4) (Q + 0) (Q + 0) (omega arith) (omega arith) refl (omega arith)
      ∙ plus_comm _ _ ∙ three-one _ _ (wpow-opposite (Q + 0))
  pair-base (suc zero) zero Q = four _ _ _ _ (Q + 0) (Q + 0) (Q + 0 + 4) (Q + 0) (omega arith) refl (omega arith) (omega arith)
      ∙ ap (◌⊕◌ _) (plus_comm _ _) ∙ three-one _ _ (wpow-opposite (Q + 0))
  pair-base (suc zero) (suc zero) Q = plus_comm _ _ ∙ four _ _ _ _ (Q + 4) (Q + 4) (Q + 4 + 4) (Q + 4) refl
      (omega arith) (omega arith) refl ∙ ap (◌⊕◌ _) (plus_comm _ _) ∙ three-one _ _ (wpow-opposite (Q + 4))
  pair-base zero (suc (suc β)) Q = four _ _ _ _ _ _ _ _ refl (omega arith) refl (omega arith) ∙ pair-base zero β Q
      ∙ ap (◌⊗◌ (two o)) (ap (wpow o) (omega arith))
  pair-base (suc zero) (suc (suc β)) Q = four _ _ _ _ _ _ _ _ refl (omega arith) refl (omega arith)
      ∙ pair-base (suc zero) β Q ∙ ap (◌⊗◌ (two o)) (wpow-mod _ _ (omega arith))
  pair-base (suc (suc α)) β Q = ap (◌⊕◌ _) (ap₂ ◌⊕◌ (wpow-mod _ _ (omega arith)) (wpow-mod _ _ (omega arith)))
      ∙ pair-base α β Q ∙ ap (◌⊗◌ (two o)) (sym (wpow-skip β _ _ (omega arith)))

  pub rpow-add : (i j : ℕ) → rpow o (i + j) ≡ rpow o i ⊗ rpow o j
  rpow-add zero j = rw zero-add (sym (one_times comm (rpow o j)))
  rpow-add (suc i) j = rw suc-add (ap (◌⊗◌ (root o)) (rpow-add i j) ∙ sym (times_assoc (root o) (rpow o i) (rpow o j)))

  pub exact-times : (p m q n : ℕ) → exact o p m ⊗ exact o q n ≡ exact o (p + q) (m + n)
  exact-times p m q n = times_middle comm _ _ _ _ ∙ sym (ap₂ ◌⊗◌ (rpow-add p q) (wpow-add m n))

  -- r^p r^p = 2^p
  pub rpow-square : (p : ℕ) → rpow o p ⊗ rpow o p ≡ num o (2 ^ p)
  rpow-square zero = times_one one ∙ sym (plus_nil one)
  rpow-square (suc p) =
      let e : 2 ^ suc p ≡ 2 ^ p + 2 ^ p = omega arith in
      times_middle comm _ _ _ _ ∙ ap₂ ◌⊗◌ root-square (rpow-square p) ∙ two_times comm _
      ∙ sym (ap (num o) e ∙ num_plus comm (2 ^ p) (2 ^ p))

  -- where 2 can be cancelled, so can the powers of r
  module _ (halve : (x y : R) → x ⊕ x ≡ y ⊕ y → x ≡ y) where
    root-same : (x y : R) → root o ⊗ x ≡ root o ⊗ y → x ≡ y
    root-same x y h = halve x y (sym (twice x) ∙ ap (◌⊗◌ (root o)) h ∙ twice y)
      where
        twice : (z : R) → root o ⊗ (root o ⊗ z) ≡ z ⊕ z
        twice z = sym (times_assoc (root o) (root o) z) ∙ ap (λ s. s ⊗ z) root-square ∙ two_times comm z

    pub rpow-same : (p : ℕ) (x y : R) → rpow o p ⊗ x ≡ rpow o p ⊗ y → x ≡ y
    rpow-same zero x y h = sym (one_times comm x) ∙ h ∙ one_times comm y
    rpow-same (suc p) x y h = rpow-same p x y
        (root-same _ _ (sym (times_assoc (root o) (rpow o p) x) ∙ h ∙ times_assoc (root o) (rpow o p) y))
