use Rattle.std.specs.Prelude.{◌≡◌}
use Rattle.std.proofs.Common.{sym, ap, ap₂, ◌∙◌}
use Rattle.cyclotomic.specs.Ring.{Ops, CommLaws, two}

module _ {R : Type 0} {o : Ops R} (laws : CommLaws o) where
  infixl 65 ◌⊕◌
  infixl 70 ◌⊗◌
  open o use {nil, one, neg, plus as ◌⊕◌, times as ◌⊗◌}

  -- the laws once more, as lemmas: a ruleset lists no field
  pub plus_comm : (x y : R) → x ⊕ y ≡ y ⊕ x
  plus_comm = laws.plus_comm

  pub plus_assoc : (x y z : R) → (x ⊕ y) ⊕ z ≡ x ⊕ (y ⊕ z)
  plus_assoc = laws.plus_assoc

  pub plus_nil : (x : R) → x ⊕ nil ≡ x
  plus_nil = laws.plus_nil

  pub plus_neg : (x : R) → x ⊕ neg x ≡ nil
  plus_neg = laws.plus_neg

  pub times_comm : (x y : R) → x ⊗ y ≡ y ⊗ x
  times_comm = laws.times_comm

  pub times_assoc : (x y z : R) → (x ⊗ y) ⊗ z ≡ x ⊗ (y ⊗ z)
  times_assoc = laws.times_assoc

  pub times_one : (x : R) → x ⊗ one ≡ x
  times_one = laws.times_one

  pub times_plus : (x y z : R) → x ⊗ (y ⊕ z) ≡ x ⊗ y ⊕ x ⊗ z
  times_plus = laws.times_plus

  pub nil_plus : (x : R) → nil ⊕ x ≡ x
  nil_plus x = plus_comm nil x ∙ plus_nil x

  pub one_times : (x : R) → one ⊗ x ≡ x
  one_times x = times_comm one x ∙ times_one x

  pub plus_left_comm : (x y z : R) → x ⊕ (y ⊕ z) ≡ y ⊕ (x ⊕ z)
  plus_left_comm x y z = sym (plus_assoc x y z) ∙ ap (λ s. s ⊕ z) (plus_comm x y) ∙ plus_assoc y x z

  pub times_left_comm : (x y z : R) → x ⊗ (y ⊗ z) ≡ y ⊗ (x ⊗ z)
  times_left_comm x y z = sym (times_assoc x y z) ∙ ap (λ s. s ⊗ z) (times_comm x y) ∙ times_assoc y x z

  pub plus_times : (x y z : R) → (x ⊕ y) ⊗ z ≡ x ⊗ z ⊕ y ⊗ z
  plus_times x y z = times_comm (x ⊕ y) z ∙ times_plus z x y ∙ ap₂ ◌⊕◌ (times_comm z x) (times_comm z y)

  -- four terms regrouped
  pub middle : (x y z u : R) → (x ⊕ y) ⊕ (z ⊕ u) ≡ (x ⊕ z) ⊕ (y ⊕ u)
  middle x y z u = simp (plus_assoc, plus_left_comm)

  pub times_middle : (x y z u : R) → (x ⊗ y) ⊗ (z ⊗ u) ≡ (x ⊗ z) ⊗ (y ⊗ u)
  times_middle x y z u = simp (times_assoc, times_left_comm)

  pub cancel : (x y z : R) → x ⊕ z ≡ y ⊕ z → x ≡ y
  cancel x y z h = sym (back x) ∙ ap (λ s. s ⊕ neg z) h ∙ back y
    where
      back : (t : R) → (t ⊕ z) ⊕ neg z ≡ t
      back t = simp (plus_assoc, plus_neg, plus_nil)

  pub times_nil : (x : R) → x ⊗ nil ≡ nil
  times_nil x = cancel (x ⊗ nil) nil (x ⊗ nil) (sym (times_plus x nil nil) ∙ ap (◌⊗◌ x) (plus_nil nil) ∙ sym (nil_plus (x ⊗ nil)))

  pub nil_times : (x : R) → nil ⊗ x ≡ nil
  nil_times x = times_comm nil x ∙ times_nil x

  pub neg_neg : (x : R) → neg (neg x) ≡ x
  neg_neg x = cancel (neg (neg x)) x (neg x) (plus_comm (neg (neg x)) (neg x) ∙ plus_neg (neg x) ∙ sym (plus_neg x))

  pub neg_times : (x y : R) → neg x ⊗ y ≡ neg (x ⊗ y)
  neg_times x y = cancel (neg x ⊗ y) (neg (x ⊗ y)) (x ⊗ y)
      (sym (plus_times (neg x) x y) ∙ ap (λ s. s ⊗ y) (plus_comm (neg x) x ∙ plus_neg x) ∙ times_comm nil y
      ∙ times_nil y ∙ sym (plus_comm (neg (x ⊗ y)) (x ⊗ y) ∙ plus_neg (x ⊗ y)))

  pub times_neg : (x y : R) → x ⊗ neg y ≡ neg (x ⊗ y)
  times_neg x y = times_comm x (neg y) ∙ neg_times y x ∙ ap neg (times_comm y x)

  pub neg_nil : neg nil ≡ nil
  neg_nil = sym (nil_plus (neg nil)) ∙ plus_neg nil

  pub neg_plus : (x y : R) → neg (x ⊕ y) ≡ neg x ⊕ neg y
  neg_plus x y = cancel _ _ (x ⊕ y) (plus_comm _ _ ∙ plus_neg (x ⊕ y)
      ∙ sym (middle (neg x) (neg y) x y ∙ ap₂ ◌⊕◌ (plus_comm _ _ ∙ plus_neg x) (plus_comm _ _ ∙ plus_neg y) ∙ plus_nil nil))

  pub two_times : (x : R) → two o ⊗ x ≡ x ⊕ x
  two_times x = plus_times one one x ∙ ap₂ ◌⊕◌ (one_times x) (one_times x)

  -- equal differences
  pub differ : (x y z u : R) → x ⊕ u ≡ z ⊕ y → x ⊕ neg y ≡ z ⊕ neg u
  differ x y z u h = cancel _ _ (u ⊕ y) (left x y u ∙ h ∙ sym (right z y u))
    where
      left : (x y u : R) → (x ⊕ neg y) ⊕ (u ⊕ y) ≡ x ⊕ u
      left x y u = middle x (neg y) u y ∙ ap (◌⊕◌ (x ⊕ u)) (plus_comm _ _ ∙ plus_neg y) ∙ plus_nil (x ⊕ u)

      right : (z y u : R) → (z ⊕ neg u) ⊕ (u ⊕ y) ≡ z ⊕ y
      right z y u = ap (◌⊕◌ _) (plus_comm u y) ∙ left z u y

  -- every equation between sums of products
  pub ruleset ring = (times_plus, plus_times, times_assoc, times_comm, times_left_comm, plus_assoc, plus_comm, plus_left_comm)

  -- what nil and one take away
  pub ruleset units = (times_nil, nil_times, times_one, one_times, plus_nil, nil_plus)

  -- neg moves inwards in a sum and outwards in a product
  pub ruleset negs = (neg_nil, neg_neg, neg_plus, neg_times, times_neg)
