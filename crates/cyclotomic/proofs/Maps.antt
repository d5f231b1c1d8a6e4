-- Maps between rings, and the one from Z[ω] into a ring with w⁴ = −1.
use borrow.Author.Differences.{up, down}
use Rattle.std.proofs.Common.{◌≡◌, ℕ, zero, suc, ◌+◌, ◌*◌, ℤ, sym, ap, ap₂, ◌∙◌, zero-add, suc-add, zero-mul, suc-mul}
use Rattle.cyclotomic.specs.Ring.{Ops, CommLaws}
use Rattle.cyclotomic.specs.Adjoin.{Pair, Omega}
use Rattle.cyclotomic.specs.CommFacts.{nil_plus, one_times, nil_times, plus_times}

-- h respects the operations
pub record Hom {A B : Type 0} (o : Ops A) (p : Ops B) (h : A → B) : Type 0 where
  pub one_to : h o.one ≡ p.one
  pub plus_to : (x y : A) → h (o.plus x y) ≡ p.plus (h x) (h y)
  pub times_to : (x y : A) → h (o.times x y) ≡ p.times (h x) (h y)

-- n times 1
abbrev pub num : {R : Type 0} → Ops R → ℕ → R
num o zero = o.nil
num o (suc n) = o.plus o.one (num o n)

-- a + b √s goes to h a + h b t
abbrev pub extend : {A B : Type 0} → Ops B → (A → B) → B → Pair A → B
extend p h t x = p.plus (h x.re) (p.times (h x.im) t)

abbrev pub int_to : {R : Type 0} → Ops R → ℤ → R
int_to o z = o.plus (num o (up z)) (o.neg (num o (down z)))

abbrev pub gauss_to : {R : Type 0} → Ops R → Pair ℤ → R
gauss_to o = extend o (int_to o) (o.times o.w o.w)

-- a0 + a1 w + a2 w^2 + a3 w^3, in any ring with w
abbrev pub omega_to : {R : Type 0} → Ops R → Omega → R
omega_to o = extend o (gauss_to o) o.w

module _ {R : Type 0} {o : Ops R} (laws : CommLaws o) where
  infixl 65 ◌⊕◌
  infixl 70 ◌⊗◌
  open o use {one, plus as ◌⊕◌, times as ◌⊗◌}
  open laws use {plus_comm, plus_assoc}

  pub num_plus : (a b : ℕ) → num o (a + b) ≡ num o a ⊕ num o b
  num_plus zero b = rw zero-add (sym (nil_plus laws (num o b)))
  num_plus (suc a) b = rw suc-add (ap (◌⊕◌ one) (num_plus a b) ∙ sym (plus_assoc one (num o a) (num o b)))

  pub num_times : (a b : ℕ) → num o (a * b) ≡ num o a ⊗ num o b
  num_times zero b = rw zero-mul (sym (nil_times laws (num o b)))
  num_times (suc a) b = rw suc-mul (num_plus (a * b) b ∙ plus_comm _ _ ∙ ap₂ ◌⊕◌ (sym (one_times laws (num o b))) (num_times a b)
      ∙ sym (plus_times laws one (num o a) (num o b)))
