use Rattle.std.specs.Prelude.{◌≡◌, ℕ, ◌+◌, ◌-◌, ◌*◌, ◌/◌, ◌%◌, ◌^◌, ◌<◌, refl}
use Rattle.std.proofs.Common.{sym, ap, ◌∙◌, add-zero, add_comm, add_assoc, mul-one, mul_comm, mul_assoc, mul-add, add-mul, mod-eq_of_lt, arith, lit<}
use mathlib.Core.HLevel.{Σ_prop_path}
use Rattle.std.proofs.Math.Bridge.{le_prop}
use Rattle.std.proofs.Math.Nat.{mod_self, zero-mod, mod-add-mod, add-mod-mod, add-mul-mod_self_left, mod-add-div}
use Rattle.cyclotomic.specs.Ring.{CommLaws, RingLaws}
use Rattle.cyclotomic.specs.Modular.{Below, low, residues, seventeen, quads}
use Rattle.cyclotomic.specs.AdjoinLaws

pub same : {n : ℕ} {x y : Below n} → x.0 ≡ y.0 → x ≡ y
same h = Σ_prop_path (λ n. le_prop) h

module _ (n : ℕ) where
  pub mod_mul_mod : (a b : ℕ) → (a % n * b) % n ≡ (a * b) % n
  mod_mul_mod a b =
      sym (add-mul-mod_self_left (a % n * b) n (a / n * b))
      ∙ ap (λ k. k % n) (ap (◌+◌ (a % n * b)) (sym (mul_assoc n (a / n) b)) ∙ sym (add-mul (a % n) (n * (a / n)) b)
      ∙ ap (λ k. k * b) (mod-add-div a n))

  pub mul_mod_mod : (a b : ℕ) → (a * (b % n)) % n ≡ (a * b) % n
  mul_mod_mod a b = ap (λ k. k % n) (mul_comm a (b % n)) ∙ mod_mul_mod b a ∙ ap (λ k. k % n) (mul_comm b a)

  module _ (h : 0 < n) where
    pub residue_laws : (w : ℕ) → CommLaws (residues h w)
    residue_laws w = record {
      plus_comm = λ x y. same (ap (λ k. k % n) (add_comm x.0 y.0));
      plus_assoc = λ x y z. same (simp (mod-add-mod, add-mod-mod, add_assoc));
      plus_nil = λ x. same (simp (zero-mod, add-zero) (mod-eq_of_lt x.1));
      plus_neg = λ x. same (simp (add-mod-mod, zero-mod) (ap (λ k. k % n) (whole x.0 x.1) ∙ mod_self n));
      times_comm = λ x y. same (ap (λ k. k % n) (mul_comm x.0 y.0));
      times_assoc = λ x y z. same (simp (mod_mul_mod, mul_mod_mod, mul_assoc));
      times_one = λ x. same (simp (mul_mod_mod, mul-one) (mod-eq_of_lt x.1));
      times_plus = λ x y z. same (simp (mod-add-mod, add-mod-mod, mul_mod_mod, mul-add));
    }
      where
        whole : (k : ℕ) → k < n → k + (n - k) ≡ n
        whole k l = omega arith

    pub low_plus : (w a b : ℕ) → low h (a + b) ≡ (residues h w).plus (low h a) (low h b)
    low_plus w a b = same (simp (mod-add-mod, add-mod-mod))

    pub low_times : (w a b : ℕ) → low h (a * b) ≡ (residues h w).times (low h a) (low h b)
    low_times w a b = same (simp (mod_mul_mod, mul_mod_mod))

pub seventeen_laws : RingLaws seventeen
seventeen_laws = record { comm = residue_laws 17 (lit< tt) 2; w_fourth = same refl }

pub quad_laws : RingLaws quads
quad_laws = AdjoinLaws.tower_laws (residue_laws (2 ^ 64) (lit< tt) 1)
