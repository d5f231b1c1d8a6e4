-- Numbers below n as residues: which stand for the same one, and negatives.
use Rattle.std.proofs.Common.{◌≡◌, ℕ, ◌+◌, ◌-◌, ◌%◌, ◌<◌, T, eqb, sym, ap, ◌∙◌, mod-eq_of_lt, zero-add}
use native.Mathlib.Nat.{mod-mod}
use lib.Dec.{eqb_refl}
use Rattle.cyclotomic.specs.Modular.{low, residues}
use Rattle.cyclotomic.specs.ModularLaws.{same}

-- equal numbers pass the test of equality
pub passes : (a b : ℕ) → a ≡ b → T (eqb a b)
passes a b e = rw e (eqb_refl b)

module _ {n : ℕ} (h : 0 < n) where
  -- numbers below n are told apart by their residues
  pub low-apart : (a b : ℕ) → a < n → b < n → low h a ≡ low h b → a ≡ b
  low-apart a b ha hb e = sym (mod-eq_of_lt ha) ∙ ap (λ x. x.0) e ∙ mod-eq_of_lt hb

  pub low-negative : (w a : ℕ) → a < n → low h ((n - a) % n) ≡ (residues h w).neg (low h a)
  low-negative w a ha = same (mod-mod (n - a) n ∙ ap (λ k. (n - k) % n) (sym (mod-eq_of_lt ha)))

  -- what is taken from 0 is the negative
  pub low-from-zero : (w a : ℕ) → a < n → low h ((0 + (n - a)) % n) ≡ (residues h w).neg (low h a)
  low-from-zero w a ha = ap (λ k. low h (k % n)) (zero-add (n - a)) ∙ low-negative w a ha
