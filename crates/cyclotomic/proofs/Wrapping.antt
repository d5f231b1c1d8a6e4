-- Wrapping arithmetic modulo n, on four coordinates.
use Rattle.std.proofs.Common.{◌≡◌, ℕ, ◌+◌, ◌-◌, ◌*◌, ◌%◌, ◌<◌, sym, ap, ◌∙◌, add_assoc}
use native.Mathlib.Nat.{mod-mod, mod-add-mod, add-mod-mod}
use Rattle.cyclotomic.specs.Adjoin.{quad, tower}
use Rattle.cyclotomic.specs.Modular.{low, residues}
use Rattle.cyclotomic.specs.ModularLaws.{same, residue_laws, mod_mul_mod, mul_mod_mod}
use Rattle.cyclotomic.proofs.Conj.{four, tower-times}

-- a term of a sum may be reduced before the sum is
pub third : (n a b c : ℕ) → (a + (b + c % n)) % n ≡ (a + (b + c)) % n
third n a b c = ap (λ k. k % n) (sym (add_assoc a b (c % n))) ∙ add-mod-mod (a + b) c n ∙ ap (λ k. k % n) (add_assoc a b c)

pub fourth : (n a b c d : ℕ) → (a + (b + (c + d % n))) % n ≡ (a + (b + (c + d))) % n
fourth n a b c d = ap (λ k. k % n) (sym (add_assoc a b (c + d % n))) ∙ third n (a + b) c d ∙ ap (λ k. k % n) (add_assoc a b (c + d))

pub second-of : (n a b c : ℕ) → (a + (b % n + c)) % n ≡ (a + (b + c)) % n
second-of n a b c = sym (add-mod-mod a (b % n + c) n) ∙ ap (λ k. (a + k) % n) (mod-add-mod b n c) ∙ add-mod-mod a (b + c) n

pub third_of : (n a b c d : ℕ) → (a + (b + (c % n + d))) % n ≡ (a + (b + (c + d))) % n
third_of n a b c d = ap (λ k. k % n) (sym (add_assoc a b (c % n + d))) ∙ second-of n (a + b) c d ∙ ap (λ k. k % n) (add_assoc a b (c + d))

pub ruleset mods = (mod-mod, mod-add-mod, add-mod-mod, second-of, third, third_of, fourth, mod_mul_mod, mul_mod_mod, add_assoc)

module _ (n : ℕ) (h : 0 < n) (w : ℕ) where
  infixl 65 ◌⊞◌ ◌⊟◌
  infixl 70 ◌⊠◌
  abbrev ◌⊞◌ : ℕ → ℕ → ℕ
  a ⊞ b = (a + b) % n

  abbrev ◌⊟◌ : ℕ → ℕ → ℕ
  a ⊟ b = (a + (n - b)) % n

  abbrev ◌⊠◌ : ℕ → ℕ → ℕ
  a ⊠ b = (a * b) % n

  pub four-times : (a b c d e f g k : ℕ) → quad (low h (a ⊠ e ⊟ c ⊠ g ⊟ b ⊠ k ⊟ d ⊠ f)) (low h (a ⊠ f ⊟ c ⊠ k ⊞ b ⊠ e ⊟ d ⊠ g))
      (low h (a ⊠ g ⊞ c ⊠ e ⊞ b ⊠ f ⊟ d ⊠ k)) (low h (a ⊠ k ⊞ c ⊠ f ⊞ b ⊠ g ⊞ d ⊠ e))
      ≡ (tower (residues h w)).times (quad (low h a) (low h b) (low h c) (low h d)) (quad (low h e) (low h f) (low h g) (low h k))
  four-times a b c d e f g k =
      four (same (simp mods)) (same (simp mods)) (same (simp mods)) (same (simp mods))
      ∙ sym (tower-times (residue_laws n h w) (low h a) (low h b) (low h c) (low h d) (low h e) (low h f) (low h g) (low h k))
