-- Steps in which a form is built, coefficient by coefficient.
use Rattle.std.specs.Prelude.{◌≡◌, ℕ, ◌+◌, ◌*◌, ◌%◌, ◌^◌, ◌<◌}
use Rattle.quadratic.specs.Bits.{bit}
use Rattle.quadratic.specs.Fields.{coefficient_at}
use Rattle.quadratic.specs.Quadratic.{link}
use Rattle.quadratic.specs.declared.phased.PhasedSpace.{PhasedSpace}

-- from s to s' the linear coefficient of each row k grows by E k, and the coupling of each two rows by F
pub record Grown (s s' : PhasedSpace) (E : ℕ → ℕ) (F : ℕ → ℕ → ℕ) : Type 0 where
  pub space : s'.space ≡ s.space
  pub phase : s'.form.phase ≡ s.form.phase
  pub linear : (k : ℕ) → k < 48 → coefficient_at s' k ≡ (coefficient_at s k + E k) % 8
  pub coupling : (k b : ℕ) → k < 48 → b < k → link s'.form.coupling k b ≡ (link s.form.coupling k b + F k b) % 2

-- 2 · value more at the row with the pivot p
abbrev pub LinearGrown : PhasedSpace → PhasedSpace → ℕ → ℕ → Type 0
LinearGrown s s' p value = Grown s s' (λ k. 2 * value * bit (2 ^ k) p) (λ k b. 0)

-- 4 · value more at the rows with the pivots p and q
abbrev pub CouplingGrown : PhasedSpace → PhasedSpace → ℕ → ℕ → ℕ → Type 0
CouplingGrown s s' p q value = Grown s s' (λ k. 0) (λ k b. value * (bit (2 ^ k) p * bit (2 ^ b) q))
