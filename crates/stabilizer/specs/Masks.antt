-- Paulis by masks, as a text is read.
use Rattle.std.specs.Prelude.{◌≡◌, ℕ, ◌+◌, ◌*◌, ◌%◌, ◌^◌, ◌<◌, ◌≤◌, List, length, Some, None, Ok, Err, Option, Result}
use Rattle.cyclotomic.specs.Refusals.{number_of}
use Rattle.cyclotomic.specs.declared.refusal.Refusal.{Refusal}
use Rattle.quadratic.specs.Bits.{dot}
use Rattle.stabilizer.specs.Paulis.{Letter, I, X, Y, Z, Pauli, flip, flips, turns}
use Rattle.stabilizer.specs.declared.pauli.PauliMasks.{PauliMasks}

-- a letter negates where its bit is 1, or not
abbrev pub sign : Letter → ℕ
sign I = 0
sign X = 0
sign Y = 1
sign Z = 1

-- one letter more above the others
pub record WithLetter (m : PauliMasks) (l : Letter) (old : PauliMasks) (place : ℕ) : Type 0 where
  pub flips : m.flips ≡ flip l * 2 ^ place + old.flips
  pub signs : m.signs ≡ sign l * 2 ^ place + old.signs
  pub quarters : m.quarters ≡ old.quarters + flip l * sign l

abbrev pub Added : Result PauliMasks Refusal → Option Letter → PauliMasks → ℕ → Type 0
Added (Ok m) (Some l) old place = WithLetter m l old place
Added (Ok m) None old place = ⊥
Added (Err e) (Some l) old place = ⊥
Added (Err e) None old place = number_of e ≡ 12

-- the bits that the letters flip, and i^quarters times -1 to the parity with signs for what they multiply a string by
pub record MasksOf (ls : List Letter) (m : PauliMasks) : Type 0 where
  pub flips : m.flips ≡ flips ls
  pub turns : (x : ℕ) → turns ls x % 8 ≡ (2 * m.quarters + 4 * dot m.signs x) % 8
  pub low : m.flips < 2 ^ length ls
  pub small : m.signs < 2 ^ length ls
  pub few : m.quarters ≤ length ls

abbrev pub MaskedLetters : Result PauliMasks Refusal → Option (List Letter) → Type 0
MaskedLetters (Ok m) (Some ls) = MasksOf ls m
MaskedLetters (Ok m) None = ⊥
MaskedLetters (Err e) (Some ls) = ⊥
MaskedLetters (Err e) None = number_of e ≡ 12

abbrev pub quarters_of : Option ℕ → Option ℕ
quarters_of (Some e) = Some (2 * e)
quarters_of None = None

-- the same with the sign
pub record SignedMasks (P : Pauli) (m : PauliMasks) : Type 0 where
  pub flips : m.flips ≡ flips P.letters
  pub turns : (x : ℕ) → (4 * P.minus + turns P.letters x) % 8 ≡ (2 * m.quarters + 4 * dot m.signs x) % 8
  pub low : m.flips < 2 ^ length P.letters

abbrev pub Masked : Result PauliMasks Refusal → Option Pauli → Type 0
Masked (Ok m) (Some P) = SignedMasks P m
Masked (Ok m) None = ⊥
Masked (Err e) P = Unit {0}
