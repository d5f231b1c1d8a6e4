-- The runs of bytes of the examples, field by field.
use Rattle.std.proofs.Common.{◌≡◌, ℕ, zero, suc, ◌<◌, List, [], ◌∷◌, get_or, None, refl, lit<}
use lib.Count.{count_leading_zeros}
use Rattle.archive.specs.Bits.{bit_at, bits_from}
use Rattle.archive.specs.First.{first}
use Rattle.archive.specs.Layout.{parts_at, end_of_state, alone_verdicts, alone_fault}
use Rattle.worked.specs.Worked.{level, turned, apart}
use Rattle.worked.proofs.OneQubit.{Bits}

-- a run of bytes for a state of one qubit
pub record Run (b : List ℕ) (e Q d : ℕ) : Type 0 where
  pub sound : alone_fault b ≡ None
  pub bits : Bits b e Q d
  pub bytes : (i : ℕ) → get_or b i 0 < 256

four_bytes : (a b c d : ℕ) → a < 256 → b < 256 → c < 256 → d < 256 → (i : ℕ) → get_or (a ∷ b ∷ c ∷ d ∷ []) i 0 < 256
four_bytes a b c d la lb lc ld zero = la
four_bytes a b c d la lb lc ld (suc zero) = lb
four_bytes a b c d la lb lc ld (suc (suc zero)) = lc
four_bytes a b c d la lb lc ld (suc (suc (suc zero))) = ld
four_bytes a b c d la lb lc ld (suc (suc (suc (suc i)))) = lit< tt

pub level-run : Run level 1 0 0
unfolding bits_from bit_at parts_at end_of_state alone_verdicts alone_fault first count_leading_zeros
level-run = record {
  sound = refl;
  bits = record { size = refl; rank = refl; weight = refl; phase = refl; row = refl; shift = refl; linear = refl };
  bytes = four_bytes 4 16 0 136 (lit< tt) (lit< tt) (lit< tt) (lit< tt);
}

pub turned-run : Run turned 1 0 1
unfolding bits_from bit_at parts_at end_of_state alone_verdicts alone_fault first count_leading_zeros
turned-run = record {
  sound = refl;
  bits = record { size = refl; rank = refl; weight = refl; phase = refl; row = refl; shift = refl; linear = refl };
  bytes = four_bytes 4 16 0 137 (lit< tt) (lit< tt) (lit< tt) (lit< tt);
}

pub apart-run : Run apart 2 7 1
unfolding bits_from bit_at parts_at end_of_state alone_verdicts alone_fault first count_leading_zeros
apart-run = record {
  sound = refl;
  bits = record { size = refl; rank = refl; weight = refl; phase = refl; row = refl; shift = refl; linear = refl };
  bytes = four_bytes 4 16 1 121 (lit< tt) (lit< tt) (lit< tt) (lit< tt);
}
