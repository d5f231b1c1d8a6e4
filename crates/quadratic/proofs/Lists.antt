-- Tables of zeros.
use Rattle.std.proofs.Common.{◌≡◌, ℕ, zero, suc, get_or, replicate, refl}

pub getD-zeros : (n k : ℕ) → get_or {A = ℕ} (replicate n 0) k 0 ≡ 0
getD-zeros zero k = refl
getD-zeros (suc n) zero = refl
getD-zeros (suc n) (suc k) = getD-zeros n k
