use Rattle.std.proofs.Common.{◌≡◌, ℕ, ◌<◌, true, get_or, is_some}
use Rattle.listing.specs.Digits.{nibble_of}
use Rattle.listing.proofs.hex.all_digits.Given as goal

abbrev pub invariant-loop-byte : goal.invariant-loop-byte
invariant-loop-byte l = (k : ℕ) → k < l.byte-index → is_some (nibble_of (get_or l.word k 0)) ≡ true
