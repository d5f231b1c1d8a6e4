use Rattle.std.proofs.Common.{◌≡◌, ℕ, ◌*◌, ◌<◌, ◌≤◌, length, drop, get_or, vec_items, vec_len}
use Rattle.listing.specs.Digits.{byte_at}
use Rattle.listing.proofs.hex.Hex.decode.Given as goal

abbrev pub invariant-loop-digits : goal.invariant-loop-digits
invariant-loop-digits l =
    record {
      within : 2 * vec_len l.out ≤ length l.self.digits.now;
      rest : l.digits ≡ drop (2 * vec_len l.out) l.self.digits.now;
      each : (k : ℕ) → k < vec_len l.out → get_or (vec_items l.out) k 0 ≡ byte_at l.self.digits.now k;
    }

abbrev pub decreases-loop-digits : goal.decreases-loop-digits
decreases-loop-digits l = length l.digits
