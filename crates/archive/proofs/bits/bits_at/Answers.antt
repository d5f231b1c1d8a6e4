use Rattle.std.proofs.Common.{◌≡◌, ℕ, ◌+◌, ◌-◌, ◌*◌, ◌/◌, ◌%◌, ◌^◌, ◌<◌, ◌≤◌, List, get_or, sym, arith}
use Rattle.archive.specs.Bits.{bits_from}
use Rattle.archive.proofs.Laws.{bits_none, bits-step, step_fits}
use Rattle.archive.proofs.bits.bits_at.Goals as goal

turn : (b : List ℕ) (p w s v x : ℕ) → (p + w) % 8 + s ≤ 8 → v ≡ bits_from b p w → x ≡ get_or b ((p + w) / 8) 0 / 2 ^ (8 - (p + w) % 8 - s)
    → v * ((1 * 2 ^ s) % 2 ^ 64) + x % ((1 * 2 ^ s) % 2 ^ 64) ≡ bits_from b p (w + s)
turn b p w s v x h ev ex = rw (ev, ex) (sym (bits-step b p w s h (omega arith)))

-- at most 64 bits are a word
room : (b : List ℕ) (p w s v x : ℕ) → (p + w) % 8 + s ≤ 8 → w + s ≤ 64 → v ≡ bits_from b p w → x ≡ get_or b ((p + w) / 8) 0 / 2 ^ (8 - (p + w) % 8 - s)
    → v * ((1 * 2 ^ s) % 2 ^ 64) + x % ((1 * 2 ^ s) % 2 ^ 64) < 2 ^ 64
room b p w s v x h l ev ex = omega (arith, turn b p w s v x h ev ex, step_fits b p w s l)

pub loop-done-init : goal.loop-done-init
loop-done-init c = (omega arith, sym (bits_none _ _))

pub overflow_mul-value : goal.overflow_mul-value
overflow_mul-value c = omega (arith, room _ _ _ _ _ _ (omega arith) (omega arith) c.loop-done.invariant.1 c.from.ensures)

pub overflow_add-value : goal.overflow_add-value
overflow_add-value c = omega (arith, room _ _ _ _ _ _ (omega arith) (omega arith) c.loop-done.invariant.1 c.from.ensures)

pub loop-done-preserved : goal.loop-done-preserved
loop-done-preserved c = (omega arith, turn _ _ _ _ _ _ (omega arith) c.loop-done.invariant.1 c.from.ensures)
