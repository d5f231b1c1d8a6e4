use Rattle.std.proofs.Common.{◌≡◌, ℕ, ◌<◌, length, get_or}
use Rattle.cyclotomic.specs.Columns.{glyph_of}
use Rattle.listing.proofs.text.column_digits.Given as goal

abbrev pub invariant-loop-place : goal.invariant-loop-place
invariant-loop-place g l =
    (length l.digits ≡ 64)
    × ((k : ℕ) → k < l.place → get_or l.digits k 0 ≡ glyph_of (g.C.Column.digit_of l.value k))
