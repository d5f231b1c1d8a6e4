use Rattle.std.proofs.Common.{◌≡◌, ℕ, ◌≤◌, length, ap, ◌∙◌, arith, rules}
use Rattle.cyclotomic.specs.Columns.{glyphs}
use Rattle.listing.proofs.Glyphs.{glyphs-front, same-put}
use Rattle.listing.proofs.text.ColumnTextDisplay.fmt.Goals as goal

pub returns-clause-writes : goal.returns-clause-writes
returns-clause-writes g c = λ plain ok.
    let digits = c.column_digits-digits.result in
    let f = g.C.Column.digit_of c.args.self.now.0 in
    let width = c.DIGITS-width.result in
    let long : length digits ≡ 64 = search rules in
    let within : width ≤ 64 = omega arith in
    let same : width ≡ g.C.Column.DIGITS = omega arith in
    same-put (glyphs-front f digits width 64 long within c.column_digits-digits.ensures ∙ ap (λ (n : ℕ). glyphs f 0 n) same)
    (c.write_ascii.ensures plain ok)
