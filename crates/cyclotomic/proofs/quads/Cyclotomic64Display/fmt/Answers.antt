use Rattle.std.proofs.Common.{◌≡◌, ℕ, List, Some, ap, arith}
use Rattle.std.specs.Fmt.{styled_digits_output}
use Rattle.cyclotomic.specs.Columns.{glyphs, hex_at}
use Rattle.cyclotomic.proofs.Padded.{sixteen}
use Rattle.cyclotomic.proofs.quads.Cyclotomic64Display.fmt.Goals as goal

-- the digits of a word
abbrev word : ℕ → List ℕ
word n = glyphs (hex_at 16 n) 0 16

pub returns-clause-writes : goal.returns-clause-writes
returns-clause-writes g c =
    let x = c.args.self.now in
    let first : styled_digits_output c.in_radix.result c.laid_out.result ≡ Some (word x.a0.0) =
    rw (c.laid_out.ensures, c.in_radix.ensures) (ap Some (sixteen x.a0.0 (omega arith))) in
    let second : styled_digits_output c.in_radix-2.result c.laid_out-2.result ≡ Some (word x.a1.0) =
    rw (c.laid_out-2.ensures, c.in_radix-2.ensures) (ap Some (sixteen x.a1.0 (omega arith))) in
    let third : styled_digits_output c.in_radix-3.result c.laid_out-3.result ≡ Some (word x.a2.0) =
    rw (c.laid_out-3.ensures, c.in_radix-3.ensures) (ap Some (sixteen x.a2.0 (omega arith))) in
    let fourth : styled_digits_output c.in_radix-4.result c.laid_out-4.result ≡ Some (word x.a3.0) =
    rw (c.laid_out-4.ensures, c.in_radix-4.ensures) (ap Some (sixteen x.a3.0 (omega arith))) in
    rw (first, second, third, fourth) at c.write.ensures.writes
