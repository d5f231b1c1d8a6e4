use Rattle.std.proofs.Common.{◌≡◌, ◌*◌, ◌%◌, ◌^◌, Some, min, ap, ◌∙◌, arith, rules, lit<, one-mul}
use Rattle.std.specs.Fmt.{styled_digits_output}
use Rattle.std.proofs.Math.Pow.{shl_exact}
use Rattle.listing.specs.Fields.{bits_text}
use Rattle.listing.proofs.Binary.{binary}
use Rattle.listing.proofs.space.BitsTextDisplay.fmt.Goals as goal

pub returns-clause-writes : goal.returns-clause-writes
returns-clause-writes g c =
    let y = c.args.self.now.string in
    let n = c.min-length.result in
    let least : n ≡ min c.args.self.now.length 48 = search rules in
    let place : 1 * 2 ^ n % 2 ^ 64 ≡ 2 ^ n = shl_exact 1 n 64 (lit< tt) (omega (arith, least)) ∙ one-mul (2 ^ n) in
    let shown : styled_digits_output c.in_radix.result c.laid_out.result ≡ Some (bits_text n y) =
    rw (c.laid_out.ensures, c.in_radix.ensures) (ap Some (binary n y _ (omega (arith, least)) (omega arith) place)) in
    rw (← least) (rw shown at c.write.ensures.writes)
