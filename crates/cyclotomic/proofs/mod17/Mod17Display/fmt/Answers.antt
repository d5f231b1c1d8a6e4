use Rattle.std.proofs.Common.{◌≡◌, Some, ap, arith}
use Rattle.std.specs.Fmt.{styled_digits_output}
use Rattle.cyclotomic.specs.Texts.{residue_text}
use Rattle.cyclotomic.proofs.Padded.{two}
use Rattle.cyclotomic.proofs.mod17.Mod17Display.fmt.Goals as goal

pub returns-clause-writes : goal.returns-clause-writes
returns-clause-writes g c =
    let residue = c.args.self.now.residue in
    let shown : styled_digits_output c.in_radix.result c.laid_out.result ≡ Some (residue_text residue) =
    rw (c.laid_out.ensures, c.in_radix.ensures) (ap Some (two residue (omega arith))) in
    rw shown at c.write.ensures.writes
