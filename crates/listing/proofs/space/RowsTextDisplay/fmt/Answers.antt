use Rattle.std.proofs.Common.{min, rules}
use Rattle.listing.specs.Fields.{row_text}
use Rattle.listing.proofs.space.RowsTextDisplay.fmt.Goals as goal

pub returns-clause-writes : goal.returns-clause-writes
returns-clause-writes g c =
    let x = c.args.self.now in
    rw c.dimension.ensures at (c.write_joined.ensures (row_text (min x.qubits 48) x.space.now) (λ a x low high p. search rules))
