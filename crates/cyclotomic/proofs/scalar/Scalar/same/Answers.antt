use Rattle.std.proofs.Common.{◌≡◌, T, rules}
use Rattle.cyclotomic.specs.Scalars.{triple_of}
use Rattle.cyclotomic.proofs.Exact.{scalar-kind, scaled-same}
use Rattle.cyclotomic.proofs.scalar.Scalar.same.Goals as goal

-- scalars of equal numbers have equal triples
pub returns-clause-apart : goal.returns-clause-apart
returns-clause-apart c = λ n a b e.
    let x = c.args.self.now in
    let y = c.args.other.now in
    let told : triple_of x ≡ triple_of y → T c.eq.result = search rules in
    told (scaled-same n (triple_of x) (triple_of y) (scalar-kind x) (scalar-kind y) a b e)
