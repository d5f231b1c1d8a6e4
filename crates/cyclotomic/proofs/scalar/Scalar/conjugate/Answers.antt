use Rattle.std.proofs.Common.{◌≡◌, ap, ◌∙◌, rules}
use Rattle.cyclotomic.specs.Exact.{scaled, mirrored}
use Rattle.cyclotomic.specs.Scalars.{triple_of}
use Rattle.cyclotomic.proofs.Exact.{scalar-kind, scaled-mirrored}
use Rattle.cyclotomic.proofs.scalar.Scalar.conjugate.Goals as goal

pub returns-clause-exact : goal.returns-clause-exact
returns-clause-exact c = λ n.
    let x = triple_of c.args.self.now in
    let e : triple_of record { term = c.map.result } ≡ mirrored x = search rules in
    ap (scaled n) e ∙ scaled-mirrored n x (scalar-kind c.args.self.now)
