use Rattle.std.proofs.Common.{◌≡◌, nat_lt, true, ◌∙◌, arith}
use Rattle.std.proofs.Output.{has_written_of_eq}
use Rattle.std.proofs.lemmas.Bool.Decides.{nat_tests}
use Rattle.listing.specs.Fields.{up_to}
use Rattle.listing.proofs.Commas.{joined-some, some-upTo}
use Rattle.listing.proofs.space.write_joined.Goals as goal

pub returns : goal.returns
returns g c = λ text shows plain ok.
    let positive : nat_lt 0 c.args.count ≡ true = grind (arith, nat_tests) in
    has_written_of_eq _ _ _ _ _ (joined-some (up_to text c.args.count) (some-upTo text c.args.count ∙ positive))
    (c.write_items.ensures text shows plain ok)
