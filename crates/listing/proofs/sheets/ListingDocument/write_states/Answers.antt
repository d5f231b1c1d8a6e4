use Rattle.std.proofs.Common.{◌++◌, length, refl}
use Rattle.std.proofs.KnownBytes.{Appends-trans}
use Rattle.std.proofs.lemmas.Result.{on_ok_weaker}
use Rattle.listing.specs.Listings.{sheets_text}
use Rattle.listing.proofs.sheets.ListingDocument.write_states.Goals as goal

pub returns : goal.returns
returns g c =
    on_ok_weaker c.write_pairs.result
    (λ d. (
      sheets_text (length c.args.states.now) ++ d.0,
      record { rest = d.0; whole = refl; pairs = d.1 },
      Appends-trans _ _ _ _ d.0 c.in_ok-write_count.ensures d.2,
    ))
    c.write_pairs.ensures
