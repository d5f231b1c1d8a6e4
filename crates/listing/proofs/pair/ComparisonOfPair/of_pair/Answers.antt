use Rattle.listing.proofs.pair.ComparisonOfPair.of_pair.Goals as goal

pub returns : goal.returns
returns c =
    let o = c.in_ok-overlap.ensures in
    record {
      number = o.number;
      told = record {
        overlap = o.value;
        both = c.overlap_into.new.out;
        shared = o.granted;
        columns = c.columns_of.ensures;
        sound = c.same.ensures.sound;
        complete = c.same.ensures.complete;
      };
    }
