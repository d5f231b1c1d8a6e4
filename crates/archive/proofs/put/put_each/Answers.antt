use Rattle.std.proofs.Common.{get_or}
use Rattle.archive.proofs.Frames.{put_more, framed_more}
use Rattle.archive.proofs.put.put_each.Goals as goal

pub loop-j-preserved : goal.loop-j-preserved
loop-j-preserved g c =
    let put = c.put_bits.ensures in
    record {
      there = put_more (λ i v. g.F.Fn.post c.args.value (get_or c.args.pivots.now i 0, tt) v) _ _ c.args.at c.args.width
          c.loop-j.j _ put.framed put.there c.value.ensures c.loop-j.invariant.there;
      framed = framed_more _ _ _ c.args.at c.args.width c.loop-j.j c.loop-j.invariant.framed put.framed;
    }
