use Rattle.std.proofs.Common.{◌∙◌}
use Rattle.archive.proofs.Built.{reshifted, shift-spans, shift-pivots}
use Rattle.archive.proofs.build.StateBits.add_space.Goals as goal

pub returns : goal.returns
returns c =
    let good = c.args.self.now.sound in
    let w = c.add_rows-pivots.ensures.raised in
    let g = reshifted _ _ _ _ good _ w c.set_shift.result c.set_shift.new.self _ c.shift.ensures c.set_shift.ensures in
    record {
      spans = shift-spans _ _ _ _ good _ w c.set_shift.new.self g;
      pivots = shift-pivots _ _ _ _ good _ w c.set_shift.new.self g;
      listed = c.add_rows-pivots.ensures.listed;
      same = g.1 ∙ c.add_rows-pivots.ensures.same;
    }
