use Rattle.std.proofs.Common.{length, refl, ap, ◌∙◌, arith}
use lib.Count.{ones}
use Rattle.quadratic.proofs.Bitlaws.{bit-zero, ones-digit}
use Rattle.quadratic.specs.Bits.{bit}
use Rattle.archive.proofs.Raising.{granted, raised, listed_more}
use Rattle.archive.proofs.build.StateBits.add_rows.Goals as goal

pub loop-a-init : goal.loop-a-init
loop-a-init c =
    let begun = c.requires in
    record {
      raised = record {
        count = ap ones begun.pivots ∙ ones-digit 0 (omega arith);
        pivots = λ q e. absurd (omega (arith, ap (λ x. bit x q) begun.pivots, bit-zero q));
        rows = λ j l. absurd (omega arith);
        shift = begun.shift;
      };
      listed = record { places = ap length c.new-pivots.ensures; listed = λ j l. absurd (omega arith) };
      same = refl;
    }

pub unreachable-requires : goal.unreachable-requires
unreachable-requires c =
    granted _ _ _ _ c.args.self.now.sound c.loop-a.a c.loop-a-test.true _ c.loop-a.invariant.raised _ c.append_row.new.self
    c.row.ensures c.in_default.ensures

pub loop-a-preserved : goal.loop-a-preserved
loop-a-preserved c =
    let good = c.args.self.now.sound in
    let w = c.loop-a.invariant in
    let h = c.in-Some.ensures in
    record {
      raised = raised _ _ _ _ good c.loop-a.a c.loop-a-test.true _ w.raised _ _ _ c.row.ensures h;
      listed = listed_more _ _ _ _ good c.loop-a.a c.loop-a-test.true _ w.raised _ _ c.append_row.new.self c.row.ensures h
          _ _ c.push.ensures.items w.listed;
      same = h.1 ∙ w.same;
    }
