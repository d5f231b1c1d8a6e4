use Rattle.archive.proofs.Weighing.{rows_more}
use Rattle.archive.proofs.build.StateBits.add_couplings.Goals as goal

pub loop-a-preserved : goal.loop-a-preserved
loop-a-preserved c = rows_more _ _ _ _ c.args.self.now.sound c.loop-a.a c.loop-a-test.true _ _ _ c.loop-a.invariant
    c.add_couplings_of.ensures
