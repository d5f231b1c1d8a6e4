use Rattle.archive.proofs.Coefficients.{coupling-granted, coupling-grown}
use Rattle.archive.proofs.build.add_coupling.Goals as goal

pub returns : goal.returns
returns c =
    coupling-grown c.args.body.now c.couple.new.self _ _ c.requires.order
    (coupling-granted c.couple.result _ _ _ _ c.requires.pivot c.requires.later c.requires.order c.couple.ensures)
