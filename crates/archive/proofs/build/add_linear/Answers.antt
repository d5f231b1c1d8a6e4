use Rattle.archive.proofs.Coefficients.{linear-granted, linear-grown}
use Rattle.archive.proofs.build.add_linear.Goals as goal

pub returns : goal.returns
returns c =
    linear-grown c.args.body.now c.add_linear.new.self _ _
    (linear-granted c.add_linear.result _ _ _ _ c.requires.pivot c.requires.few c.add_linear.ensures)
