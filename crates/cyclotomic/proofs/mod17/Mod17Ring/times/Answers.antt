use Rattle.cyclotomic.specs.ModularLaws.{same}
use Rattle.cyclotomic.proofs.Wrapping.{mods}
use Rattle.cyclotomic.proofs.mod17.Mod17Ring.times.Goals as goal

pub returns : goal.returns
returns c = rw c.reduced.ensures (same (simp mods))
