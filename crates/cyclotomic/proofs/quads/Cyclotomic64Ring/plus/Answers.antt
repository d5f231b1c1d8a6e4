use Rattle.cyclotomic.specs.ModularLaws.{same}
use Rattle.cyclotomic.proofs.Conj.{four}
use Rattle.cyclotomic.proofs.Wrapping.{mods}
use Rattle.cyclotomic.proofs.quads.Cyclotomic64Ring.plus.Goals as goal

pub returns : goal.returns
returns c =
    rw (c.add.ensures, c.add-2.ensures, c.add-3.ensures, c.add-4.ensures)
    (four (same (simp mods)) (same (simp mods)) (same (simp mods)) (same (simp mods)))
