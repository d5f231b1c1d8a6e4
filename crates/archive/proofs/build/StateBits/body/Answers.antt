use Rattle.std.proofs.Common.{ℕ, ◌+◌, sym, ◌∙◌, subst, mod-eq_of_lt, arith}
use Rattle.quadratic.specs.Building.{Begun}
use Rattle.quadratic.specs.declared.phased.PhasedSpace.{PhasedSpace}
use Rattle.archive.proofs.Laws.{bits_below}
use Rattle.archive.proofs.Built.{linear-blank, coupling-blank, weighed}
use Rattle.archive.proofs.build.StateBits.body.Goals as goal

begun-at : (s : PhasedSpace) (q : ℕ) → Begun s q → Begun s s.form.phase
begun-at s q h = subst (Begun s) (sym h.phase) h

pub add_linear-requires-clause-blank : goal.add_linear-requires-clause-blank
add_linear-requires-clause-blank c =
    linear-blank _ _ _ _ c.args.self.now.sound _ (begun-at _ _ c.origin-body.ensures) _ c.add_space-pivots.ensures.same

pub add_couplings-requires-clause-blank : goal.add_couplings-requires-clause-blank
add_couplings-requires-clause-blank c =
    coupling-blank _ _ _ _ c.args.self.now.sound _ (begun-at _ _ c.origin-body.ensures) _ c.add_space-pivots.ensures.same _
    c.add_linear.ensures

pub returns-clause-weighs : goal.returns-clause-weighs
returns-clause-weighs c =
    let s = c.args.self.now in
    let low = bits_below s.bytes.now (s.start + 25) 3 in
    let phase = c.origin-body.ensures.phase ∙ mod-eq_of_lt {n = c.phase.result} {m = 8} (omega (arith, c.phase.ensures)) ∙ c.phase.ensures in
    weighed _ _ _ _ s.sound _ (begun-at _ _ c.origin-body.ensures) _ c.add_space-pivots.ensures.same _
    c.add_linear.ensures _ c.add_couplings.ensures phase
