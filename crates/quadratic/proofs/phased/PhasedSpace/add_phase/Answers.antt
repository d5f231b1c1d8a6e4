use Rattle.std.proofs.Common.{◌≡◌, ℕ, ◌+◌, ◌%◌, refl, ◌∙◌, arith}
use Rattle.quadratic.specs.Value.{value_at}
use Rattle.quadratic.proofs.Turning.{turned_by}
use Rattle.quadratic.proofs.phased.PhasedSpace.add_phase.Goals as goal

whole : (v k : ℕ) → (v + k % 8) % 8 ≡ (v + k) % 8
whole v k = omega arith

pub returns : goal.returns
returns c =
    let s = c.args.self.now in
    turned_by s _ (λ y. c.args.k) refl (λ y m. c.add_phase.ensures y ∙ whole (value_at s.form y) c.args.k)
