use Rattle.std.proofs.Common.{◌≡◌, ℕ, sym, ap, ◌∙◌, subst}
use lib.Bits.{bit_and, bit_or, bit_xor}
use Rattle.quadratic.specs.Phase.{Wide, phase_in}
use Rattle.quadratic.specs.Value.{value_at}
use Rattle.quadratic.proofs.Meet.{gone, gone-below, gone-apart, first-shown, second-shown, difference, seen_difference, none-phase}
use Rattle.quadratic.proofs.Meet.{meet-phase}
use Rattle.quadratic.proofs.Sight.{Seen, wider}
use Rattle.quadratic.proofs.Values.{value-lt}
use Rattle.quadratic.proofs.phased.PhasedSpace.meet.Goals as goal

pub returns-in_err-space : goal.returns-in_err-space
returns-in_err-space c =
    let s = c.args.self.now in
    let t = c.args.other.now in
    let e = c.from_residual.ensures in
    record {
      phases = λ y. ap (λ r. phase_in r y) e ∙ none-phase s t y (c.in_err-space.ensures y);
      wide = subst (λ r. Wide r s t) (sym e) tt;
    }

-- what the code settles
settled : (P S T p s t : ℕ) → s ≡ S → t ≡ T → p ≡ P → bit_xor (bit_or s t) (bit_and (bit_or s t) p) ≡ gone P S T
settled P S T p s t es et ep = cc

pub settle-requires : goal.settle-requires
settle-requires c =
    let s = c.args.self.now in
    let t = c.args.other.now in
    let P = c.in_ok-space.space.pivots in
    let e = settled P s.space.pivots t.space.pivots _ _ _ c.pivots.ensures c.pivots-2.ensures c.pivots-3.ensures in
    record {
      inside = rw e (gone-below P s.space.pivots t.space.pivots s.space.within t.space.within);
      apart = ap (λ x. bit_and x P) e ∙ gone-apart P s.space.pivots t.space.pivots;
    }

pub invariant_of-result : goal.invariant_of-result
invariant_of-result c =
    let s = c.args.self.now in
    let t = c.args.other.now in
    let P = c.in_ok-space.space.pivots in
    let S = s.space.pivots in
    let T = t.space.pivots in
    let r = c.minus-form.result in
    let M = bit_xor P (gone P S T) in
    let e = settled P S T _ _ _ c.pivots.ensures c.pivots-2.ensures c.pivots-3.ensures in
    let seen : Seen (value_at r) M = seen_difference (value_at r) (value_at s.form) (value_at t.form) M
    (value-lt r) (value-lt t.form) c.minus-form.ensures
    (wider (value_at s.form) S M (first-shown P S T) s.idle) (wider (value_at t.form) T M (second-shown P S T) t.idle) in
    record {
      idle = c.settle.ensures.seen (subst (λ x. Seen (value_at r) (bit_xor P x)) (sym e) seen);
    }

pub returns : goal.returns
returns c =
    let s = c.args.self.now in
    let t = c.args.other.now in
    let r = c.minus-form.result in
    record {
      phases = meet-phase _ s t c.in_ok-space.ensures
          (λ y m. c.settle.ensures.kept y m ∙ difference (value_at r y) (value_at s.form y) (value_at t.form y)
          (value-lt r y) (value-lt t.form y) (c.minus-form.ensures y));
      wide = c.in_ok-space.ensures.wide;
    }
