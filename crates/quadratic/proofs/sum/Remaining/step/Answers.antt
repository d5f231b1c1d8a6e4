use Rattle.std.proofs.Common.{◌≡◌, ℕ, ◌+◌, ◌*◌, sym, refl, ap, ◌∙◌, mul-one, arith}
use lib.Bits.{bit_and}
use lib.Count.{ones}
use Rattle.quadratic.specs.Bits.{bit}
use Rattle.quadratic.proofs.Bitlaws.{bit-and, bit-zero, bits-both}
use Rattle.quadratic.proofs.Eliminate.{stepped, lone-left, dead-left}
use Rattle.quadratic.proofs.Lowest.{set_below, ones-drop, summed-out}
use Rattle.quadratic.proofs.sum.Remaining.step.Goals as goal

-- a live variable is even where no live one is odd
even : (odd live a : ℕ) → bit_and odd live ≡ 0 → bit live a ≡ 1 → bit odd a ≡ 0
even odd live a e on = sym (mul-one (bit odd a)) ∙ ap (λ b. bit odd a * b) (sym on) ∙ sym (bit-and odd live a)
    ∙ ap (λ x. bit x a) e ∙ bit-zero a

pub sum_odd-requires : goal.sum_odd-requires
sum_odd-requires c =
    let b = bits-both _ _ c.lowest.result c.lowest.ensures.on in
    record { live = b.1; odd = ap (λ x. bit x c.lowest.result) (sym c.odd.ensures) ∙ b.0 }

pub returns-then-odd-ne0 : goal.returns-then-odd-ne0
returns-then-odd-ne0 c = stepped _ _ _ _ _ _ 1 1 (omega arith) (omega arith) (omega arith) c.sum_odd.ensures

pub partners-requires : goal.partners-requires
partners-requires c = let s = c.args.self.now in set_below 48 s.live c.lowest-a.result s.inside c.lowest-a.ensures.on

pub sum_pair-requires : goal.sum_pair-requires
sum_pair-requires c =
    let s = c.args.self.now in
    let a = c.lowest-a.result in
    let b = c.lowest-then-partners-ne0.result in
    let both = bits-both c.partners.result s.live b c.lowest-then-partners-ne0.ensures.on in
    let none = ap (λ x. bit_and x s.live) (sym c.odd.ensures) ∙ c.if-odd-ne0.false in
    record {
      first = c.lowest-a.ensures.on;
      second = both.1;
      first_even = even s.form.odd s.live a none c.lowest-a.ensures.on;
      second_even = even s.form.odd s.live b none both.1;
      coupled = ap (λ x. bit x b) (sym c.partners.ensures) ∙ both.0;
    }

pub returns-then-partners-ne0 : goal.returns-then-partners-ne0
returns-then-partners-ne0 c = stepped _ _ _ _ _ _ 2 2 (omega arith) (omega arith) (omega arith) c.sum_pair.ensures

pub returns-then-linear-ne0 : goal.returns-then-linear-ne0
returns-then-linear-ne0 c =
    let s = c.args.self.now in
    let a = c.lowest-a.result in
    let none = ap (λ x. bit_and x s.live) (sym c.odd.ensures) ∙ c.if-odd-ne0.false in
    dead-left s.form s.live a s.inside c.lowest-a.ensures.on
    (ap (λ x. bit_and x s.live) (sym c.partners.ensures) ∙ c.if-partners-ne0.false)
    (even s.form.odd s.live a none c.lowest-a.ensures.on) s.power
    (λ z. c.if-linear-ne0.true (c.linear.ensures.value ∙ z))

pub turned-self-requires : goal.turned-self-requires
turned-self-requires c = let s = c.args.self.now in let l =
    set_below 48 s.live c.lowest-a.result s.inside c.lowest-a.ensures.on in omega arith

pub invariant_of-self : goal.invariant_of-self
invariant_of-self c =
    let s = c.args.self.now in
    let a = c.lowest-a.result in
    let left = summed-out s.live a c.turned-self.result s.power 2 s.inside c.lowest-a.ensures.on c.turned-self.ensures (omega arith) s.few in
    record { inside = left.0; few = left.1 }

pub returns : goal.returns
returns c =
    let s = c.args.self.now in
    let a = c.lowest-a.result in
    let r = c.turned-self.result in
    let none = ap (λ x. bit_and x s.live) (sym c.odd.ensures) ∙ c.if-odd-ne0.false in
    stepped _ _ _ _ _ _ 1 2 (omega arith) (omega arith) (omega arith)
    (record {
      same = lone-left s.form s.live a s.inside c.lowest-a.ensures.on
          (ap (λ x. bit_and x s.live) (sym c.partners.ensures) ∙ c.if-partners-ne0.false)
          (even s.form.odd s.live a none c.lowest-a.ensures.on) r s.power c.turned-self.ensures
          (sym c.linear.ensures.value ∙ c.if-linear-ne0.false);
      count = ap (λ x. ones x + 1) c.turned-self.ensures ∙ ones-drop s.live a s.inside c.lowest-a.ensures.on;
      powers = refl;
    })
