use Rattle.std.proofs.Common.{◌*◌, ◌<◌, length, get_or, set, sym, ap, ◌∙◌, ap₂, one-mul, arith, length-set, get_or-set_other, get_or-set_same}
use native.Mathlib.Decide.{ℕ_discrete}
use lib.Bits.{bit_xor}
use Rattle.quadratic.specs.Bits.{bit, Lowest}
use Rattle.quadratic.proofs.Bitlaws.{bit-zero}
use Rattle.quadratic.proofs.Lowest.{gone-off, gone-other}
use Rattle.quadratic.proofs.bits.xor_rows.Goals as goal

pub loop-p-preserved : goal.loop-p-preserved
loop-p-preserved c =
    let s = c.loop-p.table in
    let t = c.args.table.now in
    let rows = c.args.rows in
    let mask = c.args.mask in
    let p = c.in-Some.p in
    let i = c.loop-p.invariant in
    let low : Lowest c.loop-p.p-iterator.left p c.next.new.self.left = c.in-Some.ensures.steps in
    let new = bit_xor (get_or s p 0) mask in
    let l : p < length s = omega (arith, low.place, i.long) in
    record {
      long = length-set s p new ∙ i.long;
      done = λ k z. elim (ℕ_discrete k p) [
        | yes q ↦ let here = i.ahead p low.on in ap (λ j. get_or (set s p new) j 0) q ∙ get_or-set_same s p new 0 l
            ∙ ap₂ bit_xor here.1 (sym (one-mul mask) ∙ ap (λ b. b * mask) (sym here.0))
            ∙ ap (λ j. bit_xor (get_or t j 0) (bit rows j * mask)) (sym q)
        | no ne ↦ get_or-set_other s p k new 0 ne ∙ i.done k (sym (gone-other _ p _ k low ne) ∙ z)
      ];
      ahead = λ k o. elim (ℕ_discrete k p) [
        | yes q ↦ let z = gone-off _ p _ low in let w = ap (bit c.next.new.self.left) q in absurd (omega arith)
        | no ne ↦ let r = i.ahead k (sym (gone-other _ p _ k low ne) ∙ o) in (r.0, get_or-set_other s p k new 0 ne ∙ r.1)
      ];
    }

pub returns : goal.returns
returns c k = c.loop-p.invariant.done k (ap (λ x. bit x k) c.in-None.ensures.steps ∙ bit-zero k)
