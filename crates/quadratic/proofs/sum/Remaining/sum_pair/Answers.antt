use Rattle.std.proofs.Common.{◌≡◌, ℕ, ◌+◌, ◌*◌, ◌%◌, ◌^◌, ◌<◌, ◌≤◌, get_or, sym, refl, ap, ◌∙◌, subst, lt_of_le_of_lt, arith}
use lib.Bits.{bit_and, bit_xor, and_le_l, xor_lt}
use lib.Count.{ones}
use lib.Pow.{pow-lt}
use Rattle.quadratic.specs.Bits.{bit, dot}
use Rattle.quadratic.specs.Quadratic.{coef}
use Rattle.quadratic.specs.Value.{value_at}
use Rattle.quadratic.specs.declared.form.QuadraticForm.{QuadraticForm}
use Rattle.quadratic.proofs.Bitlaws.{bit-lt}
use Rattle.quadratic.proofs.Clear.{twice-half}
use Rattle.quadratic.proofs.Eliminate.{pair_left, still-on}
use Rattle.quadratic.proofs.Lowest.{set_below, ones-drop}
use Rattle.quadratic.proofs.sum.Remaining.sum_pair.Goals as goal

-- a row on what is left
masked : (f : QuadraticForm) (a p r : ℕ) → p ≡ get_or f.coupling a 0 → bit_and p r < 2 ^ 48
masked f a p r e = lt_of_le_of_lt (and_le_l p r) (subst (λ x. x < 2 ^ 48) (sym e) (f.inside a))

-- an even coefficient
quarters : (f : QuadraticForm) (a d : ℕ) → bit f.odd a ≡ 0 → d ≡ coef f.odd f.neg a → (d ≤ 6) × (d % 2 ≡ 0)
quarters f a d z e = let l = bit-lt f.neg a in (omega (arith, z, e, l), omega (arith, z, e, l))

pub turned-requires : goal.turned-requires
turned-requires c = let s = c.args.self.now in let l =
    set_below 48 s.live c.args.a s.inside c.requires.first in omega arith

pub turned-rest-requires : goal.turned-rest-requires
turned-rest-requires c = let s = c.args.self.now in let l =
    set_below 48 s.live c.args.b s.inside c.requires.second in omega arith

pub partners-requires : goal.partners-requires
partners-requires c = let s = c.args.self.now in set_below 48 s.live c.args.a s.inside c.requires.first

pub partners-requires-2 : goal.partners-requires-2
partners-requires-2 c = let s = c.args.self.now in set_below 48 s.live c.args.b s.inside c.requires.second

-- two variables less
module _ (f : QuadraticForm) (live a b r : ℕ) (inside : live < 2 ^ 48) (on : bit live a ≡ 1) (on' : bit live b ≡ 1)
    (even : bit f.odd a ≡ 0)
    (even' : bit f.odd b ≡ 0) (coupled : bit (get_or f.coupling a 0) b ≡ 1) (e : r ≡ bit_xor (bit_xor live (2 ^ a)) (2 ^ b)) where
  between : bit_xor live (2 ^ a) < 2 ^ 48
  between = xor_lt 48 live (2 ^ a) inside (pow-lt (set_below 48 live a inside on))

  low : r < 2 ^ 48
  low = subst (λ x. x < 2 ^ 48) (sym e) (xor_lt 48 (bit_xor live (2 ^ a)) (2 ^ b) between (pow-lt (set_below 48 live b inside on')))

  two-less : ones r + 2 ≡ ones live
  two-less =
      let first = ones-drop live a inside on in
      let second = ones-drop (bit_xor live (2 ^ a)) b between (still-on f live a b inside on on' even even' coupled) in
      omega (arith, first, second, ap ones e)

pub invariant_of-self : goal.invariant_of-self
invariant_of-self c =
    let s = c.args.self.now in
    let r = c.turned-rest.result in
    let e = c.turned-rest.ensures ∙ ap (λ x. bit_xor x (2 ^ c.args.b)) c.turned.ensures in
    let p = c.requires in
    let n = two-less s.form s.live c.args.a c.args.b r s.inside p.first p.second
    p.first_even p.second_even p.coupled e in
    let few : s.power + 2 + 2 * ones r ≤ 96 = omega (arith, n, s.few) in record {
      inside = low s.form s.live c.args.a c.args.b r s.inside p.first p.second p.first_even
          p.second_even p.coupled e;
      few = few;
    }

pub returns : goal.returns
returns c =
    let s = c.args.self.now in
    let p = c.requires in
    let r = c.turned-rest.result in
    let e = c.turned-rest.ensures ∙ ap (λ x. bit_xor x (2 ^ c.args.b)) c.turned.ensures in
    record {
      same = pair_left s.form s.live c.args.a c.args.b s.inside p.first p.second
          p.first_even p.second_even p.coupled
          c.add_phase.new.self c.add_parity.new.self c.add_parity-2.new.self c.add_product.new.self
          c.linear-alpha.result c.linear-beta.result
          c.partners.result c.partners-2.result r s.power c.linear-alpha.ensures.value
          c.linear-beta.ensures.value c.partners.ensures c.partners-2.ensures e
          c.add_phase.ensures (λ x. c.add_parity.ensures x ∙ ap (λ t. (value_at c.add_phase.new.self x + t * dot (bit_and c.partners-2.result r) x) % 8)
          (twice-half s.form.odd s.form.neg c.args.a c.linear-alpha.result c.linear-alpha.ensures.value))
          (λ x. c.add_parity-2.ensures x ∙ ap (λ t. (value_at c.add_parity.new.self x + t * dot (bit_and c.partners.result r) x) % 8)
          (twice-half s.form.odd s.form.neg c.args.b c.linear-beta.result c.linear-beta.ensures.value))
          c.add_product.ensures;
      count = two-less s.form s.live c.args.a c.args.b r s.inside p.first p.second
          p.first_even p.second_even p.coupled e;
      powers = refl;
    }
