use Rattle.std.proofs.Common.{◌≡◌, ℕ, ◌+◌, ◌*◌, ◌%◌, ◌^◌, get_or, sym, ap, ◌∙◌, arith}
use lib.Bits.{bit_and, bit_xor}
use Rattle.std.proofs.lemmas.Nat.{one_shl}
use Rattle.quadratic.specs.Bits.{dot}
use Rattle.quadratic.specs.Value.{value_at}
use Rattle.quadratic.proofs.Values.{value-lt}
use Rattle.quadratic.proofs.Clear.{gone, mask_below, slope-at, twice-half}
use Rattle.quadratic.proofs.Substitute.{dot-keep, subst-free, subst-values}
use Rattle.quadratic.proofs.form.QuadraticForm.substitute.Goals as goal

pub add_product-requires : goal.add_product-requires
add_product-requires c =
    let f = c.args.self.now in
    let a = c.args.a in
    let e = one_shl a 64 (omega arith) in
    record { first = c.requires.low; second = mask_below (get_or f.coupling a 0) ((1 * 2 ^ a) % 2 ^ 64) a e 48 (f.inside a) }

pub returns : goal.returns
returns c =
    let f = c.args.self.now in
    let a = c.args.a in
    let row = get_or f.coupling a 0 in
    let h : ℕ = (1 * 2 ^ a) % 2 ^ 64 in
    let e : h ≡ 2 ^ a = one_shl a 64 (omega arith) in
    let rest = bit_xor row (bit_and row h) in
    let t = c.linear.result in
    let v = value_at f in
    let v₁ = value_at c.clear.new.self in
    let v₂ = value_at c.add_parity.new.self in
    let v₃ = value_at c.add_product.new.self in
    let up = λ (p : ℕ). slope-at f a p c.requires.place ∙ ap (λ d. (value_at f p + (d + 4 * dot row p)) % 8) (sym c.linear.ensures.value) in
    let put = λ (p : ℕ). c.add_parity.ensures p
    ∙ ap (λ t. (v₁ p + t * dot c.args.mask p) % 8) (twice-half f.odd f.neg a t c.linear.ensures.value) in
    record {
      values = subst-values a c.args.mask rest row t v v₁ v₂ v₃ (value-lt f) up c.clear.ensures.off
          c.clear.ensures.free put c.add_product.ensures
          c.requires.free (gone row h a e) (λ p z. dot-keep row h a p e z);
      free = subst-free a c.args.mask rest row t v v₁ v₂ v₃ (value-lt f) up c.clear.ensures.off
          c.clear.ensures.free put c.add_product.ensures
          c.requires.free (gone row h a e) (λ p z. dot-keep row h a p e z);
    }
