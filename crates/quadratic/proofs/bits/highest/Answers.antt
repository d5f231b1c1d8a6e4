use Rattle.std.proofs.Common.{◌≡◌, ℕ, suc, ◌+◌, ◌-◌, ◌^◌, ◌<◌, ◌≤◌, sym, ap, ◌∙◌, pow-suc, arith}
use Rattle.quadratic.specs.Bits.{bit}
use Rattle.quadratic.proofs.Bitlaws.{bit-top}
use Rattle.quadratic.proofs.bits.highest.Goals as goal

top_bit : (x j : ℕ) → 2 ^ j ≤ x → x < 2 ^ suc j → bit x j ≡ 1
top_bit x j a b = let e = pow-suc 2 j in let k : 2 ^ j + (x - 2 ^ j) ≡ x = omega arith in ap (λ y. bit y j) (sym k)
    ∙ bit-top j (x - 2 ^ j) (omega arith)

pub returns : goal.returns
returns c =
    let e = pow-suc 2 c.ilog2.result in
    let most : c.args.x < 2 ^ suc c.ilog2.result = omega (arith, e, c.ilog2.ensures.next_power_gt) in
    record {
      on = top_bit c.args.x c.ilog2.result c.ilog2.ensures.power_le most;
      most = most;
      place = c.ilog2.ensures.bound;
    }
