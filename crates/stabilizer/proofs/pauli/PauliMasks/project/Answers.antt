use Rattle.std.proofs.Common.{◌≡◌, ◌+◌, ◌*◌, ◌%◌, sym, refl, arith}
use Rattle.quadratic.proofs.Bitlaws.{digit}
use Rattle.stabilizer.proofs.Projecting.{restricted, rotated, grown}
use Rattle.stabilizer.proofs.pauli.PauliMasks.project.Goals as goal

pub returns-in_default : goal.returns-in_default
returns-in_default c =
    grown c.args.self.now c.args.body.now c.extend.new.self c.extend.result c.requires c.in_default.ensures
    c.extend.ensures

pub returns-in-0 : goal.returns-in-0
returns-in-0 c =
    restricted c.args.self.now c.args.body.now c.in-Some.turn.quarters 0 c.in-Some.turn.mask c.in-Some.ensures (sym c.in-0.is) 0 (omega arith) refl
    c.restrict.result c.restrict.new.self c.restrict.ensures

pub returns-in-1 : goal.returns-in-1
returns-in-1 c =
    rw c.turned.ensures.outcome (rotated c.args.self.now c.args.body.now c.in-Some.turn.quarters 1 c.in-Some.turn.mask
    c.in-Some.ensures (sym c.in-1.is) 0 1 3 c.turned.new.body refl c.turned.ensures.space
    (digit (λ d. (1 + 2 * 3 * d) % 8 ≡ (1 + 6 * ((0 + d) * (0 + d))) % 8) refl refl) c.turned.ensures.phases)

pub returns-in-2 : goal.returns-in-2
returns-in-2 c =
    restricted c.args.self.now c.args.body.now c.in-Some.turn.quarters 2 c.in-Some.turn.mask c.in-Some.ensures (sym c.in-2.is) 1 (omega arith) refl
    c.restrict-in-2.result c.restrict-in-2.new.self c.restrict-in-2.ensures

pub returns-in_default-2 : goal.returns-in_default-2
returns-in_default-2 c =
    let m = c.args.self.now in
    let three : 3 ≡ (m.quarters % 4 + c.in-Some.turn.quarters) % 4 = omega arith in
    rw c.turned-in_default-2.ensures.outcome (rotated m c.args.body.now c.in-Some.turn.quarters 3 c.in-Some.turn.mask
    c.in-Some.ensures three 1 7 1 c.turned-in_default-2.new.body refl c.turned-in_default-2.ensures.space
    (digit (λ d. (7 + 2 * 1 * d) % 8 ≡ (1 + 6 * ((1 + d) * (1 + d))) % 8) refl refl) c.turned-in_default-2.ensures.phases)
