use Rattle.std.proofs.Common.{◌*◌, ap, subst, ap₂}
use Rattle.stabilizer.specs.Moved.{Placed}
use Rattle.stabilizer.proofs.Gating.{turned-still, turned_rows, bit-of, moved-flip, moved-controlled}
use Rattle.stabilizer.proofs.gate.Gate.apply.Goals as goal

pub returns-in-X : goal.returns-in-X
returns-in-X c =
    let s = c.args.body.now in
    rw c.in-X.is (moved-flip s c.flip.new.self c.args.a c.args.b c.flip.result
    (subst (λ g. Placed g c.args.a c.args.b) c.in-X.is c.requires) c.flip.ensures)

pub returns-in-Z : goal.returns-in-Z
returns-in-Z c =
    let s = c.args.body.now in
    let h = c.add_parity.ensures in
    rw c.in-Z.is (record {
      phases = turned-still s _ _ _ h (λ y. ap (◌*◌ 4)
          (bit-of c.args.a _ c.at.ensures y));
      rows = turned_rows s _ _ h;
    })

pub returns-in-S : goal.returns-in-S
returns-in-S c =
    let s = c.args.body.now in
    let h = c.add_parity-in-S.ensures in
    rw c.in-S.is (record {
      phases = turned-still s _ _ _ h (λ y. ap (◌*◌ 2)
          (bit-of c.args.a _ c.at-in-S.ensures y));
      rows = turned_rows s _ _ h;
    })

pub returns-in-SDagger : goal.returns-in-SDagger
returns-in-SDagger c =
    let s = c.args.body.now in
    let h = c.add_parity-in-SDagger.ensures in
    rw c.in-SDagger.is
    (record {
      phases = turned-still s _ _ _ h (λ y. ap (◌*◌ 6)
          (bit-of c.args.a _ c.at-in-SDagger.ensures y));
      rows = turned_rows s _ _ h;
    })

pub returns-in-CNot : goal.returns-in-CNot
returns-in-CNot c =
    let s = c.args.body.now in
    rw c.in-CNot.is (moved-controlled s c.controlled_flip.new.self c.args.a c.args.b c.controlled_flip.result
    (subst (λ g. Placed g c.args.a c.args.b) c.in-CNot.is c.requires) c.controlled_flip.ensures)

pub returns-in-CZ : goal.returns-in-CZ
returns-in-CZ c =
    let s = c.args.body.now in
    let h = c.add_product.ensures in
    rw c.in-CZ.is (record {
      phases = turned-still s _ _ _ h (λ y. ap₂ (λ u v. 4 * (u * v)) (bit-of c.args.a _ c.at-in-CZ.ensures y)
          (bit-of c.args.b _ c.at-in-CZ-2.ensures y));
      rows = turned_rows s _ _ h;
    })
