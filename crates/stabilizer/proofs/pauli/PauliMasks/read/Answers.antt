use Rattle.std.proofs.Common.{◌≤◌, length, drop, arith, rules, length-drop}
use Rattle.std.proofs.lemmas.List.{take_rest}
use Rattle.stabilizer.proofs.Texts.{masked}
use Rattle.stabilizer.proofs.pauli.PauliMasks.read.Goals as goal

pub overflow_add-result : goal.overflow_add-result
overflow_add-result c =
    let letters = drop 1 c.args.text.now in
    let (ls, h, e) = masked c.in_ok-masks.masks letters (rw take_rest at c.in_ok-masks.ensures) in
    let few : length ls ≤ 48 = let q = c.if-letters-qubits.false in let p = c.requires in omega (arith, length-drop 1 c.args.text.now) in
    let t : c.in_ok-turned.turned ≤ 2 = search rules in
    let q = h.few in
    omega arith
