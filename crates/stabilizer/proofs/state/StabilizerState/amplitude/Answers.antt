use Rattle.std.proofs.Common.{◌≡◌, ◌^◌, false, ltb, sym, arith}
use native.Mathlib.Decide.{dec_lt}
use native.Mathlib.Nat.{div-eq_of_lt}
use Rattle.std.proofs.lemmas.Bool.{le-ltb, cond-false}
use Rattle.stabilizer.proofs.state.StabilizerState.amplitude.Goals as goal

-- a string that is not below 2^n is no number of a string
pub returns-then-string-self-ne0-clause-number : goal.returns-then-string-self-ne0-clause-number
returns-then-string-self-ne0-clause-number c =
    let y = c.args.string in
    let end = 2 ^ c.args.self.now.qubits in
    let far : ltb y end ≡ false = elim (dec_lt y end)
    [ yes l ↦ absurd (c.if-string-self-ne0.true (div-eq_of_lt l)) | no g ↦ le-ltb y end (omega arith) ] in
    sym (cond-false (ltb y end) 0 14 far)
