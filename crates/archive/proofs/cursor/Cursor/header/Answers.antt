use Rattle.std.proofs.Common.{◌≡◌, ℕ, ◌+◌, List, [], ◌∷◌, Some, None, Option, sym, refl, ap, ◌∙◌, add-zero}
use Rattle.std.proofs.lemmas.Result.{err_from_is_err_and}
use Rattle.archive.specs.declared.cursor.Cursor.{Cursor}
use Rattle.archive.specs.declared.fault.StateFault.{StateFault}
use Rattle.archive.specs.declared.fault.StateFault.TheVariants.{Bits}
use Rattle.archive.specs.Bits.{bits_from}
use Rattle.archive.specs.Cursors.{Moved, fault_at}
use Rattle.archive.specs.Layout.{qubits, dimension, weight, phase, header, size_at}
use Rattle.archive.proofs.Cursors.{Group, Left, past, halts}
use Rattle.archive.proofs.Steps.{cut, fine, fault-none, stops}
use Rattle.archive.proofs.cursor.Cursor.header.Goals as goal

-- what follows the number of qubits, each field a group of its own
abbrev others : ℕ → List Group
others n = (λ b p. dimension n ∷ []) ∷ (λ b p. weight ∷ []) ∷ (λ b p. phase ∷ []) ∷ []

-- the number of qubits is read, and it is the reader's
sized : {c c' : Cursor} {n : ℕ} → c.at ≡ c.start → n ≡ bits_from c.bytes.now c.at 6 → fault_at c (qubits ∷ []) ≡ None → Moved c c' 6
    → Left (fault_at c (header (size_at c.bytes.now c.start))) c c' 6 (others n)
sized {c} at en fine m = past {X = λ b p. qubits ∷ []} (record {
  fault = ap (λ m. fault_at c (header m)) (sym (en ∙ ap (λ q. bits_from c.bytes.now q 6) at));
  moved = record { bytes = refl; start = refl; place = sym (add-zero c.at) };
}) fine m refl

pub returns-in_err-n-clause-verdict : goal.returns-in_err-n-clause-verdict
returns-in_err-n-clause-verdict c =
    let p = err_from_is_err_and c.from_residual.result c.from_residual.ensures.1 in
    rw (p.1, p.2) (stops _ _ (qubits ∷ []) (dimension _ ∷ weight ∷ phase ∷ []) _ c.in_err-n.ensures.verdict)

pub returns-in_err-k-clause-verdict : goal.returns-in_err-k-clause-verdict
returns-in_err-k-clause-verdict c =
    let size = c.in_ok-n.ensures in
    let one = sized c.requires.place size.value size.verdict size.moved in
    let p = err_from_is_err_and c.from_residual-in_err-k.result c.from_residual-in_err-k.ensures.1 in
    rw (p.1, p.2) (halts one c.in_err-k.ensures.verdict)

pub returns-in_err-number_in-clause-verdict : goal.returns-in_err-number_in-clause-verdict
returns-in_err-number_in-clause-verdict c =
    let size = c.in_ok-n.ensures in
    let rank = c.in_ok-k.ensures in
    let one = sized c.requires.place size.value size.verdict size.moved in
    let two = past one rank.verdict rank.moved refl in
    let p = err_from_is_err_and c.from_residual-in_err-number_in.result c.from_residual-in_err-number_in.ensures.1 in
    rw (p.1, p.2) (halts two c.in_err-number_in.ensures.verdict)

pub returns-in_err-skip-clause-verdict : goal.returns-in_err-skip-clause-verdict
returns-in_err-skip-clause-verdict c =
    let size = c.in_ok-n.ensures in
    let rank = c.in_ok-k.ensures in
    let loss = c.in_ok-number_in.ensures in
    let h = c.in_err-skip.ensures in
    let one = sized c.requires.place size.value size.verdict size.moved in
    let three = past (past one rank.verdict rank.moved refl) loss.verdict loss.moved refl in
    let p = err_from_is_err_and c.from_residual-in_err-skip.result c.from_residual-in_err-skip.ensures.1 in
    rw (p.1, p.2) (three.fault ∙ cut _ _ phase [] h.short ∙ ap (λ f. Some (Bits f)) (sym h.fault))

pub returns-clause-verdict : goal.returns-clause-verdict
returns-clause-verdict c =
    let size = c.in_ok-n.ensures in
    let rank = c.in_ok-k.ensures in
    let loss = c.in_ok-number_in.ensures in
    let one = sized c.requires.place size.value size.verdict size.moved in
    let three = past (past one rank.verdict rank.moved refl) loss.verdict loss.moved refl in
    three.fault ∙ fine _ _ phase [] _ refl c.in_ok-skip.ensures.there refl ∙ fault-none _ _
