-- What a denied command leaves as it was.
use Rattle.std.proofs.Common.{◌≡◌, ℕ, zero, suc, ◌<◌, Ok, Err, Result, Option, Some, None, refl, arith}
use Rattle.cyclotomic.specs.Refusals.{answer_of}
use Rattle.cyclotomic.specs.declared.refusal.Refusal.{Refusal}
use Rattle.quadratic.proofs.Added.{positive}
use Rattle.stabilizer.specs.Calls.{Projected, ProjectedBy, impossible, exhausted, kept, halved}
use Rattle.stabilizer.specs.Paulis.{Pauli}
use Rattle.stabilizer.specs.declared.state.StabilizerState.{StabilizerState}
use Rattle.console.specs.Answers.{Denies, call_answer}

-- a call whose answer denies was refused
pub call-denied : (r : Result Unit Refusal) → Denies (call_answer r) → 0 < answer_of r
call-denied (Ok u) d = absurd d
call-denied (Err e) d = positive e

projected-kept : (P : Pauli) (s s' : StabilizerState) (a : ℕ) → 0 < a → Projected P s a s' → s' ≡ s
projected-kept P s s' a h (impossible v) = refl
projected-kept P s s' a h (exhausted v b l) = refl
projected-kept P s s' a h (kept v b) = refl
projected-kept P s s' a h (halved t v b c q l) = absurd (omega arith)

-- a refused projection leaves the state as it was
pub projection-kept : (n : ℕ) (P : Option Pauli) (s s' : StabilizerState) (a : ℕ) → 0 < a → ProjectedBy n P s a s' → s' ≡ s
projection-kept zero (Some P) s s' a h p = projected-kept P s s' a h p
projection-kept zero None s s' a h p = absurd p
projection-kept (suc n) P s s' a h p = p.1
