-- States with the same amplitudes have the same fields, so the same bytes.
use Rattle.std.proofs.Common.{◌≡◌, ℕ, ◌*◌, List, sym, ap, ◌∙◌, subst, ap₂}
use lib.Count.{ones}
use Rattle.quadratic.specs.Bits.{bit}
use Rattle.quadratic.specs.Fields.{coefficient_at, coupling_between}
use Rattle.quadratic.specs.Phase.{SamePhases}
use Rattle.quadratic.specs.Quadratic.{coef}
use Rattle.quadratic.specs.declared.phased.PhasedSpace.{PhasedSpace}
use Rattle.quadratic.proofs.Distinct.{pivots-same, shift_same, row_same}
use Rattle.quadratic.proofs.Same.{same-strings, same-values}
use Rattle.quadratic.proofs.Unique.{Equal, same-form}
use Rattle.stabilizer.specs.States.{SameState}
use Rattle.stabilizer.specs.declared.state.StabilizerState.{StabilizerState}
use Rattle.stabilizer.proofs.Same.{same_body, same-loss}
use Rattle.archive.specs.Held.{Spans, Weighs, Holds}
use Rattle.archive.specs.Writes.{RunOf, Telling}
use Rattle.archive.proofs.Alone.{alone-end}
use Rattle.archive.proofs.OneRun.{one-run}
use Rattle.archive.proofs.OneState.{one_state}

module _ (s t : PhasedSpace) (h : SamePhases s t) where
  pivots : s.space.pivots ≡ t.space.pivots
  pivots = pivots-same s.space t.space (same-strings s t h)

  form : Equal s.form t.form
  form = same-form s.form t.form (λ c l. same-values s t h pivots c)

  spans-of : (b : List ℕ) (p n k : ℕ) → Spans b p n k s → Spans b p n k t
  spans-of b p n k v =
      let to = (same-strings s t h).0 in
      record {
        count = ap ones (sym pivots) ∙ v.count;
        pivots = λ q o. v.pivots q (ap (λ m. bit m q) pivots ∙ o);
        rows = λ a l. sym (row_same s.space t.space to pivots _) ∙ v.rows a l;
        shift = sym (shift_same s.space t.space to pivots) ∙ v.shift;
      }

  same-linear : (q : ℕ) → coefficient_at t q ≡ coefficient_at s q
  same-linear q = ap₂ (λ o n. coef o n q) (sym form.odds) (sym form.negs)

  same-coupling : (q r : ℕ) → coupling_between t q r ≡ coupling_between s q r
  same-coupling q r = ap (λ x. 4 * bit x r) (sym (form.rows q))

  weighs-of : (b : List ℕ) (p n k : ℕ) → Weighs b p n k s → Weighs b p n k t
  weighs-of b p n k v = record {
    phase = sym form.phases ∙ v.phase;
    linear = λ a l. same-linear _ ∙ v.linear a l;
    coupling = λ a c l m. same-coupling _ _ ∙ v.coupling a c l m;
  }

-- what holds a state holds every state with its amplitudes
holds_of : (b : List ℕ) (p : ℕ) (s t : StabilizerState) → SameState s t → Holds b p s → Holds b p t
holds_of b p s t h v =
    let same = same_body s t h in
    record {
      qubits = sym h.qubits ∙ v.qubits;
      weight = sym (same-loss s t h) ∙ v.weight;
      spans = spans-of s.body t.body same b p _ _ v.spans;
      weighs = weighs-of s.body t.body same b p _ _ v.weighs;
    }

-- two states have equal bytes exactly where they have equal amplitudes
pub telling : (s : StabilizerState) (b : List ℕ) → RunOf s b → Telling s b
telling s b r = record {
  sound = λ t d q e. one_state d 0 s t (alone-end d q.sound).0 (subst (λ x. Holds x 0 s) e r.holds) q.holds;
  complete = λ t d q h. one-run t b d (record { sound = r.sound; holds = holds_of b 0 s t h r.holds; bytes = r.bytes }) q;
}
