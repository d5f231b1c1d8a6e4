-- Runs made one call after another, with the gravest refusal that they meet.
use Rattle.std.proofs.Common.{◌≡◌, ℕ, zero, suc, ◌<◌, Bool, true, false, cond, ◌||◌, eqb, List, [], ◌∷◌, ◌++◌, map, take, drop, reverse, Some, None, Option, sym, refl, ap, ◌∙◌, subst, ap₂, arith}
use mathlib.Core.List.{map-append, map-map, reverse-cons}
use Rattle.std.proofs.lemmas.Iterator.{YieldsList, items_from_drains}
use Rattle.std.proofs.lemmas.List.{take-map, drop-map}
use Rattle.std.specs.Borrow.{Bor}
use Rattle.std.specs.Ordering.{ord_max}
use Rattle.cyclotomic.specs.Scalars.{Triple, nought, triple_of}
use Rattle.cyclotomic.specs.declared.scalar.Scalar.{Scalar}
use Rattle.stabilizer.specs.Calls.{Call, gate, project, Step, AppliedBy, ProjectedBy, Projected, impossible, exhausted, kept, halved}
use Rattle.stabilizer.specs.Gates.{gate_numbered}
use Rattle.stabilizer.specs.Overlaps.{IsOverlap, sizes_number}
use Rattle.stabilizer.specs.Paulis.{Pauli, pauli_of, text_number}
use Rattle.stabilizer.specs.declared.gate.Gate.{Gate}
use Rattle.stabilizer.specs.declared.state.StabilizerState.{StabilizerState}
use Rattle.circuit.specs.Made.{call_of}
use Rattle.circuit.specs.Runs.{Run, done, next, among, inverse, backwards, Division, answers, Worth, Valued, OneValue}
use Rattle.circuit.specs.Splits.{Ran, Made, Divides, Comes, gravest}
use Rattle.circuit.specs.declared.call.Call.{Call as Held}
use Rattle.circuit.specs.declared.division.Met.{Met}
use Rattle.circuit.specs.declared.division.Met.TheVariants.{Neither, Impossible, Exhausted}
use Rattle.circuit.specs.contracts.division.MetOrd.TheImpl.{cmp-value}
use Rattle.circuit.proofs.Dividing.{run_more, among-append, every_division}
use Rattle.circuit.proofs.Ideal.{backwards-cons}

-- the graver of what was met twice is the gravest of all
pub graver : (i e i' e' : Bool) → ord_max cmp-value.it (gravest i e) (gravest i' e') ≡ gravest (i || i') (e || e')
graver false false i' e' = least i' e'
  where
    least : (i e : Bool) → ord_max cmp-value.it Neither (gravest i e) ≡ gravest i e
    least i true = refl
    least true false = refl
    least false false = refl
graver true false false false = refl
graver true false true false = refl
graver true false i' true = refl
graver i true i' true = refl
graver i true true false = refl
graver i true false false = refl

pub walked_none : (s : StabilizerState) → Ran [] s Neither s
walked_none s = record { answers = []; run = done; gravest = refl }

-- one call more, at the end of those that were made
pub walked_more : (made : List Call) (c : Call) (s s' s'' : StabilizerState) (met : Met) (a : ℕ) → Ran made s met s' → Step c s' a s''
    → Ran (made ++ (c ∷ [])) s (ord_max cmp-value.it met (gravest (eqb a 21) (eqb a 22))) s''
walked_more made c s s' s'' met a h step = record {
  answers = h.answers ++ (a ∷ []);
  run = run_more h.run c a s'' step;
  gravest = ap (λ m. ord_max cmp-value.it m (gravest (eqb a 21) (eqb a 22))) h.gravest
      ∙ graver (among 21 h.answers) (among 22 h.answers) (eqb a 21) (eqb a 22)
      ∙ ap₂ gravest (more 21) (more 22);
}
  where
    or-none : (p : Bool) → p || false ≡ p
    or-none true = refl
    or-none false = refl

    more : (b : ℕ) → among b h.answers || eqb a b ≡ among b (h.answers ++ (a ∷ []))
    more b = sym (among-append b h.answers (a ∷ []) ∙ ap (◌||◌ (among b h.answers)) (or-none (eqb a b)))

-- the calls that were made are those that the iterator gives
pub walked-all : {I : Type 0} {steps : I → Option (Bor Held) → I → Type 0} {calls : I} {xs : List Held} (ideal : Held → Call)
    (s : StabilizerState) (met : Met) (s' : StabilizerState) → Made steps ideal calls s met s' → YieldsList steps (λ c. c.now) calls xs
    → Ran (map ideal xs) s met s'
walked-all ideal s met s' (made, (u, (t, yields, last)), ran) y =
    subst (λ cs. Ran cs s met s')
    (sym (map-map ideal (λ c. c.now) made) ∙ ap (map ideal) (items_from_drains made (t, yields, λ _. (u, last)) y)) ran

-- the calls of a slice from the last to the first, each inverted
pub backwards-map : (xs : List Held) → map (λ x. inverse (call_of x)) (reverse xs) ≡ backwards (map call_of xs)
backwards-map [] = refl
backwards-map (x ∷ xs) =
    ap (map (λ y. inverse (call_of y))) (reverse-cons x xs) ∙ map-append (λ y. inverse (call_of y)) (reverse xs) (x ∷ [])
    ∙ ap (λ cs. cs ++ (inverse (call_of x) ∷ [])) (backwards-map xs) ∙ sym (backwards-cons (call_of x) (map call_of xs))

-- ---- two runs make a division

pub divides : (xs : List Held) (place : ℕ) (s t s' t' : StabilizerState) (m m' : Met) → Ran (map call_of (take place xs)) s m s'
    → Ran (backwards (map call_of (drop place xs))) t m' t' → Divides (map call_of xs) place s t (ord_max cmp-value.it m m') s' t'
divides xs place s t s' t' m m' f b = record {
  division = record {
    answers_s = f.answers;
    answers_t = b.answers;
    end_s = s';
    end_t = t';
    forward = subst (λ cs. Run cs s f.answers s') (sym (take-map call_of place xs)) f.run;
    backward = subst (λ cs. Run (backwards cs) t b.answers t') (sym (drop-map call_of place xs)) b.run;
  };
  end_s = refl;
  end_t = refl;
  gravest = ap₂ (ord_max cmp-value.it) f.gravest b.gravest
      ∙ graver (among 21 f.answers) (among 22 f.answers) (among 21 b.answers) (among 22 b.answers)
      ∙ ap₂ gravest (sym (among-append 21 f.answers b.answers)) (sym (among-append 22 f.answers b.answers));
}

-- a run keeps the number of qubits
step-qubits : (c : Call) (s : StabilizerState) (a : ℕ) (s' : StabilizerState) → Step c s a s' → s'.qubits ≡ s.qubits
step-qubits (gate kind j l) s a s' h = go a h.granted h.refused
  where
    applied : (o : Option Gate) → AppliedBy o j l s s' → s'.qubits ≡ s.qubits
    applied (Some g) h = h.qubits
    applied None h = absurd h

    go : (a : ℕ) → (a ≡ 0 → AppliedBy (gate_numbered kind) j l s s') → (0 < a → s' ≡ s) → s'.qubits ≡ s.qubits
    go zero g r = applied (gate_numbered kind) (g refl)
    go (suc a) g r = ap (λ x. x.qubits) (r (omega arith))
step-qubits (project text) s a s' h = go (text_number s.qubits text) (pauli_of text) h
  where
    projected : (P : Pauli) (a : ℕ) (s' : StabilizerState) → Projected P s a s' → s'.qubits ≡ s.qubits
    projected P a s' (impossible v) = refl
    projected P a s' (exhausted v b e) = refl
    projected P a s' (kept v b) = refl
    projected P a s' (halved t v b c q e) = q

    go : (k : ℕ) (o : Option Pauli) → ProjectedBy k o s a s' → s'.qubits ≡ s.qubits
    go zero (Some P) h = projected P a s' h
    go zero None h = absurd h
    go (suc k) o h = ap (λ x. x.qubits) h.1

run-qubits : {calls : List Call} {s s' : StabilizerState} {xs : List ℕ} → Run calls s xs s' → s'.qubits ≡ s.qubits
run-qubits done = refl
run-qubits (next {c = c} {s = s} {s' = s'} {a = a} h r) = run-qubits r ∙ step-qubits c s a s' h

-- ---- what a division comes to, by the gravest refusal

-- the value of two states, by the gravest refusal
abbrev WorthBy : Met → StabilizerState → StabilizerState → Triple → Type 0
WorthBy Exhausted t s x = ⊥
WorthBy Impossible t s x = x ≡ nought
WorthBy Neither t s x = IsOverlap t s x

module _ {calls : List Call} {place : ℕ} {s t s' t' : StabilizerState} {met : Met} (h : Divides calls place s t met s' t') where
  pub comes_aside : met ≡ Exhausted → (d : Division calls place s t) × Comes None d
  comes_aside e = (h.division, sym (exhausts_gravest _ _) ∙ ap exhausts (sym h.gravest ∙ e))
    where
      exhausts : Met → Bool
      exhausts Exhausted = true
      exhausts Impossible = false
      exhausts Neither = false

      exhausts_gravest : (i e : Bool) → exhausts (gravest i e) ≡ e
      exhausts_gravest i true = refl
      exhausts_gravest true false = refl
      exhausts_gravest false false = refl

  comes_value : (x : Scalar) → t.qubits ≡ s.qubits → WorthBy met t' s' (triple_of x) → (d : Division calls place s t) × Comes (Some x) d
  comes_value x q w =
      let d = h.division in
      let (counts, worth) = valued _ _ (subst (λ m. WorthBy m t' s' (triple_of x)) h.gravest w) in
      let v : Valued d (triple_of x) = record {
        counts = counts;
        worth = subst (λ k. Worth (among 21 (answers d)) k d.end_s (triple_of x)) h.end_t
            (subst (λ k. Worth (among 21 (answers d)) t' k (triple_of x)) h.end_s worth);
      } in
      (d, (v, every_division calls place s t q d (triple_of x) v))
    where
      valued : (i e : Bool) → WorthBy (gravest i e) t' s' (triple_of x) → (e ≡ false) × Worth i t' s' (triple_of x)
      valued i true w = absurd w
      valued true false w = (refl, w)
      valued false false w = (refl, w)

  pub comes_nought : (x : Scalar) → t.qubits ≡ s.qubits → met ≡ Impossible → triple_of x ≡ nought
      → (d : Division calls place s t) × Comes (Some x) d
  comes_nought x q e w = comes_value x q (subst (λ m. WorthBy m t' s' (triple_of x)) (sym e) w)

  pub comes_overlap : (x : Scalar) → t.qubits ≡ s.qubits → met ≡ Neither → IsOverlap t' s' (triple_of x)
      → (d : Division calls place s t) × Comes (Some x) d
  comes_overlap x q e w = comes_value x q (subst (λ m. WorthBy m t' s' (triple_of x)) (sym e) w)

  pub same_sizes : sizes_number t' s' ≡ sizes_number t s
  same_sizes =
      ap₂ (λ n m. cond (eqb n m) 0 23) (ap (λ k. k.qubits) h.end_t ∙ run-qubits h.division.backward)
      (ap (λ k. k.qubits) h.end_s ∙ run-qubits h.division.forward)

-- whatever one call answers, all divisions that count have one value
pub one_value : (calls : List Held) (s t : StabilizerState) → t.qubits ≡ s.qubits → OneValue (map call_of calls) s t
one_value calls s t q place d x v = every_division (map call_of calls) place s t q d x v
