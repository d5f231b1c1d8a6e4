-- The ideal run of a list of calls: every call's matrix applied in full, and one that is refused for its input not at all.
use Rattle.std.proofs.Common.{◌≡◌, ℕ, zero, suc, ◌≤◌, Bool, true, false, cond, eqb, List, [], ◌∷◌, ◌++◌, map, reverse, length, Some, None, Option, sym, refl, ap, ◌∙◌, subst, ap₂, arith}
use mathlib.Core.Path.{fun_ext}
use mathlib.Core.List.{reverse-cons, map-append}
use Rattle.std.proofs.lemmas.Bool.{ne_eqb}
use Rattle.cyclotomic.specs.Adjoin.{Omega, omegas}
use Rattle.cyclotomic.specs.CommFacts
use Rattle.cyclotomic.specs.Ring.{two}
use Rattle.cyclotomic.proofs.Exact.{bar}
use Rattle.cyclotomic.proofs.Scalars.{double-same}
use Rattle.stabilizer.specs.Calls.{Call, gate, project, applied, doubled}
use Rattle.stabilizer.specs.Gates.{takes, gate_numbered, gate_number, operands_number, gate_matrix}
use Rattle.stabilizer.specs.Paulis.{Pauli, pauli_of, text_number}
use Rattle.stabilizer.proofs.Texts.{pauli-length, text-length}
use Rattle.stabilizer.specs.declared.gate.Gate.{Gate}
use Rattle.circuit.specs.Runs.{kind_inverse, inverse, backwards}
use Rattle.circuit.proofs.Adjoint.{Vector, Adjoint, laws, bar-one, bar-two, bar-times, adjoint-none, adjoint-applied, adjoint-plus}
use Rattle.circuit.proofs.Adjoint.{adjoint-then}
use Rattle.stabilizer.proofs.Matrices.{inverseGate, takes-inverse, gate-opposite, pauli-opposite}

-- the number with which a call is refused for what is handed in, whatever the state of n qubits holds; else 0
abbrev pub input_number : ℕ → Call → ℕ
input_number n (gate kind j l) = gate_number n kind j l
input_number n (project text) = text_number n text

infixl 70 ◌⊗◌
open omegas use {one, times as ◌⊗◌}

-- ---- what one call makes of a vector, and what that is too large by

abbrev pub gate-map : Option Gate → ℕ → ℕ → ℕ → Vector → Vector
gate-map (Some g) n j l v = applied (gate_matrix n g j l) v
gate-map None n j l v = v

abbrev pub pauli-map : Option Pauli → Vector → Vector
pauli-map (Some P) v = doubled P v
pauli-map None v = v

abbrev act : ℕ → Call → Vector → Vector
act n (gate kind j l) = gate-map (gate_numbered kind) n j l
act n (project text) = pauli-map (pauli_of text)

abbrev scale : Call → Omega
scale (gate kind j l) = one
scale (project text) = two omegas

-- by the number with which the call is refused for its input
abbrev pub act_by : ℕ → (Vector → Vector) → Vector → Vector
act_by zero f v = f v
act_by (suc k) f v = v

abbrev pub scale-by : ℕ → Omega → Omega
scale-by zero a = a
scale-by (suc k) a = one

module _ (n : ℕ) where
  abbrev pub step : Call → Vector → Vector
  step c = act_by (input_number n c) (act n c)

  abbrev pub weight : Call → Omega
  weight c = scale-by (input_number n c) (scale c)

  abbrev pub all : List Call → Vector → Vector
  all [] v = v
  all (c ∷ cs) v = all cs (step c v)

  abbrev pub weights : List Call → Omega
  weights [] = one
  weights (c ∷ cs) = weight c ⊗ weights cs

  pub all_append : (cs ds : List Call) (v : Vector) → all (cs ++ ds) v ≡ all ds (all cs v)
  all_append [] ds v = refl
  all_append (c ∷ cs) ds v = all_append cs ds (step c v)

-- ---- the inverse of a call is refused for the same input

abbrev opposite : Option Gate → Option Gate
opposite (Some g) = Some (inverseGate g)
opposite None = None

gate-inverse : (kind : ℕ) → gate_numbered (kind_inverse kind) ≡ opposite (gate_numbered kind)
gate-inverse zero = refl
gate-inverse (suc zero) = refl
gate-inverse (suc (suc zero)) = refl
gate-inverse (suc (suc (suc zero))) = refl
gate-inverse (suc (suc (suc (suc zero)))) = refl
gate-inverse (suc (suc (suc (suc (suc zero))))) = refl
gate-inverse (suc (suc (suc (suc (suc (suc zero)))))) = refl
gate-inverse (suc (suc (suc (suc (suc (suc (suc k))))))) =
    simp (
      past 1 (omega arith),
      past 2 (omega arith),
      past 3 (omega arith),
      past 4 (omega arith),
      past 5 (omega arith),
      past 6 (omega
          arith),
    )
  where
    past : (i : ℕ) → i ≤ 6 → eqb (suc (suc (suc (suc (suc (suc (suc k))))))) i ≡ false
    past i h = ne_eqb _ i (λ e. omega arith)

operands-inverse : (o : Option Gate) (n j l : ℕ) → operands_number (opposite o) n j l ≡ operands_number o n j l
operands-inverse (Some g) n j l = ap (λ b. cond b 0 10) (takes-inverse g n j l)
operands-inverse None n j l = refl

number-inverse : (n : ℕ) (c : Call) → input_number n (inverse c) ≡ input_number n c
number-inverse n (gate kind j l) = ap (λ o. operands_number o n j l) (gate-inverse kind) ∙ operands-inverse (gate_numbered kind) n j l
number-inverse n (project text) = refl

-- one call more in front is one more at the end, backwards
pub backwards-cons : (c : Call) (cs : List Call) → backwards (c ∷ cs) ≡ backwards cs ++ (inverse c ∷ [])
backwards-cons c cs = ap (map inverse) (reverse-cons c cs) ∙ map-append inverse (reverse cs) (c ∷ [])

-- ---- the adjoint of a call's map is the map of its inverse

module _ (n : ℕ) where
  gate-adjoint : (j l : ℕ) (o : Option Gate) → operands_number o n j l ≡ 0 → Adjoint n (gate-map o n j l) (gate-map (opposite o) n j l)
  gate-adjoint j l (Some g) e = adjoint-applied n _ _ (gate-opposite n g j l (taken (takes g n j l) e))
    where
      taken : (b : Bool) → ◌≡◌ {A = ℕ} (cond b 0 10) 0 → b ≡ true
      taken true e = refl
      taken false e = absurd (omega arith)
  gate-adjoint j l None e = adjoint-none n

  pauli-adjoint : (o : Option Pauli) → ((P : Pauli) → o ≡ Some P → length P.letters ≡ n) → Adjoint n (pauli-map o) (pauli-map o)
  pauli-adjoint (Some P) h = adjoint-plus n _ _ _ _ (adjoint-none n) (adjoint-applied n _ _ (pauli-opposite n P (h P refl)))
  pauli-adjoint None h = adjoint-none n

  act-adjoint : (c : Call) → input_number n c ≡ 0 → Adjoint n (act n c) (act n (inverse c))
  act-adjoint (gate kind j l) e =
      subst (λ o. Adjoint n (gate-map (gate_numbered kind) n j l) (gate-map o n j l)) (sym (gate-inverse kind)) (gate-adjoint j l (gate_numbered kind) e)
  act-adjoint (project text) e =
      pauli-adjoint (pauli_of text) (λ P h. let a = pauli-length text P h in let b = text-length n text e in omega arith)

  step-adjoint : (c : Call) → Adjoint n (step n c) (step n (inverse c))
  step-adjoint c =
      subst (λ k. Adjoint n (step n c) (act_by k (act n (inverse c)))) (sym (number-inverse n c)) (go (input_number n c) refl)
    where
      go : (k : ℕ) → input_number n c ≡ k → Adjoint n (act_by k (act n c)) (act_by k (act n (inverse c)))
      go zero e = act-adjoint c e
      go (suc k) e = adjoint-none n

  -- the adjoint of an ideal run is the ideal run of the inverses, from the last to the first
  pub all-adjoint : (cs : List Call) → Adjoint n (all n cs) (all n (backwards cs))
  all-adjoint [] = adjoint-none n
  all-adjoint (c ∷ cs) =
      subst (Adjoint n (all n (c ∷ cs)))
      (sym (fun_ext (λ v. ap (λ ds. all n ds v) (backwards-cons c cs) ∙ all_append n (backwards cs) (inverse c ∷ []) v)))
      (adjoint-then n _ _ _ _ (step-adjoint c) (all-adjoint cs))

  -- ---- the weights

  weight-inverse : (c : Call) → weight n (inverse c) ≡ weight n c
  weight-inverse c = ap₂ scale-by (number-inverse n c) (same c)
    where
      same : (c : Call) → scale (inverse c) ≡ scale c
      same (gate kind j l) = refl
      same (project text) = refl

  pub weights-append : (cs ds : List Call) → weights n (cs ++ ds) ≡ weights n cs ⊗ weights n ds
  weights-append [] ds = sym (CommFacts.one_times laws _)
  weights-append (c ∷ cs) ds = ap (◌⊗◌ (weight n c)) (weights-append cs ds) ∙ sym (laws.times_assoc _ _ _)

  pub weights-backwards : (cs : List Call) → weights n (backwards cs) ≡ weights n cs
  weights-backwards [] = refl
  weights-backwards (c ∷ cs) =
      ap (weights n) (backwards-cons c cs) ∙ weights-append (backwards cs) (inverse c ∷ [])
      ∙ ap₂ ◌⊗◌ (weights-backwards cs) (laws.times_one _ ∙ weight-inverse c) ∙ laws.times_comm _ _

  -- a factor that conjugation leaves, and that cancels
  pub record Factor (a : Omega) : Type 0 where
    pub real : bar a ≡ a
    pub cancels : (x y : Omega) → a ⊗ x ≡ a ⊗ y → x ≡ y

  factor-one : Factor one
  factor-one = record { real = bar-one; cancels = λ x y e. sym (CommFacts.one_times laws x) ∙ e ∙ CommFacts.one_times laws y }

  factor-two : Factor (two omegas)
  factor-two = record {
    real = bar-two;
    cancels = λ x y e. double-same x y (sym (CommFacts.two_times laws x) ∙ e ∙ CommFacts.two_times laws y);
  }

  factor-times : (a b : Omega) → Factor a → Factor b → Factor (a ⊗ b)
  factor-times a b p q = record {
    real = bar-times a b ∙ ap₂ ◌⊗◌ p.real q.real;
    cancels = λ x y e. q.cancels x y (p.cancels (b ⊗ x) (b ⊗ y) (sym (laws.times_assoc a b x) ∙ e ∙ laws.times_assoc a b y));
  }

  weight-factor : (c : Call) → Factor (weight n c)
  weight-factor c = go (input_number n c) c
    where
      go : (k : ℕ) (c : Call) → Factor (scale-by k (scale c))
      go zero (gate kind j l) = factor-one
      go zero (project text) = factor-two
      go (suc k) c = factor-one

  pub weights-factor : (cs : List Call) → Factor (weights n cs)
  weights-factor [] = factor-one
  weights-factor (c ∷ cs) = factor-times _ _ (weight-factor c) (weights-factor cs)
