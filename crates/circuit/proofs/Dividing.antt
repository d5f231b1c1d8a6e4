-- Every division of a list has the inner product of t and the ideal run of s for its value, up to the weights: so all have one value.
use Rattle.std.proofs.Common.{◌≡◌, ℕ, zero, suc, ◌+◌, ◌-◌, ◌%◌, ◌<◌, ◌≤◌, Bool, true, false, cond, ◌||◌, eqb, List, [], ◌∷◌, ◌++◌, length, take, drop, ℤ, pos, ◌+ℤ◌, neg_ℤ, Some, None, Option, sym, refl, ap, ◌∙◌, subst, ap₂, inl, arith, take-append-drop}
use native.Mathlib.Nat.{mod-mod}
use borrow.Author.Differences.{ints}
use Rattle.std.proofs.lemmas.Bool.{or_parts, ne_eqb, true≢false}
use Rattle.cyclotomic.specs.Adjoin.{Omega, omegas}
use Rattle.cyclotomic.specs.CommFacts
use Rattle.cyclotomic.specs.Exact.{scaled}
use Rattle.cyclotomic.specs.Ring.{two, wpow}
use Rattle.cyclotomic.specs.Scalars.{Triple, Kind}
use Rattle.cyclotomic.proofs.Exact.{bar, Floor, scaled-nought, scaled-turn, scaled-same}
use Rattle.stabilizer.specs.Calls.{Call, gate, project, Step, rotated, rotated_by, Applied, AppliedBy, ProjectedBy}
use Rattle.stabilizer.specs.Calls.{Projected, impossible, exhausted, kept, halved}
use Rattle.stabilizer.specs.Gates.{takes, gate_numbered, operands_number, gate_matrix}
use Rattle.stabilizer.specs.Paulis.{Pauli, pauli_of, read_number, text_number}
use Rattle.stabilizer.specs.Vectors.{entry, inner}
use Rattle.stabilizer.specs.declared.gate.Gate.{Gate}
use Rattle.stabilizer.specs.declared.state.StabilizerState.{StabilizerState}
use Rattle.circuit.specs.Runs.{Run, done, next, among, backwards, Worth, Division, Valued, EveryDivision}
use Rattle.circuit.proofs.Adjoint.{Vector, Same, times-all, zeros, laws, inner-same, inner-times, inner-zeros-right, inner-zeros-left}
use Rattle.circuit.proofs.Adjoint.{adjoint-zeros}
use Rattle.circuit.proofs.Ideal.{gate-map, pauli-map, act_by, scale-by, step, weight, all, weights, all_append, all-adjoint}
use Rattle.circuit.proofs.Ideal.{weights-append, weights-backwards, weights-factor}

infixl 70 ◌⊗◌
open omegas use {nil, one, times as ◌⊗◌}

-- ---- answers

pub among-append : (a : ℕ) (xs ys : List ℕ) → among a (xs ++ ys) ≡ among a xs || among a ys
among-append a [] ys = refl
among-append a (x ∷ xs) ys = ap (◌||◌ (eqb x a)) (among-append a xs ys) ∙ assoc (eqb x a) (among a xs) (among a ys)
  where
    assoc : (p q r : Bool) → p || (q || r) ≡ (p || q) || r
    assoc true q r = refl
    assoc false q r = refl

-- one call more at the end, for a loop that makes the calls one after another
pub run_more : {cs : List Call} {s s' : StabilizerState} {xs : List ℕ} → Run cs s xs s' → (c : Call) (a : ℕ) (s'' : StabilizerState)
    → Step c s' a s'' → Run (cs ++ (c ∷ [])) s (xs ++ (a ∷ [])) s''
run_more done c a s'' h = next h done
run_more (next g r) c a s'' h = next g (run_more r c a s'' h)

-- ---- what a call makes of a state, against the ideal v: nothing is left of v, or the state's vector times a is v

abbrev Follows : ℕ → Bool → Omega → Vector → StabilizerState → Type 0
Follows n lost a v s = (s.qubits ≡ n) × cond lost (Same n v zeros) (Same n (times-all a (entry s)) v)

still : (s s' : StabilizerState) → s' ≡ s → Follows s.qubits false one (entry s) s'
still s s' e = (ap (λ x. x.qubits) e, λ y l. CommFacts.one_times laws _ ∙ ap (λ x. entry x y) e)

-- the exact value of a scalar turned by ω^k
entry-rotated : (n k : ℕ) (x : Triple) → scaled n (rotated k x) ≡ wpow omegas k ⊗ scaled n x
unfolding scaled
entry-rotated n k x = go x.0 x.1 x.2
  where
    go : (e : ℕ) (p : ℤ) (m : ℕ) → scaled n (rotated_by e p m k) ≡ wpow omegas k ⊗ scaled n (e, p, m)
    go zero p m = sym (CommFacts.times_nil laws (wpow omegas k))
    go (suc e) p m = scaled-turn n (suc e) p m k ((m + k) % 8) (mod-mod (m + k) 8)

gate-follows : (s s' : StabilizerState) (j l : ℕ) (o : Option Gate) → (operands_number o s.qubits j l ≡ 0 → AppliedBy o j l s s')
    → (0 < operands_number o s.qubits j l → s' ≡ s)
    → Follows s.qubits (eqb (operands_number o s.qubits j l) 21) (scale-by (operands_number o s.qubits j l) one)
    (act_by (operands_number o s.qubits j l) (gate-map o s.qubits j l) (entry s)) s'
gate-follows s s' j l (Some g) h i = go (takes g s.qubits j l) h i
  where
    go : (b : Bool) → (◌≡◌ {A = ℕ} (cond b 0 10) 0 → Applied (gate_matrix s.qubits g j l) s s') → (0 < cond b 0 10 → s' ≡ s)
        → Follows s.qubits (eqb (cond b 0 10) 21) (scale-by (cond b 0 10) one)
        (act_by (cond b 0 10) (gate-map (Some g) s.qubits j l) (entry s)) s'
    go true h i = ((h refl).qubits, λ y k. CommFacts.one_times laws _ ∙ ap (scaled 4144) ((h refl).amplitudes y) ∙ entry-rotated 4144 _ _)
    go false h i = still s s' (i (omega arith))
gate-follows s s' j l None h i = still s s' (i (omega arith))

projected-follows : (P : Pauli) (s : StabilizerState) (a : ℕ) (s' : StabilizerState) → Projected P s a s' → eqb a 22 ≡ false
    → Follows s.qubits (eqb a 21) (two omegas) (pauli-map (Some P) (entry s)) s'
projected-follows P s a s' (impossible v) u = (refl, v)
projected-follows P s a s' (exhausted v b e) u = absurd (true≢false u)
projected-follows P s a s' (kept v b) u = (refl, b)
projected-follows P s a s' (halved t v b c q e) u = (q, c)

text-follows : (s s' : StabilizerState) (a k : ℕ) (o : Option Pauli) → k ≤ 12 → ProjectedBy k o s a s' → eqb a 22 ≡ false
    → Follows s.qubits (eqb a 21) (scale-by k (two omegas)) (act_by k (pauli-map o) (entry s)) s'
text-follows s s' a zero (Some P) h p u = projected-follows P s a s' p u
text-follows s s' a zero None h p u = absurd p
text-follows s s' a (suc k) o h p u = rw (ne_eqb a 21 (λ e. let f = p.0 in omega arith)) (still s s' p.1)

text-small : (n : ℕ) (text : List ℕ) → text_number n text ≤ 12
text-small n text = go (eqb (length text) (n + 1)) (pauli_of text)
  where
    go : (b : Bool) (o : Option Pauli) → cond b (read_number o) 11 ≤ 12
    go true (Some P) = omega arith
    go true None = omega arith
    go false o = omega arith

step_follows : (c : Call) (s : StabilizerState) (a : ℕ) (s' : StabilizerState) → Step c s a s' → eqb a 22 ≡ false
    → Follows s.qubits (eqb a 21) (weight s.qubits c) (step s.qubits c (entry s)) s'
step_follows (gate kind j l) s a s' h u =
    rw h.number (gate-follows s s' j l (gate_numbered kind) (λ e. h.granted (h.number
    ∙ e)) (λ i. h.refused (subst (λ x. 0 < x) (sym h.number) i)))
step_follows (project text) s a s' h u =
    text-follows s s' a (text_number s.qubits text) (pauli_of text) (text-small s.qubits text) h u

-- ---- whole runs

module _ (n : ℕ) where
  after : (c : Call) (cs : List Call) (v : Vector) (s : StabilizerState) → Same n (times-all (weight n c) (entry s)) (step n c v)
      → Same n (all n cs (step n c v)) (times-all (weight n c) (all n cs (entry s)))
  after c cs v s h y l =
      let linear = all-adjoint n cs in
      sym (linear.same _ _ h y l) ∙ linear.scales (weight n c) (entry s) y l

  -- one call more in front
  follows_next : (c : Call) (cs : List Call) (v : Vector) (s s' : StabilizerState) (lost lost' : Bool)
      → Follows n lost (weight n c) (step n c v) s → Follows n lost' (weights n cs) (all n cs (entry s)) s'
      → Follows n (lost || lost') (weights n (c ∷ cs)) (all n (c ∷ cs) v) s'
  follows_next c cs v s s' true lost' h i = (i.0, adjoint-zeros n _ _ (all-adjoint n cs) (step n c v) h.1)
  follows_next c cs v s s' false true h i =
      (i.0, λ y l. after c cs v s h.1 y l ∙ ap (◌⊗◌ (weight n c)) (i.1 y l) ∙ CommFacts.times_nil laws _)
  follows_next c cs v s s' false false h i = (
    i.0,
    λ y l. laws.times_assoc (weight n c) (weights n cs) (entry s' y) ∙ ap (◌⊗◌ (weight n c)) (i.1 y l) ∙ sym (after c cs v s h.1 y l),
  )

  run-follows : {cs : List Call} {s s' : StabilizerState} {xs : List ℕ} → Run cs s xs s' → s.qubits ≡ n → among 22 xs ≡ false
      → Follows n (among 21 xs) (weights n cs) (all n cs (entry s)) s'
  run-follows done e u = (e, λ y l. CommFacts.one_times laws _)
  run-follows (next {c = c} {cs = cs} {s = s} {s' = s₁} {s'' = s₂} {a = a} {answers = xs} h r) e u =
      let (now, later) = or_parts (eqb a 22) (among 22 xs) u in
      let f : Follows n (eqb a 21) (weight n c) (step n c (entry s)) s₁ =
      subst (λ k. Follows k (eqb a 21) (weight k c) (step k c (entry s)) s₁) e (step_follows c s a s₁ h now) in
      follows_next c cs (entry s) s₁ s₂ (eqb a 21) (among 21 xs) f (run-follows r f.0 later)

  -- the value of a division, against the ideal
  worth-follows : (a b : Omega) (v u : Vector) (s t : StabilizerState) (lost lost' : Bool) (x : Triple) → bar b ≡ b
      → Follows n lost a v s → Follows n lost' b u t → Worth (lost || lost') t s x → (a ⊗ b) ⊗ scaled 8288 x ≡ inner n u v
  worth-follows a b v u s t true lost' x real h i w =
      ap (◌⊗◌ (a ⊗ b)) (ap (scaled 8288) w ∙ scaled-nought 8288) ∙ CommFacts.times_nil laws _ ∙ sym (inner-zeros-right n u v h.1)
  worth-follows a b v u s t false true x real h i w =
      ap (◌⊗◌ (a ⊗ b)) (ap (scaled 8288) w ∙ scaled-nought 8288) ∙ CommFacts.times_nil laws _ ∙ sym (inner-zeros-left n u v i.1)
  worth-follows a b v u s t false false x real h i w =
      ap₂ ◌⊗◌ (laws.times_comm a b ∙ ap (λ c. c ⊗ a) (sym real)) (w.exact ∙ ap (λ k. inner k (entry t) (entry s)) i.0)
      ∙ sym (inner-times n b a (entry t) (entry s)) ∙ inner-same n i.1 h.1

-- the value of a division times the weights is the inner product of t and the ideal run of s
division-value : (calls : List Call) (place : ℕ) (s t : StabilizerState) → t.qubits ≡ s.qubits
    → (d : Division calls place s t) (x : Triple)
    → Valued d x → weights s.qubits calls ⊗ scaled 8288 x ≡ inner s.qubits (entry t) (all s.qubits calls (entry s))
division-value calls place s t e d x w =
    let n = s.qubits in
    let front = take place calls in
    let rest = drop place calls in
    let split : front ++ rest ≡ calls = take-append-drop place calls in
    let (calm-s, calm-t) = or_parts _ _ (sym (among-append 22 d.answers_s d.answers_t) ∙ w.counts) in
    let f = run-follows n d.forward refl calm-s in
    let g = run-follows n d.backward e calm-t in
    let worth = subst (λ b. Worth b d.end_t d.end_s x) (among-append 21 d.answers_s d.answers_t) w.worth in
    ap (λ a. a ⊗ scaled 8288 x) (ap (weights n) (sym split) ∙ weights-append n front rest
    ∙ ap (◌⊗◌ (weights n front)) (sym (weights-backwards n rest)))
    ∙ worth-follows n (weights n front) (weights n (backwards rest)) (all n front (entry s)) (all n (backwards rest) (entry t)) d.end_s
    d.end_t (among 21 d.answers_s) (among 21 d.answers_t) x (weights-factor n (backwards rest)).real f g worth
    ∙ sym ((all-adjoint n rest).moves (entry t) (all n front (entry s)))
    ∙ ap (inner n (entry t)) (sym (all_append n front rest (entry s)) ∙ ap (λ cs. all n cs (entry s)) split)

-- ---- values are scalars within the range in which the exact value tells them apart

worth-kind : (b : Bool) (t s : StabilizerState) (x : Triple) → Worth b t s x → Kind x × Floor 8288 x
worth-kind true t s x w = (inl w, λ o. let z : ◌≡◌ {A = ℕ} 0 1 = sym (ap (λ y. y.0) w) ∙ o in absurd (omega arith))
worth-kind false t s x w = (w.kind, λ o. let (a, e, h) = w.range o in (8288 - a, ap (◌+ℤ◌ (pos 8288)) e ∙ lifted a h))
  where
    lifted : (a : ℕ) → a ≤ 8240 → pos 8288 +ℤ neg_ℤ (pos a) ≡ pos (8288 - a)
    lifted a h = omega (arith, ints)

-- every division that counts has the value of one of them
pub every_division : (calls : List Call) (place : ℕ) (s t : StabilizerState) → t.qubits ≡ s.qubits
    → (d : Division calls place s t) (x : Triple)
    → Valued d x → EveryDivision calls s t x
every_division calls place s t e d x w place' d' y w' =
    let (k, f) = worth-kind _ _ _ x w.worth in
    let (k', f') = worth-kind _ _ _ y w'.worth in
    scaled-same 8288 y x k' k f' f ((weights-factor s.qubits calls).cancels _ _
    (division-value calls place' s t e d' y w' ∙ sym (division-value calls place s t e d x w)))
