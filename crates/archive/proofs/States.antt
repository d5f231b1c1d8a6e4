-- The states of an archive, one after another, and what follows them.
use Rattle.std.proofs.Common.{◌≡◌, ℕ, zero, suc, ◌+◌, ◌-◌, ◌%◌, ◌<◌, ◌≤◌, ltb, List, [], ◌∷◌, ◌++◌, map, length, Some, None, Option, sym, refl, ap, ◌∙◌, ap₂, append_assoc, add-zero, suc-add, zero-add, add-one, arith}
use Rattle.std.proofs.lemmas.Bool.{lt-ltb, le-ltb, cond-true, cond-false}
use Rattle.archive.specs.declared.fault.Field.TheVariants.{Count}
use Rattle.archive.specs.declared.fault.StateFault.{StateFault}
use Rattle.archive.specs.declared.fault.ArchiveFault.{ArchiveFault}
use Rattle.archive.specs.declared.fault.ArchiveFault.TheVariants.{State, Short, Overfull}
use Rattle.archive.specs.First.{first, or_else}
use Rattle.archive.specs.Layout.{verdicts, parts_at, first_fault, state_fault, end_of_state}
use Rattle.archive.specs.Archives.{count_of, place_after, carried, states_verdicts, states_fault, rest_verdict, archive_verdicts, archive_fault}
use Rattle.archive.proofs.First.{none-some}
use Rattle.archive.proofs.Steps.{or_assoc}

-- the first of verdicts after verdicts
first-joined : {F : Type 0} (xs ys : List (Option F)) → first (xs ++ ys) ≡ or_else (first xs) (first ys)
unfolding first
first-joined [] ys = refl
first-joined (x ∷ xs) ys = ap (or_else x) (first-joined xs ys) ∙ sym (or_assoc x (first xs) (first ys))

carried-or : (i : ℕ) (x y : Option StateFault) → or_else (carried i x) (carried i y) ≡ carried i (or_else x y)
carried-or i None y = refl
carried-or i (Some f) y = refl

first-carried : (i : ℕ) (xs : List (Option StateFault)) → first (map (carried i) xs) ≡ carried i (first xs)
unfolding first
first-carried i [] = refl
first-carried i (x ∷ xs) = ap (or_else (carried i x)) (first-carried i xs) ∙ carried-or i x (first xs)

pub first-place : (b : List ℕ) → place_after b 0 ≡ 8
unfolding place_after
first-place b = refl

-- each state begins and ends with a byte
pub whole-bytes : (b : List ℕ) (m : ℕ) → place_after b m % 8 ≡ 0
unfolding place_after end_of_state
whole-bytes b zero = refl
whole-bytes b (suc m) = omega arith

pub place-rises : (b : List ℕ) (i : ℕ) → place_after b (i - 1) ≤ place_after b i
unfolding place_after end_of_state
place-rises b zero = omega arith
place-rises b (suc m) = let e : suc m - 1 ≡ m = omega arith in rw e (omega arith)

pub next_place : (b : List ℕ) (i : ℕ) → place_after b (i + 1) ≡ end_of_state b (place_after b i)
unfolding place_after
next_place b i = rw add-one refl

pub no-states : (b : List ℕ) (i : ℕ) → states_fault b i 0 ≡ None
unfolding states_fault first
no-states b i = refl

-- one state more
module _ (b : List ℕ) (i m p : ℕ) (at : p ≡ place_after b i) where
  one_more : (o : Option StateFault) → state_fault b p ≡ o
      → states_fault b i (suc m) ≡ or_else (carried (i + 1) o) (states_fault b (i + 1) m)
  unfolding states_fault state_fault first_fault
  one_more o e =
      let fields = verdicts b (place_after b i) (parts_at b (place_after b i)) in
      first-joined (map (carried (i + 1)) fields) (states_verdicts b (i + 1) m)
      ∙ ap (λ x. or_else x (first (states_verdicts b (i + 1) m)))
      (first-carried (i + 1) fields ∙ ap (carried (i + 1)) (ap (λ q. first (verdicts b q (parts_at b q))) (sym at) ∙ e))

  pub then : (o : Option ArchiveFault) → carried (i + 1) (state_fault b p) ≡ o
      → states_fault b i (suc m) ≡ or_else o (states_fault b (i + 1) m)
  then o e = one_more (state_fault b p) refl ∙ ap (λ t. or_else t (states_fault b (i + 1) m)) e

  state-bad : (f : StateFault) → state_fault b p ≡ Some f → states_fault b i (suc m) ≡ Some (State (i + 1) f)
  state-bad f e = one_more (Some f) e

-- a state without a fault, by itself
pub state-good : (b : List ℕ) (i : ℕ) → states_fault b i 1 ≡ None → state_fault b (place_after b i) ≡ None
state-good b i e = go (state_fault b (place_after b i)) refl where
  go : (o : Option StateFault) → state_fault b (place_after b i) ≡ o → o ≡ None
  go None h = refl
  go (Some f) h = absurd (none-some _ (sym e ∙ state-bad b i 0 _ refl f h))

-- states after states
states-joined : (b : List ℕ) (i m l : ℕ) → states_verdicts b i (m + l) ≡ states_verdicts b i m ++ states_verdicts b (i + m) l
states-joined b i zero l = ap₂ (states_verdicts b) (sym (add-zero i)) (zero-add l)
states-joined b i (suc m) l =
    let fields = map (carried (i + 1)) (verdicts b (place_after b i) (parts_at b (place_after b i))) in
    let e : i + 1 + m ≡ i + suc m = omega arith in
    ap (states_verdicts b i) (suc-add m l)
    ∙ ap (λ t. fields ++ t) (states-joined b (i + 1) m l ∙ ap (λ t. states_verdicts b (i + 1) m ++ states_verdicts b t l) e)
    ∙ sym (append_assoc fields (states_verdicts b (i + 1) m) (states_verdicts b (i + suc m) l))

pub states-split : (b : List ℕ) (i m l : ℕ) → states_fault b i (m + l) ≡ or_else (states_fault b i m) (states_fault b (i + m) l)
unfolding states_fault
states-split b i m l = ap first (states-joined b i m l) ∙ first-joined (states_verdicts b i m) (states_verdicts b (i + m) l)

-- an archive: no count, too high a count, or the states and the rest
pub no-count : (b : List ℕ) → length b ≡ 0 → archive_fault b ≡ Some (Short (record { field = Count; place = 0 }))
unfolding archive_fault archive_verdicts first
no-count [] h = refl
no-count (c ∷ r) h = absurd (omega arith)

pub high-count : (b : List ℕ) → 0 < length b → 100 < count_of b → archive_fault b ≡ Some Overfull
unfolding archive_fault archive_verdicts first
high-count [] h g = absurd (omega arith)
high-count (c ∷ r) h g =
    ap (λ t. or_else t (first (states_verdicts (c ∷ r) 0 c ++ rest_verdict (c ∷ r) (place_after (c ∷ r) c) ∷ [])))
    (cond-true (ltb 100 c) (Some Overfull) None (lt-ltb 100 c g))

pub states-rest : (b : List ℕ) → 0 < length b → count_of b ≤ 100
    → archive_fault b ≡ or_else (states_fault b 0 (count_of b)) (rest_verdict b (place_after b (count_of b)))
unfolding archive_fault archive_verdicts states_fault first
states-rest [] h g = absurd (omega arith)
states-rest (c ∷ r) h g =
    let rest = rest_verdict (c ∷ r) (place_after (c ∷ r) c) in
    ap (λ t. or_else t (first (states_verdicts (c ∷ r) 0 c ++ rest ∷ []))) (cond-false (ltb 100 c) (Some Overfull) None (le-ltb 100 c g))
    ∙ first-joined (states_verdicts (c ∷ r) 0 c) (rest ∷ []) ∙ ap (or_else (first (states_verdicts (c ∷ r) 0 c))) (or-none rest)
  where
    or-none : (x : Option ArchiveFault) → or_else x None ≡ x
    or-none None = refl
    or-none (Some f) = refl
