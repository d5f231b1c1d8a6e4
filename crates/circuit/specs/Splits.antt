-- What dividing a list of calls between two states answers.
use Rattle.std.specs.Prelude.{◌≡◌, ℕ, Bool, true, cond, List, map, Ok, Err, Result, Some, None, Option}
use Rattle.std.specs.Borrow.{Bor, MutBor}
use Rattle.std.specs.Iterator.{Drains}
use Rattle.cyclotomic.specs.Refusals.{answer_of}
use Rattle.cyclotomic.specs.Scalars.{triple_of}
use Rattle.cyclotomic.specs.declared.refusal.Refusal.{Refusal}
use Rattle.cyclotomic.specs.declared.scalar.Scalar.{Scalar}
use Rattle.stabilizer.specs.Calls.{Call, Step}
use Rattle.stabilizer.specs.declared.state.StabilizerState.{StabilizerState}
use Rattle.circuit.specs.Runs.{Run, among, Division, answers, Valued, EveryDivision}
use Rattle.circuit.specs.declared.call.Call.{Call as Held}
use Rattle.circuit.specs.declared.division.Met.{Met}
use Rattle.circuit.specs.declared.division.Met.TheVariants.{Neither, Impossible, Exhausted}

-- of the refusals 21 and 22 the graver one among the answers
abbrev pub gravest : Bool → Bool → Met
gravest impossible exhausted = cond exhausted Exhausted (cond impossible Impossible Neither)

-- the calls were made, and the gravest refusal that was met
pub record Ran (calls : List Call) (s : StabilizerState) (met : Met) (s' : StabilizerState) : Type 0 where
  pub answers : List ℕ
  pub run : Run calls s answers s'
  pub gravest : met ≡ gravest (among 21 answers) (among 22 answers)

-- what makes of each held call a step by the call that stands for it
abbrev pub MakesAs : (Bor Held → MutBor StabilizerState → Result Unit Refusal → MutBor StabilizerState → Type 0) → (Held → Call) → Type 0
MakesAs makes ideal =
    (c : Bor Held) (s : MutBor StabilizerState) (r : Result Unit Refusal) (s' : MutBor StabilizerState)
    → makes c s r s' → Step (ideal c.now) s.now (answer_of r) s'.now

-- the calls that an iterator has left were made, each as the call that stands for it
abbrev pub Made : {I : Type 0} → (I → Option (Bor Held) → I → Type 0) → (Held → Call) → I → StabilizerState → Met → StabilizerState → Type 0
Made steps ideal calls s met s' =
    (made : List (Bor Held)) × Drains steps calls made × Ran (map (λ c. ideal c.now) made) s met s'

-- the calls were divided at a place between s and t, which became s' and t', and the gravest refusal that was met
pub record Divides (calls : List Call) (place : ℕ) (s t : StabilizerState) (met : Met) (s' t' : StabilizerState) : Type 0 where
  pub division : Division calls place s t
  pub end_s : s' ≡ division.end_s
  pub end_t : t' ≡ division.end_t
  pub gravest : met ≡ gravest (among 21 (answers division)) (among 22 (answers division))

-- the value of this division is that of every other that counts; or this one does not count
abbrev pub Comes : {calls : List Call} {place : ℕ} {s t : StabilizerState} → Option Scalar → Division calls place s t → Type 0
Comes {calls} {place} {s} {t} (Some x) d = Valued d (triple_of x) × EveryDivision calls s t (triple_of x)
Comes None d = among 22 (answers d) ≡ true

abbrev pub Divided : Result (Option Scalar) Refusal → List Call → ℕ → StabilizerState → StabilizerState → Type 0
Divided (Ok v) calls place s t = (d : Division calls place s t) × Comes v d
Divided (Err e) calls place s t = Unit {0}
