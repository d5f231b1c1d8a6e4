-- Lists of calls, made on one state or divided between two.
use Rattle.std.specs.Prelude.{◌≡◌, ℕ, Bool, true, false, cond, ◌||◌, List, [], ◌∷◌, ◌++◌, map, reverse, take, drop, ◌==◌}
use Rattle.cyclotomic.specs.Scalars.{Triple, nought}
use Rattle.stabilizer.specs.Calls.{Call, gate, project, Step}
use Rattle.stabilizer.specs.Overlaps.{IsOverlap}
use Rattle.stabilizer.specs.declared.state.StabilizerState.{StabilizerState}

-- S, of number 3, and S†, of number 4, exchanged, and every other call as it is
abbrev pub kind_inverse : ℕ → ℕ
kind_inverse kind = cond (kind == 3) 4 (cond (kind == 4) 3 kind)

abbrev pub inverse : Call → Call
inverse (gate kind j l) = gate (kind_inverse kind) j l
inverse (project text) = project text

-- the calls from the last to the first, each inverted
abbrev pub backwards : List Call → List Call
backwards calls = map inverse (reverse calls)

-- the calls of a list made on s one after another, with these answers, leave s'
pub data Run : List Call → StabilizerState → List ℕ → StabilizerState → Type 0 where
  done : {s : StabilizerState} → Run [] s [] s
  next : {c : Call} {cs : List Call} {s s' s'' : StabilizerState} {a : ℕ} {answers : List ℕ} → Step c s a s' → Run cs s' answers s''
      → Run (c ∷ cs) s (a ∷ answers) s''

-- whether a number is among the answers
abbrev pub among : ℕ → List ℕ → Bool
among a [] = false
among a (b ∷ rest) = b == a || among a rest

-- 0 where a projection was impossible, else the overlap
abbrev pub Worth : Bool → StabilizerState → StabilizerState → Triple → Type 0
Worth true t s value = value ≡ nought
Worth false t s value = IsOverlap t s value

-- The calls divided at a place: s gets those before it, and t the others, from the last to the first and inverted.
pub record Division (calls : List Call) (place : ℕ) (s t : StabilizerState) : Type 0 where
  pub answers_s : List ℕ
  pub answers_t : List ℕ
  pub end_s : StabilizerState
  pub end_t : StabilizerState
  pub forward : Run (take place calls) s answers_s end_s
  pub backward : Run (backwards (drop place calls)) t answers_t end_t

abbrev pub answers : {calls : List Call} {place : ℕ} {s t : StabilizerState} → Division calls place s t → List ℕ
answers d = d.answers_s ++ d.answers_t

-- no projection found the weight exhausted, and this is the value
pub record Valued {calls : List Call} {place : ℕ} {s t : StabilizerState} (d : Division calls place s t) (value : Triple) : Type 0 where
  pub counts : among 22 (answers d) ≡ false
  pub worth : Worth (among 21 (answers d)) d.end_t d.end_s value

-- every division of the list that counts, whatever its place, has this value
abbrev pub EveryDivision : List Call → StabilizerState → StabilizerState → Triple → Type 0
EveryDivision calls s t value = (place : ℕ) (d : Division calls place s t) (other : Triple) → Valued d other → other ≡ value

-- whatever the places, all divisions of the list that count have one value
abbrev pub OneValue : List Call → StabilizerState → StabilizerState → Type 0
OneValue calls s t = (place : ℕ) (d : Division calls place s t) (value : Triple) → Valued d value → EveryDivision calls s t value
