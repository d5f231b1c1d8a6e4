-- What each command answers, and what it makes of what it is given.
use Rattle.std.specs.Prelude.{◌≡◌, ℕ, ◌-◌, ◌<◌, ◌≤◌, Bool, List, length, take, MatchOption, OnOk, OnErr, Result, T, slice_index}
use Rattle.archive.specs.Archives.{count_of, archive_fault, part_of, place_after}
use Rattle.archive.specs.Denials.{denied}
use Rattle.archive.specs.Faults.{archive_report, state_report}
use Rattle.archive.specs.Held.{Holds}
use Rattle.archive.specs.Layout.{alone_fault}
use Rattle.archive.specs.Writes.{length_of, RunOf}
use Rattle.circuit.specs.Splits.{Divided}
use Rattle.cyclotomic.specs.Refusals.{number_of, answer_of}
use Rattle.cyclotomic.specs.Ring.{Ops}
use Rattle.cyclotomic.specs.Scalars.{triple_of, Negative, embedded}
use Rattle.cyclotomic.specs.Sum.{sum_to}
use Rattle.cyclotomic.specs.declared.refusal.Refusal.{Refusal}
use Rattle.cyclotomic.specs.declared.refusal.Refusal.TheVariants.{Buffer}
use Rattle.cyclotomic.specs.declared.scalar.Scalar.{Scalar as Number}
use Rattle.host.specs.Answers.{entry_number, Answered}
use Rattle.quadratic.specs.Coordinates.{Coordinates as CoordinatesOf}
use Rattle.quadratic.specs.declared.coordinates.Coordinates.{Coordinates as Exact}
use Rattle.quadratic.specs.Running.{added_count, last_number, term_in}
use Rattle.quadratic.specs.Sums.{IsSum, Vanishing}
use Rattle.quadratic.specs.declared.intersection.Intersection.{Intersection}
use Rattle.stabilizer.specs.Calls.{Call, Gated, ProjectedBy}
use Rattle.stabilizer.specs.Overlaps.{sizes_number, Intersects, Roomy, Overlapping}
use Rattle.stabilizer.specs.Paulis.{pauli_of, text_number}
use Rattle.stabilizer.specs.States.{amplitude_number, AmplitudeAt, open_number, Opened, SameState}
use Rattle.stabilizer.specs.declared.state.StabilizerState.{StabilizerState}
use Rattle.console.specs.Answers.{Answers, Comes, Said, IsValue, call_answer, denial_answer, fault_answer, scalar_answer, split_answer}
use Rattle.console.specs.declared.answer.Answer.{Answer}
use Rattle.console.specs.declared.answer.Answer.TheVariants.{Done, Refused, Bytes, Length, Number as Entry, Scalar, Common, Mark}
use Rattle.console.specs.declared.answer.Answer.TheVariants.{Coordinates, Total, Value, Count}
use Rattle.console.specs.declared.answer.Common.{Common as Both}
use Rattle.console.specs.declared.answer.RingValue.{RingValue}
use Rattle.console.specs.declared.command.RingName.{RingName}

-- the state of n qubits in the place of s, or s where n is refused
pub record Opening (n : ℕ) (s s' : StabilizerState) (r : Result Unit Refusal) : Type 0 where
  pub number : answer_of r ≡ open_number n
  pub opened : OnOk r (Opened s' n)
  pub kept : OnErr r (s' ≡ s)

abbrev pub Opens : ℕ → StabilizerState → Answer → StabilizerState → Type 0
Opens n s a s' = Answers call_answer (Opening n s s') a

-- the gate of a kind on the qubits j and l
abbrev pub Gates : ℕ → ℕ → ℕ → StabilizerState → Answer → StabilizerState → Type 0
Gates kind j l s a s' = Answers call_answer (λ r. Gated kind j l s (answer_of r) s') a

-- the projection on the Pauli operator of a text
abbrev pub Projects : List ℕ → StabilizerState → Answer → StabilizerState → Type 0
Projects text s a s' = Answers call_answer (λ r. ProjectedBy (text_number s.qubits text) (pauli_of text) s (answer_of r) s') a

-- the state that the bytes hold, or s where they have a fault
abbrev pub Reads : List ℕ → StabilizerState → Answer → StabilizerState → Type 0
Reads b s a s' = MatchOption (alone_fault b) (Said a Done (Holds b 0 s')) (λ f. Said a (fault_answer (state_report f)) (s' ≡ s))

-- the state with the number i of an archive, or s where it is denied
abbrev pub Takes : List ℕ → ℕ → StabilizerState → Answer → StabilizerState → Type 0
Takes b i s a s' =
    MatchOption (denied b i) (Said a Done (Holds b (place_after b (i - 1)) s')) (λ d. Said a (denial_answer d) (s' ≡ s))

-- the bytes of s were refused, in a buffer that held b and holds b' now: it has no room for them, and all stays
pub record NoRoom (s : StabilizerState) (e : Refusal) (b b' : List ℕ) : Type 0 where
  pub refusal : e ≡ Buffer
  pub short : length b < length_of s
  pub kept : b' ≡ b

-- the m bytes of s are in a buffer that held b and holds b' now; what is past them stays
pub record PutInto (s : StabilizerState) (m : ℕ) (b b' : List ℕ) : Type 0 where
  pub long : m ≡ length_of s
  pub run : RunOf s (take m b')
  pub rest : (i : ℕ) → m ≤ i → slice_index b' i ≡ slice_index b i

abbrev pub WritesInto : StabilizerState → Answer → List ℕ → List ℕ → Type 0
WritesInto s (Length m) b b' = PutInto s m b b'
WritesInto s (Refused e) b b' = NoRoom s e b b'
WritesInto s a b b' = ⊥

-- the bytes of a state were refused: there would be more than 451
pub record TooLong (s : StabilizerState) (e : Refusal) : Type 0 where
  pub refusal : e ≡ Buffer
  pub long : 451 < length_of s

-- the bytes of a state, which are at most 451
abbrev pub Writes : StabilizerState → Answer → List ℕ → Type 0
Writes s Bytes b = RunOf s b
Writes s (Refused e) b = TooLong s e
Writes s a b = ⊥

abbrev pub ShowsAmplitude : ℕ → StabilizerState → Answer → Type 0
ShowsAmplitude y s a = Answers scalar_answer (Comes (amplitude_number s y) (λ r. AmplitudeAt r s y)) a

abbrev pub ShowsOverlap : StabilizerState → StabilizerState → Answer → Type 0
ShowsOverlap t s a = Answers scalar_answer (Comes (sizes_number t s) (λ r. Overlapping r t s)) a

-- the calls divided at a place: s gets those before it
abbrev pub ShowsSplit : List Call → ℕ → StabilizerState → StabilizerState → Answer → Type 0
ShowsSplit calls place s t a = Answers split_answer (Comes (sizes_number t s) (λ r. Divided r calls place s t)) a

-- whether two states are the same
pub record ShowsSame (t s : StabilizerState) (a : Answer) : Type 0 where
  pub equal : Bool
  pub answer : a ≡ Mark equal
  pub sound : T equal → SameState t s
  pub complete : SameState t s → T equal

-- the intersection of t and s in the place of the last one
pub record Shared (t s : StabilizerState) (c : Both) (last' : Intersection) : Type 0 where
  pub sizes : sizes_number t s ≡ 0
  pub both : Intersects c.both t s
  pub roomy : Roomy c.both t s
  pub qubits : c.qubits ≡ t.qubits
  pub left : last' ≡ c.both

-- the last one where the sizes differ
pub record Apart (t s : StabilizerState) (e : Refusal) (last last' : Intersection) : Type 0 where
  pub number : number_of e ≡ sizes_number t s
  pub kept : last' ≡ last

abbrev pub Shares : StabilizerState → StabilizerState → Intersection → Answer → Intersection → Type 0
Shares t s last (Common c) last' = Shared t s c last'
Shares t s last (Refused e) last' = Apart t s e last last'
Shares t s last a last' = ⊥

-- the exponential sum of an intersection
pub record ShowsSum (i : Intersection) (a : Answer) : Type 0 where
  pub value : Number
  pub answer : a ≡ Scalar value
  pub sum : IsSum i value
  pub vanishing : Vanishing i value

pub record ShowsCoordinates (i : Intersection) (a : Answer) : Type 0 where
  pub numbers : Exact
  pub answer : a ≡ Coordinates numbers
  pub coordinates : CoordinatesOf i numbers.a0 numbers.a1 numbers.a2 numbers.a3

-- a fresh running sum that is handed an intersection so many times: its last answer, its count and its value
pub record ShowsTotal (ring : RingName) (times : ℕ) (i : Intersection) (a : Answer) : Type 0 where
  pub sum : RingValue
  pub answer : a ≡ Total (last_number times i) (added_count times i) sum
  pub value : IsValue ring sum (λ R o. sum_to o (term_in o i) (added_count times i))

-- the same in one ring, whose values R stand for elements of C and are shown as the values of a ring
pub record ShowsTotalIn {R C : Type 0} (shows : R → RingValue → Type 0) (element : R → C) (ops : Ops C) (times : ℕ) (i : Intersection)
    (a : Answer) : Type 0 where
  pub sum : R
  pub shown : RingValue
  pub answer : a ≡ Total (last_number times i) (added_count times i) shown
  pub same : shows sum shown
  pub value : element sum ≡ sum_to ops (term_in ops i) (added_count times i)

-- the power of a scalar is negative, and the refusal says so
pub record TooDeep (x : Number) (e : Refusal) : Type 0 where
  pub negative : Negative (triple_of x)
  pub number : number_of e ≡ 25

-- a scalar in a ring, where its power is not negative
pub record Embedded (ring : RingName) (x : Number) (v : RingValue) : Type 0 where
  pub allowed : Negative (triple_of x) → ⊥
  pub value : IsValue ring v (λ R o. embedded o (triple_of x))

abbrev pub Embeds : RingName → Number → Answer → Type 0
Embeds ring x (Value v) = Embedded ring x v
Embeds ring x (Refused e) = TooDeep x e
Embeds ring x a = ⊥

-- the same in one ring
pub record EmbeddedIn {R C : Type 0} (shows : R → RingValue → Type 0) (element : R → C) (ops : Ops C) (x : Number)
    (v : RingValue) : Type 0 where
  pub allowed : Negative (triple_of x) → ⊥
  pub image : R
  pub same : shows image v
  pub value : element image ≡ embedded ops (triple_of x)

abbrev pub EmbedsIn : {R C : Type 0} → (R → RingValue → Type 0) → (R → C) → Ops C → Number → Answer → Type 0
EmbedsIn shows element ops x (Value v) = EmbeddedIn shows element ops x v
EmbedsIn shows element ops x (Refused e) = TooDeep x e
EmbedsIn shows element ops x a = ⊥

-- the count of an archive, or its fault
abbrev pub Checks : List ℕ → Answer → Type 0
Checks b a = MatchOption (archive_fault b) (a ≡ Count (count_of b)) (λ f. a ≡ fault_answer (archive_report f))

-- the bytes of the state with the number i of an archive, or what denies them
abbrev pub Views : List ℕ → ℕ → Answer → List ℕ → Type 0
Views b i a shown = MatchOption (denied b i) (Said a Bytes (shown ≡ part_of b i)) (λ d. a ≡ denial_answer d)

-- the C entry on the bytes of t and of s, and a buffer that held b and holds b' now
pub record Enters (t s : List ℕ) (a : Answer) (b b' : List ℕ) : Type 0 where
  pub number : a ≡ Entry (entry_number t s (length b))
  pub granted : entry_number t s (length b) ≡ 0 → Answered t s b'
  pub refused : 0 < entry_number t s (length b) → b' ≡ b
  pub rest : (k : ℕ) → 4 ≤ k → slice_index b' k ≡ slice_index b k
