-- What a command does to the session.
use Rattle.std.specs.Prelude.{◌≡◌, None, map, vec_items}
use Rattle.circuit.specs.Made.{call_of}
use Rattle.stabilizer.specs.States.{Opened}
use Rattle.stabilizer.specs.declared.state.StabilizerState.{StabilizerState}
use Rattle.console.specs.Commands.{Opens, Gates, Projects, Reads, Takes, Writes, WritesInto, ShowsAmplitude, ShowsOverlap, ShowsSplit}
use Rattle.console.specs.Commands.{ShowsSame, Shares, ShowsSum, ShowsCoordinates, ShowsTotal, Embeds, Checks, Views, Enters}
use Rattle.console.specs.declared.answer.Answer.{Answer}
use Rattle.console.specs.declared.answer.Answer.TheVariants.{Help as ShowsHelp, Fields as ShowsFields}
use Rattle.console.specs.declared.command.Command.{Command}
use Rattle.console.specs.declared.command.Command.TheVariants.{Help, OnState, Split, Overlap, Same, Intersect}
use Rattle.console.specs.declared.command.Command.TheVariants.{Sum, Coordinates, Total, Embed, Check, View, Host}
use Rattle.console.specs.declared.command.Name.{Name}
use Rattle.console.specs.declared.command.Name.TheVariants.{S as NamedS, T as NamedT}
use Rattle.console.specs.declared.command.Operands.{Operands}
use Rattle.console.specs.declared.command.StateCommand.{StateCommand}
use Rattle.console.specs.declared.command.StateCommand.TheVariants.{Open, Read, Take, Write, WriteInto, Fields, Amplitude, Gate, Project}
use Rattle.console.specs.declared.session.Session.{Session}

-- the state with a name
abbrev pub state_of : Session → Name → StabilizerState
state_of x NamedS = x.s
state_of x NamedT = x.t

-- the session with another state for a name
abbrev pub with_state : Session → Name → StabilizerState → Session
with_state x NamedS state = record x { s = state }
with_state x NamedT state = record x { t = state }

-- two states of one qubit with every other field 0, and the empty intersection
pub record Fresh (x : Session) : Type 0 where
  pub s : Opened x.s 1
  pub t : Opened x.t 1
  pub last : x.last.space ≡ None

-- a command that only looks, at a state or at the session
abbrev pub LooksAt : StateCommand → Type 0
LooksAt (Open n) = ⊥
LooksAt Read = ⊥
LooksAt (Take i) = ⊥
LooksAt (Gate kind j l) = ⊥
LooksAt Project = ⊥
LooksAt command = Unit {0}

abbrev pub Looks : Command → Type 0
Looks (OnState name command) = LooksAt command
Looks Intersect = ⊥
Looks command = Unit {0}

-- the state with a name became another one by R, and nothing else changed
pub record Becomes (name : Name) (R : StabilizerState → Answer → StabilizerState → Type 0) (x : Session) (a : Answer)
    (x' : Session) : Type 0 where
  pub state : StabilizerState
  pub by : R (state_of x name) a state
  pub whole : x' ≡ with_state x name state

-- the last intersection became another one, and nothing else changed
pub record Leaves (x : Session) (a : Answer) (x' : Session) : Type 0 where
  pub shared : Shares x.t x.s x.last a x'.last
  pub whole : x' ≡ record x { last = x'.last }

-- a command with operands o on the state s answers a, and leaves o' and s'; what a command that only looks leaves is s
abbrev pub RanOn : StateCommand → Operands → StabilizerState → Answer → Operands → StabilizerState → Type 0
RanOn (Open n) o s a o' s' = Opens n s a s'
RanOn Read o s a o' s' = Reads (vec_items o.first) s a s'
RanOn (Take i) o s a o' s' = Takes (vec_items o.first) i s a s'
RanOn Write o s a o' s' = Writes s a (vec_items o'.buffer)
RanOn WriteInto o s a o' s' = WritesInto s a (vec_items o.buffer) (vec_items o'.buffer)
RanOn Fields o s a o' s' = a ≡ ShowsFields s
RanOn (Amplitude y) o s a o' s' = ShowsAmplitude y s a
RanOn (Gate kind j l) o s a o' s' = Gates kind j l s a s'
RanOn Project o s a o' s' = Projects (vec_items o.first) s a s'

-- the same on the session x, which becomes x'
abbrev pub Ran : Command → Operands → Session → Answer → Operands → Session → Type 0
Ran Help o x a o' x' = a ≡ ShowsHelp
Ran (OnState name command) o x a o' x' = Becomes name (λ s b s'. RanOn command o s b o' s') x a x'
Ran (Split place) o x a o' x' = ShowsSplit (map call_of (vec_items o.calls)) place x.s x.t a
Ran Overlap o x a o' x' = ShowsOverlap x.t x.s a
Ran Same o x a o' x' = ShowsSame x.t x.s a
Ran Intersect o x a o' x' = Leaves x a x'
Ran Sum o x a o' x' = ShowsSum x.last a
Ran Coordinates o x a o' x' = ShowsCoordinates x.last a
Ran (Total ring times) o x a o' x' = ShowsTotal ring times x.last a
Ran (Embed ring e) o x a o' x' = Embeds ring e a
Ran Check o x a o' x' = Checks (vec_items o.first) a
Ran (View i) o x a o' x' = Views (vec_items o.first) i a (vec_items o'.buffer)
Ran Host o x a o' x' = Enters (vec_items o.first) (vec_items o.second) a (vec_items o.buffer) (vec_items o'.buffer)
