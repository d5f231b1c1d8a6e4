-- The words in which a command is written.
use Rattle.std.specs.Prelude.{◌≡◌, ◌≢◌, ℕ, List, [], ◌∷◌, codes, map, vec_items}
use Rattle.circuit.specs.Made.{call_of}
use Rattle.cyclotomic.specs.Scalars.{triple_of}
use Rattle.console.specs.Parts.{Part, itself, number, bytes, text, calls, scalar_parts}
use Rattle.console.specs.Words.{words_in}
use Rattle.console.specs.declared.command.Command.{Command}
use Rattle.console.specs.declared.command.Command.TheVariants.{Help, OnState, Split, Overlap, Same, Intersect}
use Rattle.console.specs.declared.command.Command.TheVariants.{Sum, Coordinates, Total, Embed, Check, View, Host}
use Rattle.console.specs.declared.command.Name.{Name}
use Rattle.console.specs.declared.command.Name.TheVariants.{S, T}
use Rattle.console.specs.declared.command.Operands.{Operands}
use Rattle.console.specs.declared.command.RingName.{RingName}
use Rattle.console.specs.declared.command.RingName.TheVariants.{Mod17, Quad}
use Rattle.console.specs.declared.command.StateCommand.{StateCommand}
use Rattle.console.specs.declared.command.StateCommand.TheVariants.{Open, Read, Take, Write, WriteInto, Fields, Amplitude, Gate, Project}
use Rattle.console.specs.declared.problem.Problem.{Problem}
use Rattle.console.specs.declared.problem.Problem.TheVariants.{UnknownCommand}
use Rattle.console.specs.declared.words.Words.{Words}

-- the words that have not been read yet
abbrev pub left : Words → List (List ℕ)
left words = words_in words.rest.now

abbrev pub state_word : Name → List ℕ
state_word S = codes "s"
state_word T = codes "t"

abbrev pub ring_word : RingName → List ℕ
ring_word Mod17 = codes "mod17"
ring_word Quad = codes "quad"

-- a command on the state with a name: its first word, the name, and what stands behind them
abbrev pub on_state : List ℕ → Name → List Part → List Part
on_state verb name parts = itself verb ∷ itself (state_word name) ∷ parts

abbrev pub state_parts : Name → StateCommand → Operands → List Part
state_parts name (Open n) o = on_state (codes "open") name (number n ∷ [])
state_parts name Read o = on_state (codes "read") name (bytes (vec_items o.first) ∷ [])
state_parts name (Take i) o = on_state (codes "take") name (bytes (vec_items o.first) ∷ number i ∷ [])
state_parts name Write o = on_state (codes "write") name []
state_parts name WriteInto o = on_state (codes "write") name (bytes (vec_items o.buffer) ∷ [])
state_parts name Fields o = on_state (codes "fields") name []
state_parts name (Amplitude y) o = on_state (codes "amplitude") name (number y ∷ [])
state_parts name (Gate kind j l) o = on_state (codes "gate") name (number kind ∷ number j ∷ number l ∷ [])
state_parts name Project o = on_state (codes "project") name (text (vec_items o.first) ∷ [])

-- the parts of a command with operands o, in the order of the line
abbrev pub parts_of : Command → Operands → List Part
parts_of Help o = itself (codes "help") ∷ []
parts_of (OnState name command) o = state_parts name command o
parts_of (Split place) o = itself (codes "split") ∷ number place ∷ calls (map call_of (vec_items o.calls)) ∷ []
parts_of Overlap o = itself (codes "overlap") ∷ []
parts_of Same o = itself (codes "same") ∷ []
parts_of Intersect o = itself (codes "intersect") ∷ []
parts_of Sum o = itself (codes "sum") ∷ []
parts_of Coordinates o = itself (codes "coordinates") ∷ []
parts_of (Total ring times) o = itself (codes "total") ∷ itself (ring_word ring) ∷ number times ∷ []
parts_of (Embed ring x) o = itself (codes "embed") ∷ itself (ring_word ring) ∷ scalar_parts (triple_of x)
parts_of Check o = itself (codes "check") ∷ bytes (vec_items o.first) ∷ []
parts_of (View i) o = itself (codes "view") ∷ bytes (vec_items o.first) ∷ number i ∷ []
parts_of Host o = itself (codes "host") ∷ bytes (vec_items o.first) ∷ bytes (vec_items o.second) ∷ bytes (vec_items o.buffer) ∷ []

-- the first word of a command
abbrev pub verb_of : List Part → List ℕ
verb_of (itself verb ∷ parts) = verb
verb_of parts = []

-- no command begins with this word
abbrev pub IsUnknown : List ℕ → Type 0
IsUnknown word = (command : Command) (o : Operands) → verb_of (parts_of command o) ≢ word

-- the problem with a line whose first word is no command's is just that
abbrev pub TellsUnknown : Problem → List (List ℕ) → Type 0
TellsUnknown problem [] = Unit {0}
TellsUnknown problem (word ∷ words) = IsUnknown word → problem ≡ UnknownCommand
