-- The text of an answer.
use Rattle.std.specs.Prelude.{ℕ, List, ◌++◌, codes, decimal, min}
use Rattle.std.specs.Option.{option_map_or}
use Rattle.archive.specs.Faults.{fault_text}
use Rattle.cyclotomic.specs.Scalars.{triple_of}
use Rattle.cyclotomic.specs.Texts.{refusal_text, residue_text, triple_text, words_text}
use Rattle.listing.specs.Digits.{hex_text}
use Rattle.listing.specs.Fields.{dimension_of, fields_text, space_text}
use Rattle.listing.specs.Texts.{mark_text}
use Rattle.quadratic.specs.declared.intersection.Intersection.{Intersection}
use Rattle.quadratic.specs.Coordinates.{coordinates_text}
use Rattle.console.specs.declared.answer.Answer.{Answer}
use Rattle.console.specs.declared.answer.Answer.TheVariants.{Help, Done, Refused, Fault, Unreadable, Bytes, Length, Number, Fields}
use Rattle.console.specs.declared.answer.Answer.TheVariants.{Scalar, Common, Mark, Aside, Coordinates, Total, Value, Count}
use Rattle.console.specs.declared.answer.RingValue.{RingValue}
use Rattle.console.specs.declared.answer.RingValue.TheVariants.{Mod17, Quad}
use Rattle.console.specs.declared.problem.Problem.{Problem}
use Rattle.console.specs.declared.problem.Problem.TheVariants.{UnknownCommand, MissingWord, ExtraWord, NoState, NoRing, NoNumber}
use Rattle.console.specs.declared.problem.Problem.TheVariants.{NoPairs, NoScalar, NoCall, NoMemory}

-- why a line cannot be read
abbrev pub problem_text : Problem → List ℕ
problem_text UnknownCommand = codes "no such command; help lists them"
problem_text MissingWord = codes "a word is missing"
problem_text ExtraWord = codes "there is a word too many"
problem_text NoState = codes "a state is s or t"
problem_text NoRing = codes "a ring is mod17 or quad"
problem_text NoNumber = codes "a number in base ten of at most 64 bits is wanted"
problem_text NoPairs = codes "pairs of hexadecimal digits are wanted, or - for none"
problem_text NoScalar = codes "a scalar is 0 0 0, or 1 P M with M from 0 to 7"
problem_text NoCall = codes "a call is g:KIND:J:L or p:TEXT, with ; between calls, or - for none"
problem_text NoMemory = codes "there is no memory for these bytes"

-- two digits of a residue; four words of sixteen
abbrev pub value_text : RingValue → List ℕ
value_text (Mod17 v) = residue_text v.residue
value_text (Quad v) = words_text v.a0.0 v.a1.0 v.a2.0 v.a3.0

-- an intersection of states of n qubits: its dimension and its space
abbrev pub common_text : Intersection → ℕ → List ℕ
common_text x n =
    option_map_or (λ s. decimal (dimension_of s) ++ (codes " " ++ space_text (min n 48) s)) x.space (codes "empty")

-- a number, and bytes behind it
abbrev pub counted_text : ℕ → List ℕ → List ℕ
counted_text n b = decimal n ++ (codes " " ++ hex_text b)

abbrev pub total_text : ℕ → ℕ → RingValue → List ℕ
total_text n count v = decimal n ++ (codes " " ++ (decimal count ++ (codes " " ++ value_text v)))

-- the commands, one behind another
abbrev pub help_text : List ℕ
help_text =
    codes "open STATE N | read STATE HEX | take STATE HEX I | write STATE | write STATE HEX | fields STATE | amplitude "
    ++ (codes "STATE NUMBER | gate STATE KIND J L | project STATE TEXT | split PLACE CALLS | overlap | same | intersect | "
    ++ (codes "sum | coordinates | total RING N | embed RING E P M | check HEX | view HEX I | host HEX HEX HEX | help; "
    ++ (codes "STATE: s or t; RING: mod17 or quad; HEX: pairs of digits, - for none; TEXT: a sign and a letter for each "
    ++ (codes "qubit, or x:HEX; CALLS: g:KIND:J:L and p:TEXT with ; between, - for none"))))

-- an answer, with the bytes that stand in the buffer
abbrev pub reply_text : Answer → List ℕ → List ℕ
reply_text Help b = help_text
reply_text Done b = codes "ok"
reply_text (Refused e) b = refusal_text e
reply_text (Fault report) b = fault_text report
reply_text (Unreadable p) b = codes "? " ++ problem_text p
reply_text Bytes b = hex_text b
reply_text (Length n) b = counted_text n b
reply_text (Number n) b = counted_text n b
reply_text (Fields s) b = fields_text s
reply_text (Scalar x) b = triple_text (triple_of x)
reply_text (Common c) b = common_text c.both c.qubits
reply_text (Mark equal) b = mark_text equal
reply_text Aside b = codes "aside"
reply_text (Coordinates q) b = coordinates_text q.a0 q.a1 q.a2 q.a3
reply_text (Total n count v) b = total_text n count v
reply_text (Value v) b = value_text v
reply_text (Count n) b = decimal n
