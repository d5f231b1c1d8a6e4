-- What a line of the input is answered, and what it does to the session.
use Rattle.std.specs.Prelude.{◌≡◌, ℕ, ◌⊎◌, List, [], ◌∷◌, Option, vec_items}
use Rattle.std.specs.Io.BufRead.{strip_last}
use Rattle.std.specs.Io.KnownBytes.{Appends}
use Rattle.listing.specs.Written.{ended}
use Rattle.console.specs.Answers.{Denies}
use Rattle.console.specs.Replies.{reply_text}
use Rattle.console.specs.Sessions.{Looks, Ran}
use Rattle.console.specs.Parts.{Spells}
use Rattle.console.specs.Spelling.{parts_of, TellsUnknown}
use Rattle.console.specs.Words.{words_in}
use Rattle.console.specs.declared.answer.Answer.{Answer}
use Rattle.console.specs.declared.answer.Answer.TheVariants.{Unreadable}
use Rattle.console.specs.declared.command.Command.{Command}
use Rattle.console.specs.declared.command.Operands.{Operands}
use Rattle.console.specs.declared.problem.Problem.{Problem}
use Rattle.console.specs.declared.session.Session.{Session}

-- a line without its line break: a line feed, a carriage return, or both
abbrev pub words_of : List ℕ → List ℕ
words_of line = strip_last 13 (strip_last 10 line)

-- an empty line, or a comment
abbrev pub IsSilent : List ℕ → Type 0
IsSilent [] = Unit {0}
IsSilent (c ∷ words) = c ≡ 35

-- the line cannot be read
pub record Unread (line : List ℕ) (x : Session) (a : Answer) (x' : Session) : Type 0 where
  pub problem : Problem
  pub unknown : TellsUnknown problem (words_in line)
  pub answer : a ≡ Unreadable problem
  pub kept : x' ≡ x

-- the words spell a command with operands, which was done
pub record Obeyed (line : List ℕ) (x : Session) (a : Answer) (o' : Operands) (x' : Session) : Type 0 where
  pub command : Command
  pub operands : Operands
  pub spelled : Spells (parts_of command operands) (words_in line) []
  pub ran : Ran command operands x a o' x'
  pub looks : Looks command → x' ≡ x

-- the one or the other
abbrev pub Does : List ℕ → Session → Answer → Operands → Session → Type 0
Does words x a o' x' = Unread words x a x' ⊎ Obeyed words x a o' x'

-- a line is answered: the text of the answer and a line feed are written, and the session is left as the answer says
pub record Replied (words : List ℕ) (x x' : Session) (old new : Option (List ℕ)) : Type 0 where
  pub answer : Answer
  pub operands : Operands
  pub done : Does words x answer operands x'
  pub kept : Denies answer → x' ≡ x
  pub written : Appends old new (ended (reply_text answer (vec_items operands.buffer)))
