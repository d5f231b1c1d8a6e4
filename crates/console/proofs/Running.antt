-- From what a call on a state did to what a command did to the session.
use Rattle.std.proofs.Common.{◌≡◌, ℕ, ◌<◌, ◌≤◌, List, [], length, get_or, Ok, Err, Result, IfOk, OnOk, inr, refl, sym, ap, ◌∙◌, subst}
use Rattle.host.specs.Answers.{entry_number, Answered}
use Rattle.stabilizer.specs.declared.state.StabilizerState.{StabilizerState}
use Rattle.console.specs.Commands.{Enters}
use Rattle.console.specs.Lines.{Does}
use Rattle.console.specs.Sessions.{state_of, with_state, Looks, Ran, RanOn}
use Rattle.console.specs.Parts.{Spells}
use Rattle.console.specs.Spelling.{parts_of}
use Rattle.console.specs.Words.{words_in}
use Rattle.console.specs.declared.answer.Answer.{Answer}
use Rattle.console.specs.declared.answer.Answer.TheVariants.{Number}
use Rattle.console.specs.declared.command.Command.{Command}
use Rattle.console.specs.declared.command.Command.TheVariants.{OnState}
use Rattle.console.specs.declared.command.Name.{Name}
use Rattle.console.specs.declared.command.Operands.{Operands}
use Rattle.console.specs.declared.command.StateCommand.{StateCommand}
use Rattle.console.specs.declared.session.Session.{Session}

-- the state that a command left was put back under its name
pub put-back : {E : Type 0} (r : Result Answer E) (name : Name) (command : StateCommand) (o o' : Operands) (x : Session)
    (s s' : StabilizerState) → s ≡ state_of x name → IfOk r (λ a. RanOn command o s a o' s')
    → IfOk r (λ a. Ran (OnState name command) o x a o' (with_state x name s'))
put-back (Ok a) name command o o' x s s' e h = record { state = s'; by = subst (λ z. RanOn command o z a o' s') e h; whole = refl }
put-back (Err e) name command o o' x s s' same h = h

-- what the entry answered, by its number
pub enters : (t s b b' : List ℕ) (n : ℕ) → n ≡ entry_number t s (length b) → (n ≡ 0 → Answered t s b')
    → (0 < n → b' ≡ b) → ((k : ℕ) → 4 ≤ k → get_or b' k 0 ≡ get_or b k 0) → Enters t s (Number n) b b'
enters t s b b' n e granted refused rest = record {
  number = ap Number e;
  granted = λ z. granted (e ∙ z);
  refused = λ h. refused (subst (λ m. 0 < m) (sym e) h);
  rest = rest;
}

-- a command that was read is what the line asked for
pub does : {E : Type 0} (words : List ℕ) (r : Result Answer E) (command : Command) (o o' : Operands) (x x' : Session)
    → Spells (parts_of command o) (words_in words) [] → IfOk r (λ a. Ran command o x a o' x') → (Looks command → x' ≡ x)
    → IfOk r (λ a. Does words x a o' x')
does words (Ok a) command o o' x x' spelled ran looks =
    inr (record { command = command; operands = o; spelled = spelled; ran = ran; looks = looks })
does words (Err e) command o o' x x' spelled ran looks = ran

-- what holds on success, by what it leads to
pub on-ok : {A E P Q : Type 0} (r : Result A E) → OnOk r P → (P → Q) → OnOk r Q
on-ok (Ok a) p f = f p
on-ok (Err e) p f = p
