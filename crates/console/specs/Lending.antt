-- What is left behind a state that was lent.
use Rattle.std.specs.Borrow.{Lends, MutBor, Fml}
use Rattle.stabilizer.specs.contracts.state.StabilizerState as state
use Rattle.stabilizer.specs.declared.state.StabilizerState.{StabilizerState}
use Rattle.console.specs.declared.command.Name.{Name}
use Rattle.console.specs.declared.session.Session.{Session}
use Rattle.console.specs.contracts.session.Session as session
use Rattle.console.specs.Sessions.{with_state}

-- the session ends with the last value behind r for the state with a name
abbrev pub LendsState : MutBor Session → Name → MutBor StabilizerState → Fml
LendsState x name r = Lends session.the_row state.the_row x r (with_state x.now name)
