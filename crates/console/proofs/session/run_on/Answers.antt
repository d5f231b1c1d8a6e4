use Rattle.std.proofs.Common.{rules, ◌≡◌, subst}
use Rattle.console.specs.Answers.{Denies, call_answer}
use Rattle.console.proofs.Kept.{call-denied, projection-kept}
use Rattle.console.proofs.session.run_on.Goals as goal

pub returns-in-Project-clause-kept : goal.returns-in-Project-clause-kept
returns-in-Project-clause-kept c = λ d.
    let e : c.from-in-Project.result ≡ call_answer c.project.result = search rules in
    projection-kept _ _ _ _ _ (call-denied _ (subst Denies e d)) c.project.ensures
