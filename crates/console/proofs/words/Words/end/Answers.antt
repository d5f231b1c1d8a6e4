use Rattle.std.proofs.Common.{sym, arith}
use Rattle.std.proofs.lemmas.Bool.{eqb-false, eqb-true}
use Rattle.console.proofs.Splitting.{no-words, some-word}
use Rattle.console.proofs.words.Words.end.Goals as goal

pub returns-then-is_empty : goal.returns-then-is_empty
returns-then-is_empty c = no-words _ (eqb-true _ _ (sym c.if-is_empty.ensures))

pub returns-else-is_empty : goal.returns-else-is_empty
returns-else-is_empty c =
    let some = eqb-false _ _ (sym c.if-is_empty.ensures) in
    some-word c.args.self.now.rest.now (omega arith) c.args.self.now.at_word
