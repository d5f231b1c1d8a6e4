use Rattle.std.proofs.Common.{sym, arith}
use Rattle.std.proofs.lemmas.Bool.{eqb-false, eqb-true}
use Rattle.console.proofs.Splitting.{first-word, no-words}
use Rattle.console.proofs.words.Words.word.Goals as goal

pub returns-then-is_empty-clause-none : goal.returns-then-is_empty-clause-none
returns-then-is_empty-clause-none c = no-words _ (eqb-true _ _ (sym c.if-is_empty.ensures))

pub returns-clause-first : goal.returns-clause-first
returns-clause-first c =
    let some = eqb-false _ _ (sym c.if-is_empty.ensures) in
    rw (c.split_at.ensures.front, c.trimmed-self.ensures.words, c.split_at.ensures.back)
    (first-word c.args.self.now.rest.now c.until.result c.until.ensures.place (omega arith) c.args.self.now.at_word)
