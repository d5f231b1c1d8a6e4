use Rattle.quadratic.proofs.Added.{Counted}
use Rattle.quadratic.proofs.running.added.Given as goal

-- each call so far added a string
abbrev pub invariant-loop : goal.invariant-loop
invariant-loop g l = Counted g.R.Ring.ops l.x (g.R.Ring.value l.sum.value) l.sum.count l.counter
