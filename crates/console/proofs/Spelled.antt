-- Words that stand for values, one by one.
use Rattle.std.proofs.Common.{List, [], ◌∷◌, ◌++◌, sym, subst}
use Rattle.console.specs.Words.{InTurn}

-- what stands for some values, and beside it what stands for some more
pub beside : {A B : Type 0} (R : A → B → Type 0) (xs ys : List A) (us vs ws : List B)
    → InTurn R xs us [] → InTurn R ys vs ws → InTurn R (xs ++ ys) (us ++ vs) ws
beside R [] ys us vs ws e k = subst (λ zs. InTurn R ys (zs ++ vs) ws) (sym e) k
beside R (x ∷ xs) ys [] vs ws h k = absurd h
beside R (x ∷ xs) ys (u ∷ us) vs ws h k = (h.0, beside R xs ys us vs ws h.1 k)
