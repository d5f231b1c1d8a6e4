-- The computed first fault is the first, and there is no other.
use Rattle.std.proofs.Common.{◌≡◌, ℕ, List, [], ◌∷◌, Some, None, Option, sym, refl, ap, arith}
use Rattle.archive.specs.First.{Faultless, First, first}

pub none-some : {F : Type 0} (f : F) → None ≡ Some f → ⊥
none-some f e = let z : ◌≡◌ {A = ℕ} 0 1 = cc in omega arith

pub first-none : {F : Type 0} (xs : List (Option F)) → first xs ≡ None → Faultless xs
unfolding first
first-none [] e = tt
first-none (None ∷ xs) e = (refl, first-none xs e)
first-none (Some f ∷ xs) e = absurd (none-some f (sym e))

pub first_some : {F : Type 0} (xs : List (Option F)) (f : F) → first xs ≡ Some f → First xs f
unfolding first
first_some [] f e = absurd (none-some f e)
first_some (None ∷ xs) f e =
    let r = first_some xs f e in
    record { earlier = None ∷ r.earlier; later = r.later; among = ap (λ t. None ∷ t) r.among; fine = (refl, r.fine) }
first_some (Some g ∷ xs) f e = record { earlier = []; later = xs; among = ap (λ t. t ∷ xs) e; fine = tt }
