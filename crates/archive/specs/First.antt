-- The first fault of a list of verdicts.
use Rattle.std.specs.Prelude.{◌≡◌, List, [], ◌∷◌, ◌++◌, Some, None, Option, Result, MatchResult}

-- no verdict names a fault
abbrev pub Faultless : {F : Type 0} → List (Option F) → Type 0
Faultless [] = Unit {0}
Faultless (x ∷ xs) = (x ≡ None) × Faultless xs

-- f is the fault of the first verdict that names one
pub record First {F : Type 0} (xs : List (Option F)) (f : F) : Type 0 where
  pub earlier : List (Option F)
  pub later : List (Option F)
  pub among : xs ≡ earlier ++ Some f ∷ later
  pub fine : Faultless earlier

abbrev pub or_else : {F : Type 0} → Option F → Option F → Option F
or_else None later = later
or_else (Some f) later = Some f

-- the same, computed
unfoldable pub first : {F : Type 0} → List (Option F) → Option F
first [] = None
first (x ∷ xs) = or_else x (first xs)

-- a result is granted where nothing is wrong, and else it is an error and names what is wrong
abbrev pub Blames : {T F : Type 0} → Result T F → Option F → Type 0
Blames r wrong = MatchResult r (λ _. wrong ≡ None) (λ f. wrong ≡ Some f)
