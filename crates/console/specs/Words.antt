-- The words of a line.
use Rattle.std.specs.Prelude.{◌≡◌, ◌≢◌, ℕ, List, [], ◌∷◌, length, filter, Ok, Err, Result, MatchResult, ◌⊎◌, nat_lt, ◌==◌, slice_index}
use Rattle.std.specs.Borrow.{Bor}
use Rattle.std.specs.List.{slice_split}
use Rattle.std.specs.Str.{IsUtf8}

-- the words of a line: what stands between blanks
unfoldable pub words_in : List ℕ → List (List ℕ)
words_in line = filter (λ w. nat_lt 0 (length w)) (slice_split (λ c. c == 32) line)

-- the first of ys stand in R to xs, one by one, and `rest` stands behind them
abbrev pub InTurn : {A B : Type 0} → (A → B → Type 0) → List A → List B → List B → Type 0
InTurn R [] ys rest = ys ≡ rest
InTurn R (x ∷ xs) [] rest = ⊥
InTurn R (x ∷ xs) (y ∷ ys) rest = R x y × InTurn R xs ys rest

-- the first word has P, and `rest` stands behind it
pub record Next (P : Bor (List ℕ) → Type 0) (words rest : List (List ℕ)) : Type 0 where
  pub word : Bor (List ℕ)
  pub first : words ≡ word.now ∷ rest
  pub holds : P word

-- the word has no plus sign in front, and is read as n
pub record Reads {N E : Type 0} (gives : List ℕ → Result N E → Type 0) (n : N) (w : List ℕ) : Type 0 where
  pub plain : slice_index w 0 ≢ 43
  pub read : gives w (Ok n)

-- no word is left, or the first has P
abbrev pub Lacks : (Bor (List ℕ) → Type 0) → List (List ℕ) → Type 0
Lacks P words = (words ≡ []) ⊎ ((w : Bor (List ℕ)) × (rest : List (List ℕ)) × (words ≡ w.now ∷ rest) × P w)

-- the word has a plus sign in front, is no text, or is refused
abbrev pub Unreadable : {N E : Type 0} → (List ℕ → Result N E → Type 0) → List ℕ → Type 0
Unreadable {N} {E} gives w = (slice_index w 0 ≡ 43) ⊎ ((IsUtf8 w → ⊥) ⊎ ((e : E) × gives w (Err e)))

-- r is the value whose name the word is, and an error where it is no value's
abbrev pub NamedBy : {N E : Type 0} → (N → List ℕ) → List ℕ → Result N E → Type 0
NamedBy {N} word_of w r = MatchResult r (λ n. w ≡ word_of n) (λ _. (n : N) → w ≢ word_of n)
