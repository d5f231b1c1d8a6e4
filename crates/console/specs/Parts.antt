-- What one word of a line stands for.
use Rattle.std.specs.Prelude.{◌≡◌, ◌≢◌, ℕ, ◌^◌, ◌<◌, ◌⊎◌, List, [], ◌∷◌, ◌++◌, drop, codes, ℤ, MatchBool, FitsSigned, ◌==◌, slice_index}
use Rattle.std.specs.Int.{w64}
use Rattle.std.specs.List.{slice_split, starts_with}
use Rattle.std.specs.Str.Parse.{IsNumeral, digits_value, signed_digits_value, without_leading_sign}
use Rattle.cyclotomic.specs.Scalars.{Triple}
use Rattle.listing.specs.Digits.{Paired, digits_of, Decoded}
use Rattle.stabilizer.specs.Calls.{Call, gate, project}
use Rattle.console.specs.Words.{InTurn}

-- a number of at most 64 bits in base ten
abbrev pub IsNumber : ℕ → List ℕ → Type 0
IsNumber n w = IsNumeral 10 w × (digits_value 10 w ≡ n) × (n < 2 ^ 64)

-- the same with a sign, which is written only as `-`
abbrev pub IsSigned : ℤ → List ℕ → Type 0
IsSigned z w = (slice_index w 0 ≢ 43) × IsNumeral 10 (without_leading_sign w) × (signed_digits_value 10 w ≡ z) × FitsSigned w64 z

-- bytes as pairs of hexadecimal digits, `-` for none
abbrev pub IsHex : List ℕ → List ℕ → Type 0
IsHex bytes w = Paired w × Decoded (digits_of w) bytes

-- a Pauli text: pairs of digits after `x:`, else the word itself
abbrev pub IsText : List ℕ → List ℕ → Type 0
IsText text w = MatchBool (starts_with (λ a b. a == b) w (codes "x:")) (IsHex text (drop 2 w)) (text ≡ w)

-- `g:KIND:J:L`
pub record IsGate (kind j l : ℕ) (w : List ℕ) : Type 0 where
  pub kind_word : List ℕ
  pub first : List ℕ
  pub second : List ℕ
  pub whole : w ≡ codes "g:" ++ (kind_word ++ (codes ":" ++ (first ++ (codes ":" ++ second))))
  pub kind_is : IsNumber kind kind_word
  pub first_is : IsNumber j first
  pub second_is : IsNumber l second

-- `p:TEXT`
pub record IsProjection (text w : List ℕ) : Type 0 where
  pub text_word : List ℕ
  pub whole : w ≡ codes "p:" ++ text_word
  pub text_is : IsText text text_word

-- a call
abbrev pub IsCall : Call → List ℕ → Type 0
IsCall (gate kind j l) w = IsGate kind j l w
IsCall (project text) w = IsProjection text w

-- calls with `;` between them, `-` for none
abbrev pub AreCalls : List Call → List ℕ → Type 0
AreCalls calls w = ((calls ≡ []) × (w ≡ codes "-")) ⊎ InTurn IsCall calls (slice_split (λ c. c == 59) w) []

-- what one word stands for: itself, a number, bytes, a Pauli text, or calls
pub data Part : Type 0 where
  itself : List ℕ → Part
  number : ℕ → Part
  signed : ℤ → Part
  bytes : List ℕ → Part
  text : List ℕ → Part
  calls : List Call → Part

-- the word stands for it
abbrev pub StandsFor : Part → List ℕ → Type 0
StandsFor (itself v) w = w ≡ v
StandsFor (number n) w = IsNumber n w
StandsFor (signed z) w = IsSigned z w
StandsFor (bytes b) w = IsHex b w
StandsFor (text b) w = IsText b w
StandsFor (calls cs) w = AreCalls cs w

-- the first words stand for the parts, one by one, and `rest` stands behind them
abbrev pub Spells : List Part → List (List ℕ) → List (List ℕ) → Type 0
Spells parts words rest = InTurn StandsFor parts words rest

-- a scalar is written in three words
abbrev pub scalar_parts : Triple → List Part
scalar_parts x = number x.0 ∷ signed x.1 ∷ number x.2 ∷ []
