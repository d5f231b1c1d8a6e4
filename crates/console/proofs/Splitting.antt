-- A line cut into words.
use Rattle.std.proofs.Common.{◌≡◌, ◌≢◌, ℕ, suc, ◌+◌, ◌-◌, ◌<◌, Bool, true, false, List, [], ◌∷◌, length, take, drop, filter, get_or, eqb, nat_lt, refl, sym, ap, ◌∙◌, ne_eqb, lt-ltb, arith}
use Rattle.std.specs.List.{slice_split, position_or_len}
use Rattle.std.proofs.lemmas.List.{take_all}
use Rattle.console.specs.Words.{words_in}

abbrev blank : ℕ → Bool
blank c = eqb c 32

-- the first part of a line ends before its first blank, and the other parts have the words behind it
record Cut (line : List ℕ) : Type 0 where
  parts : List (List ℕ)
  whole : slice_split blank line ≡ take (position_or_len blank line) line ∷ parts
  behind : filter (λ w. nat_lt 0 (length w)) parts ≡ words_in (drop (position_or_len blank line) line)

cut-more : (c : ℕ) (line : List ℕ) (b : Bool) → blank c ≡ b → Cut line → Cut (c ∷ line)
unfolding words_in
cut-more c line true e h = record { parts = slice_split blank line; whole = simp e; behind = simp e }
cut-more c line false e h =
    let n : 1 + position_or_len blank line ≡ suc (position_or_len blank line) = omega arith in
    record { parts = h.parts; whole = simp (e, n, h.whole); behind = simp (e, n) h.behind }

cut : (line : List ℕ) → Cut line
unfolding words_in
cut [] = record { parts = []; whole = refl; behind = refl }
cut (c ∷ line) = cut-more c line (blank c) refl (cut line)

-- a blank in front is no word
pub behind-blank : (line : List ℕ) (n : ℕ) → n ≡ length line → 0 < n → get_or line 0 0 ≡ 32
    → words_in (take (n - 1) (drop 1 line)) ≡ words_in line
unfolding words_in
behind-blank [] n e some at = absurd (omega arith)
behind-blank (c ∷ line) n e some at = let all : take (n - 1) line ≡ line = take_all (n - 1) line (omega arith) in rw all (simp at)

-- a line that begins with no blank has its bytes before the first blank as its first word
pub first-word : (line : List ℕ) (n : ℕ) → n ≡ position_or_len blank line → 0 < length line → get_or line 0 0 ≢ 32
    → words_in line ≡ take n line ∷ words_in (drop n line)
unfolding words_in
first-word [] n e some at = absurd (omega arith)
first-word (c ∷ line) n e some at =
    let h = cut line in
    let no : blank c ≡ false = ne_eqb c 32 at in
    let one : 1 + position_or_len blank line ≡ suc (position_or_len blank line) = omega arith in
    let some : nat_lt 0 (length (c ∷ take (position_or_len blank line) line)) ≡ true = lt-ltb _ _ (omega arith) in
    rw e (simp (some, no, one, h.whole, h.behind))

-- no word is left of an empty line
pub no-words : (line : List ℕ) → length line ≡ 0 → words_in line ≡ []
unfolding words_in
no-words [] e = refl
no-words (c ∷ line) e = absurd (omega arith)

-- a line that begins with no blank has a word
pub some-word : (line : List ℕ) → 0 < length line → get_or line 0 0 ≢ 32 → words_in line ≢ []
some-word line some at e = let n = ap length (sym (first-word line _ refl some at) ∙ e) in absurd (omega arith)
