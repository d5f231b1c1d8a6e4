-- A number behind zeros, in any base: what `{:02x}`, `{:016x}` and `{:0nb}` write of one.
use Rattle.std.proofs.Common.{◌≡◌, ℕ, zero, suc, ◌+◌, ◌-◌, ◌/◌, ◌%◌, ◌^◌, ◌<◌, ◌≤◌, Bool, true, false, List, [], ◌∷◌, ◌++◌, length, replicate, refl, sym, ap, ap₂, ◌∙◌, arith, append_assoc, append-nil, add-zero}
use Rattle.std.specs.Bool.{◌==◌, if◌then◌else◌}
use Rattle.std.proofs.Math.Nat.{zero-div, zero-mod}
use Rattle.std.specs.Fmt.{digit_glyph, digits, digits_onto, padded_integral, format_spec, char_count}
use Rattle.std.proofs.lemmas.Bool.Decides.{nat_tests}

replicate-more : (k : ℕ) (x : ℕ) (xs : List ℕ) → replicate k x ++ x ∷ xs ≡ x ∷ (replicate k x ++ xs)
replicate-more zero x xs = refl
replicate-more (suc k) x xs = ap (λ (l : List ℕ). x ∷ l) (replicate-more k x xs)

-- a text behind zeros, m bytes in all
front : ℕ → List ℕ → List ℕ
front m text = replicate (m - length text) 48 ++ text

padded : (k : ℕ) (text : List ℕ) → padded_integral (format_spec 32 0 4 k (2 ^ 64 - 1)) false [] text ≡ front k text
unfolding padded_integral char_count front
padded k text =
    let count : k - length text - 0 - 0 ≡ k - length text = omega arith in
    ap (λ (m : ℕ). replicate m 48 ++ (text ++ [])) count ∙ ap (λ (l : List ℕ). replicate (k - length text) 48 ++ l) (append-nil text)

module _ (base : ℕ) where
  -- the last k digits of n
  abbrev pub tail : ℕ → ℕ → List ℕ
  tail zero n = []
  tail (suc k) n = tail k (n / base) ++ digit_glyph false (n % base) ∷ []

  -- n has at most k digits
  abbrev pub Few : ℕ → ℕ → Type 0
  Few zero n = n ≡ 0
  Few (suc k) n = Few k (n / base)

  tail-zero : (k : ℕ) → tail k 0 ≡ replicate k 48
  tail-zero zero = refl
  tail-zero (suc k) =
      ap₂ (λ (l : List ℕ) (d : ℕ). l ++ digit_glyph false d ∷ []) (ap (tail k) (zero-div base) ∙ tail-zero k) (zero-mod base)
      ∙ (replicate-more k 48 [] ∙ ap (λ (l : List ℕ). 48 ∷ l) (append-nil (replicate k 48)))

  positive : (k m : ℕ) → Few k m → (m ≡ 0 → ⊥) → 0 < k
  positive zero m few some = absurd (some few)
  positive (suc k) m few some = omega arith

  -- the digits of n, behind zeros, are its last k digits
  filled : (k j n : ℕ) (acc : List ℕ) → k ≤ j → 0 < k → Few k n → front (k + length acc) (digits_onto j base false n acc) ≡ tail k n ++ acc
  unfolding front
  filled zero j n acc le low few = absurd (omega arith)
  filled (suc k) zero n acc le low few = absurd (omega arith)
  filled (suc k) (suc j) n acc le low few =
      let d = digit_glyph false (n % base) in
      let step : (t : Bool) → (n / base == 0) ≡ t
      → front (suc k + length acc) (if t then d ∷ acc else digits_onto j base false (n / base) (d ∷ acc)) ≡ (tail k (n / base) ++ d ∷ []) ++ acc =
      λ t. elim t as (λ t. (n / base == 0) ≡ t
      → front (suc k + length acc) (if t then d ∷ acc else digits_onto j base false (n / base) (d ∷ acc)) ≡ (tail k (n / base) ++ d ∷ []) ++ acc) [
        | true ↦ λ e.
            let none : n / base ≡ 0 = grind (arith, nat_tests) in
            let count : suc k + length acc - suc (length acc) ≡ k = omega arith in
            ap (λ (m : ℕ). replicate m 48 ++ d ∷ acc) count
            ∙ (ap (λ (l : List ℕ). l ++ d ∷ acc) (sym (tail-zero k))
            ∙ (ap (λ (m : ℕ). tail k m ++ d ∷ acc) (sym none) ∙ sym (append_assoc (tail k (n / base)) (d ∷ []) acc)))
        | false ↦ λ e.
            let some : n / base ≡ 0 → ⊥ = grind (arith, nat_tests) in
            let count : suc k + length acc ≡ k + suc (length acc) = omega arith in
            ap (λ (m : ℕ). front m (digits_onto j base false (n / base) (d ∷ acc))) count
            ∙ (filled k j (n / base) (d ∷ acc) (omega arith) (positive k (n / base) few some) few
            ∙ sym (append_assoc (tail k (n / base)) (d ∷ []) acc))
      ] in
      step (n / base == 0) refl

  onto : (n : ℕ) → digits base false n ≡ digits_onto 64 base false n []
  unfolding digits
  onto n = refl

  -- a number with at most k digits, padded to k places with zeros
  pub written : (k n : ℕ) → k ≤ 64 → 0 < k → Few k n
      → padded_integral (format_spec 32 0 4 k (2 ^ 64 - 1)) false [] (digits base false n) ≡ tail k n
  written k n le low few =
      padded k (digits base false n)
      ∙ (ap (front k) (onto n)
      ∙ (ap (λ (m : ℕ). front m (digits_onto 64 base false n [])) (sym (add-zero k))
      ∙ (filled k 64 n [] le low few ∙ append-nil (tail k n))))
