-- What is left to check of a state, part by part.
use Rattle.std.proofs.Common.{◌≡◌, ℕ, ◌+◌, ◌-◌, ◌*◌, ◌/◌, ◌≤◌, List, [], ◌∷◌, ◌++◌, None, sym, refl, ◌∙◌, ap₂, arith}
use Rattle.std.proofs.lemmas.Nat.{mul-le}
use Rattle.archive.specs.Layout.{header, rows, shift, linear, coupling, fill, copies, tail, layout, size_at, rank_at, pairs, bits_before_fill}
use Rattle.archive.specs.Layout.{padded, parts_at, first_fault, state_fault, end_of_state}
use Rattle.archive.proofs.Steps.{passes, after-rows, after-copies}

-- a state takes few bits
pub few : (k n : ℕ) → k ≤ n → n ≤ 48 → k * n ≤ 2304
few k n h g = mul-le k n 48 48 (omega arith) g

pub few-pairs : (k s : ℕ) → k ≤ 48 → s ≡ k - 1 → k * s / 2 ≤ 1128
few-pairs k s h e = let m = mul-le k s 48 47 h (omega arith) in omega arith

module _ (b : List ℕ) (p n k : ℕ) (en : n ≡ size_at b p) (ek : k ≡ rank_at b p) where
  whole : state_fault b p ≡ first_fault b p (layout b p n k)
  unfolding state_fault parts_at
  whole = ap₂ (λ m j. first_fault b p (layout b p m j)) (sym en) (sym ek)

  pub end_is : end_of_state b p ≡ padded (p + bits_before_fill n k)
  unfolding end_of_state
  end_is = ap₂ (λ m j. padded (p + bits_before_fill m j)) (sym en) (sym ek)

  module _ (h : first_fault b p (header n) ≡ None) where
    after-header : state_fault b p ≡ first_fault b (p + 28) (rows b p n 0 k ++ tail b p n k)
    after-header = whole ∙ passes b p (header n) _ h (p + 28) (omega arith)

    module _ (r : first_fault b (p + 28) (rows b p n 0 k) ≡ None) where
      after-all-rows : state_fault b p ≡ first_fault b (p + 28 + k * n) (tail b p n k)
      after-all-rows = after-header ∙ passes b (p + 28) (rows b p n 0 k) _ r _ (after-rows b p n 0 k (p + 28))

      module _ (s : first_fault b (p + 28 + k * n) (shift b p n k ∷ []) ≡ None) where
        abbrev q : ℕ
        q = p + 28 + k * n + n

        after-shift : state_fault b p
            ≡ first_fault b q (copies k linear ++ (copies (pairs k) coupling ++ fill (p + bits_before_fill n k) ∷ []))
        after-shift = after-all-rows ∙ passes b (p + 28 + k * n) (shift b p n k ∷ []) _ s q refl

        module _ (l : first_fault b q (copies k linear) ≡ None) where
          after-linear : state_fault b p ≡ first_fault b (q + k * 2) (copies (pairs k) coupling ++ fill (p + bits_before_fill n k) ∷ [])
          after-linear = after-shift ∙ passes b q (copies k linear) _ l (q + k * 2) (after-copies linear k q)

          pub after-coupling : first_fault b (q + k * 2) (copies (pairs k) coupling) ≡ None
              → state_fault b p ≡ first_fault b (p + bits_before_fill n k) (fill (p + bits_before_fill n k) ∷ [])
          after-coupling c =
              after-linear ∙ passes b (q + k * 2) (copies (pairs k) coupling) _ c (p + bits_before_fill n k)
              (after-copies coupling (pairs k) (q + k * 2) ∙ omega arith)
