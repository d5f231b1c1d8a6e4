-- One bit of a byte put anew.
use Rattle.std.proofs.Common.{◌≡◌, ℕ, suc, ◌+◌, ◌-◌, ◌*◌, ◌/◌, ◌%◌, ◌^◌, ◌<◌, ◌≤◌, ◌≢◌, List, length, get_or, set, sym, refl, ap, ◌∙◌, inl, inr, ⊎_elim, pow-suc, arith, get_or-set_other, get_or-set_same, pow_pos, pow-add, shl_exact, shr-shr, shr_lt}
use lib.Arith.{digits_lt}
use lib.Pow.{high, low, field, mod-mod-pow}
use Rattle.std.proofs.lemmas.Nat.{one_shl, mod_below}
use Rattle.std.proofs.lemmas.Bool.{cases_lt, cases_eq}
use Rattle.archive.specs.Bits.{bit_at}

-- the part of the byte x from its bit s up, with the bit n for it
abbrev top : ℕ → ℕ → ℕ → ℕ
top x s n = x / 2 ^ s / 2 * 2 + n

-- as the code makes it
abbrev pub renewed : ℕ → ℕ → ℕ → ℕ
renewed x s n = (top x s n * 2 ^ s) % 256 + x % ((1 * 2 ^ s) % 256)

module _ (x s n : ℕ) (hs : s < 8) (hx : x < 256) (hn : n < 2) where
  top_lt : top x s n < 2 ^ (8 - s)
  top_lt =
      let e : 8 - s + s ≡ 8 = omega arith in
      let g : x < 2 ^ (8 - s + s) = rw e hx in
      let h : x / 2 ^ s < 2 ^ (8 - s) = shr_lt (8 - s) s g in
      let f : 8 - s ≡ suc (7 - s) = omega arith in
      let d = ap (λ t. 2 ^ t) f ∙ pow-suc 2 (7 - s) in omega arith

  renewed-is : renewed x s n ≡ top x s n * 2 ^ s + x % 2 ^ s
  renewed-is =
      let j : 8 - s + s ≤ 8 = omega arith in
      rw (one_shl s 8 hs, shl_exact (8 - s) s 8 top_lt j) refl

  pub renewed-fits : renewed x s n < 256
  renewed-fits =
      let e : 8 - s + s ≡ 8 = omega arith in
      let d : 2 ^ (8 - s) * 2 ^ s ≡ 256 = sym (pow-add 2 (8 - s) s) ∙ ap (λ t. 2 ^ t) e in
      let l = digits_lt top_lt (mod_below x (2 ^ s) (pow_pos s)) in
      omega (arith, renewed-is)

  renewed-high : renewed x s n / 2 ^ s ≡ top x s n
  renewed-high = rw renewed-is (high (top x s n) s (mod_below x (2 ^ s) (pow_pos s)))

  renewed-low : renewed x s n % 2 ^ s ≡ x % 2 ^ s
  renewed-low = rw renewed-is (low (top x s n) s (mod_below x (2 ^ s) (pow_pos s)))

  renewed-there : renewed x s n / 2 ^ s % 2 ≡ n
  renewed-there = rw renewed-high (omega arith)

  above : (t : ℕ) → s < t → renewed x s n / 2 ^ t ≡ x / 2 ^ t
  above t l =
      let e : t ≡ s + 1 + (t - suc s) = omega arith in
      let cut : (y : ℕ) → y / 2 ^ t ≡ y / 2 ^ s / 2 / 2 ^ (t - suc s) = λ y. ap (λ u. y / 2 ^ u) e ∙ sym (shr-shr y (s + 1) (t - suc s))
      ∙ ap (λ z. z / 2 ^ (t - suc s)) (sym (shr-shr y s 1)) in
      let half : renewed x s n / 2 ^ s / 2 ≡ x / 2 ^ s / 2 = rw renewed-high (omega arith) in
      cut (renewed x s n) ∙ ap (λ z. z / 2 ^ (t - suc s)) half ∙ sym (cut x)

  below : (t : ℕ) → t < s → renewed x s n / 2 ^ t % 2 ≡ x / 2 ^ t % 2
  below t l =
      let e : s ≡ (s - suc t + 1) + t = omega arith in
      let cut : (y : ℕ) → y / 2 ^ t % 2 ≡ y % 2 ^ s / 2 ^ t % 2 = λ y. sym
      (ap (λ u. y % 2 ^ u / 2 ^ t % 2) e ∙ ap (λ z. z % 2) (field y (s - suc t + 1) t) ∙ mod-mod-pow (y / 2 ^ t) (s - suc t) 1) in
      cut (renewed x s n) ∙ ap (λ z. z / 2 ^ t % 2) renewed-low ∙ sym (cut x)

  renewed-other : (t : ℕ) → t ≢ s → renewed x s n / 2 ^ t % 2 ≡ x / 2 ^ t % 2
  renewed-other t ne = ⊎_elim (below t) (λ l. ap (λ z. z % 2) (above t (omega arith))) (cases_lt t s)

module _ (b : List ℕ) (i n : ℕ) (hi : i < 8 * length b) (hx : get_or b (i / 8) 0 < 256) (hn : n < 2) where
  abbrev next : List ℕ
  next = set b (i / 8) (renewed (get_or b (i / 8) 0) (7 - i % 8) n)

  pub put-there : bit_at next i ≡ n
  unfolding bit_at
  put-there =
      let lt : i / 8 < length b = omega arith in
      rw get_or-set_same (renewed-there (get_or b (i / 8) 0) (7 - i % 8) n (omega arith) hx hn)

  pub put-others : (q : ℕ) → (q ≡ i → ⊥) → bit_at next q ≡ bit_at b q
  unfolding bit_at
  put-others q ne =
      elim (cases_eq (q / 8) (i / 8)) [
        | inl near ↦
            let lt : i / 8 < length b = omega arith in
            let t = 7 - q % 8 in
            let e = renewed-other (get_or b (i / 8) 0) (7 - i % 8) n (omega arith) hx hn t (omega arith) in
            ap (λ k. get_or next k 0 / 2 ^ t % 2) near ∙ ap (λ x. x / 2 ^ t % 2) (get_or-set_same b (i / 8) _ 0 lt) ∙ e
            ∙ ap (λ k. get_or b k 0 / 2 ^ t % 2) (sym near)
        | inr far ↦ rw get_or-set_other refl
      ]
