-- Places in a mask, one position more of it, or its highest set bit first.
use Rattle.std.proofs.Common.{◌≡◌, ℕ, zero, suc, ◌+◌, ◌-◌, ◌*◌, ◌/◌, ◌%◌, ◌^◌, ◌<◌, ◌==◌, ◌≤◌, List, [], ◌∷◌, length, Option, cond, eqb, Some, None, sym, refl, ap, ap₂, ◌∙◌, zero-add, suc-add, pow-suc, sub-add_cancel, arith, lit<}
use native.Mathlib.Decide.{ℕ_discrete}
use Rattle.std.specs.Prelude.{MatchOption}
use Rattle.std.specs.Iterator.{Yields}
use Rattle.std.proofs.lemmas.Bool.{eq-eqb, ne_eqb, cond-true, cond-false}
use Rattle.quadratic.specs.Bits.{bit, Highest}
use Rattle.quadratic.specs.Numbering.{place, spread}
use Rattle.quadratic.proofs.Bitlaws.{bit_past, bit-low}
use Rattle.quadratic.proofs.Lowest.{drop-bit, undropped}

module _ (n mask : ℕ) where
  pub place_here : (a : ℕ) → bit mask n ≡ 1 → a ≡ 1 → place (suc n) mask a ≡ Some n
  unfolding place
  place_here a o e = cond-true (eqb (bit mask n) 1) _ _ (eq-eqb _ _ o) ∙ cond-true (eqb a 1) _ _ (eq-eqb a 1 e)

  pub place-passed : (a : ℕ) → bit mask n ≡ 1 → (a ≡ 1 → ⊥) → place (suc n) mask a ≡ place n mask (a - 1)
  unfolding place
  place-passed a o ne = cond-true (eqb (bit mask n) 1) _ _ (eq-eqb _ _ o) ∙ cond-false (eqb a 1) _ _ (ne_eqb a 1 ne)

  pub place-off : (a : ℕ) → (bit mask n ≡ 1 → ⊥) → place (suc n) mask a ≡ place n mask a
  unfolding place
  place-off a ne = cond-false (eqb (bit mask n) 1) _ _ (ne_eqb _ _ ne)

  pub spread-on : (c : ℕ) → bit mask n ≡ 1 → spread (suc n) mask c ≡ (c % 2) * 2 ^ n + spread n mask (c / 2)
  unfolding spread
  spread-on c o = cond-true (eqb (bit mask n) 1) _ _ (eq-eqb _ _ o)

  pub spread-off : (c : ℕ) → (bit mask n ≡ 1 → ⊥) → spread (suc n) mask c ≡ spread n mask c
  unfolding spread
  spread-off c ne = cond-false (eqb (bit mask n) 1) _ _ (ne_eqb _ _ ne)

-- masks that agree below n have the same places below n
place-agree : (n x y a : ℕ) → ((q : ℕ) → q < n → bit x q ≡ bit y q) → place n x a ≡ place n y a
unfolding place
place-agree zero x y a h = refl
place-agree (suc n) x y a h =
    let less = λ (b : ℕ). place-agree n x y b (λ q l. h q (omega arith)) in
    ap₂ (λ b r. cond (b == 1) (cond (a == 1) (Some n) r) (place n x a)) (h n (omega arith)) (less (a - 1))
    ∙ ap (λ r. cond (bit y n == 1) (cond (a == 1) (Some n) (place n y (a - 1))) r) (less a)

spread-agree : (n x y c : ℕ) → ((q : ℕ) → q < n → bit x q ≡ bit y q) → spread n x c ≡ spread n y c
unfolding spread
spread-agree zero x y c h = refl
spread-agree (suc n) x y c h =
    let less = λ (b : ℕ). spread-agree n x y b (λ q l. h q (omega arith)) in
    ap₂ (λ b r. cond (b == 1) ((c % 2) * 2 ^ n + r) (spread n x c)) (h n (omega arith)) (less (c / 2))
    ∙ ap (λ r. cond (bit y n == 1) ((c % 2) * 2 ^ n + spread n y (c / 2)) r) (less c)

-- above the highest bit of a mask there are no places
place-above : (d n x a : ℕ) → x < 2 ^ n → place (d + n) x a ≡ place n x a
place-above zero n x a l = ap (λ k. place k x a) (zero-add n)
place-above (suc d) n x a l =
    ap (λ k. place k x a) (suc-add d n)
    ∙ place-off (d + n) x a (λ on. let z = bit_past n x (d + n) l (omega arith) in absurd (omega arith)) ∙ place-above d n x a l

spread-above : (d n x c : ℕ) → x < 2 ^ n → spread (d + n) x c ≡ spread n x c
spread-above zero n x c l = ap (λ k. spread k x c) (zero-add n)
spread-above (suc d) n x c l =
    ap (λ k. spread k x c) (suc-add d n)
    ∙ spread-off (d + n) x c (λ on. let z = bit_past n x (d + n) l (omega arith) in absurd (omega arith)) ∙ spread-above d n x c l

-- the highest set bit comes first, and the others stand in the mask without it
module _ {x p y : ℕ} (top : Highest x p y) where
  below : (q : ℕ) → q < p → bit x q ≡ bit y q
  below q l = sym (ap (λ z. bit z q) top.rest ∙ undropped x p q (λ e. absurd (omega (arith, e))))

  pub highest-small : y < 2 ^ p
  highest-small =
      let half = pow-suc 2 p in
      let d = drop-bit x p top.on in
      omega (arith, top.most, half, d, top.rest)

  up-to : (a : ℕ) → place 48 x a ≡ place (suc p) x a
  up-to a = ap (λ k. place k x a) (sym (sub-add_cancel top.place)) ∙ place-above (48 - suc p) (suc p) x a top.most

  rest-of : (a : ℕ) → place p x a ≡ place 48 y a
  rest-of a = place-agree p x y a below ∙ sym (place-above (48 - p) p y a highest-small) ∙ ap (λ k. place k y a) (omega (arith, top.place))

  highest-place : (a : ℕ) → a ≡ 1 → place 48 x a ≡ Some p
  highest-place a e = up-to a ∙ place_here p x a top.on e

  highest-passed : (a : ℕ) → (a ≡ 1 → ⊥) → place 48 x a ≡ place 48 y (a - 1)
  highest-passed a ne = up-to a ∙ place-passed p x a top.on ne ∙ rest-of (a - 1)

  pub highest-spread : (c : ℕ) → spread 48 x c ≡ (c % 2) * 2 ^ p + spread 48 y (c / 2)
  highest-spread c =
      ap (λ k. spread k x c) (sym (sub-add_cancel top.place)) ∙ spread-above (48 - suc p) (suc p) x c top.most
      ∙ spread-on p x c top.on
      ∙ ap (◌+◌ ((c % 2) * 2 ^ p)) (spread-agree p x y (c / 2) below ∙ sym (spread-above (48 - p) p y (c / 2) highest-small)
      ∙ ap (λ k. spread k y (c / 2)) (omega (arith, top.place)))

-- a mask counts below bit 48 alone, and an empty one has no place
pub place-low : (x a : ℕ) → place 48 (x % 2 ^ 48) a ≡ place 48 x a
place-low x a = place-agree 48 (x % 2 ^ 48) x a (λ q l. bit-low 48 x q l)

pub spread-low : (x c : ℕ) → spread 48 (x % 2 ^ 48) c ≡ spread 48 x c
spread-low x c = spread-agree 48 (x % 2 ^ 48) x c (λ q l. bit-low 48 x q l)

place-none : (x a : ℕ) → x ≡ 0 → place 48 x a ≡ None
unfolding place
place-none x a e = ap (λ m. place 48 m a) e ∙ place-above 48 0 0 a (lit< tt)

pub spread-none : (x c : ℕ) → x ≡ 0 → spread 48 x c ≡ 0
unfolding spread
spread-none x c e = ap (λ m. spread 48 m c) e ∙ spread-above 48 0 0 c (lit< tt)

-- no place has the number 0
pub place_zero : (n x : ℕ) → place n x 0 ≡ None
unfolding place
place_zero zero x = refl
place_zero (suc n) x = elim (ℕ_discrete (bit x n) 1) [
  | yes on ↦ place-passed n x 0 on (λ e. absurd (omega (arith, e))) ∙ place_zero n x
  | no off ↦ place-off n x 0 off ∙ place_zero n x
]

-- an iterator that gives the highest place of what is left passes over n places, and then gives the one with the number n + 1
module _ {S : Type 0} (steps : S → Option ℕ → S → Type 0) (left : S → ℕ)
    (gives : (s : S) (o : Option ℕ) (t : S) → steps s o t → MatchOption o (left s ≡ 0) (λ p. Highest (left s) p (left t))) where
  passed-one : (n x : ℕ) (s j : S) → steps s (Some x) j → 0 < n → place 48 (left s) (n + 1) ≡ place 48 (left j) (n - 1 + 1)
  passed-one n x s j h l =
      highest-passed (gives s (Some x) j h) (n + 1) (λ e. absurd (omega (arith, e, l))) ∙ ap (place 48 (left j)) (omega (arith, l))

  pub place-after : (xs : List ℕ) (n : ℕ) (r : Option ℕ) (s t u : S) → Yields steps s xs t → steps t r u
      → MatchOption r (length xs ≤ n) (λ _. length xs ≡ n) → place 48 (left s) (n + 1) ≡ r
  place-after [] n None s t u e h k = place-none (left s) (n + 1) (ap left e ∙ gives t None u h)
  place-after [] n (Some p) s t u e h k =
      ap (λ z. place 48 (left z) (n + 1)) e ∙ highest-place (gives t (Some p) u h) (n + 1) (omega (arith, k))
  place-after (x ∷ xs) n None s t u (j, h, hs) l k =
      passed-one n x s j h (omega (arith, k)) ∙ place-after xs (n - 1) None j t u hs l (omega (arith, k))
  place-after (x ∷ xs) n (Some p) s t u (j, h, hs) l k =
      passed-one n x s j h (omega (arith, k)) ∙ place-after xs (n - 1) (Some p) j t u hs l (omega (arith, k))
