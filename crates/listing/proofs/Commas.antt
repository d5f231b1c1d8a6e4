-- Texts joined by commas, and the bits of a string.
use Rattle.std.proofs.Common.{◌≡◌, ℕ, zero, suc, ◌+◌, Bool, true, false, ◌||◌, List, [], ◌∷◌, ◌++◌, nat_lt, refl, sym, ap, ◌∙◌, arith, append-nil, append_assoc, add-one}
use Rattle.std.proofs.lemmas.Bool.Decides.{nat_tests}
use Rattle.listing.specs.Fields.{behind, following, joined, up_to}

-- whether there is an element
abbrev pub some : {A : Type 0} → List A → Bool
some [] = false
some (x ∷ xs) = true

some-push : {A : Type 0} (xs : List A) (y : A) → some (xs ++ y ∷ []) ≡ true
some-push [] y = refl
some-push (x ∷ xs) y = refl

pub some-append : {A : Type 0} (xs ys : List A) → some (xs ++ ys) ≡ (some xs || some ys)
some-append [] ys = refl
some-append (x ∷ xs) ys = refl

-- what follows a list of texts
pub following-append : (others : Bool) (xs ys : List (List ℕ))
    → following others (xs ++ ys) ≡ following others xs ++ following (others || some xs) ys
following-append true [] ys = refl
following-append false [] ys = refl
following-append true (x ∷ xs) ys =
    ap (λ (t : List ℕ). behind true x ++ t) (following-append true xs ys) ∙ sym (append_assoc (behind true x) _ _)
following-append false (x ∷ xs) ys =
    ap (λ (t : List ℕ). x ++ t) (following-append true xs ys) ∙ sym (append_assoc x _ _)

first : (n : ℕ) → nat_lt 0 (suc n) ≡ true
first n = grind (arith, nat_tests)

pub some-upTo : {A : Type 0} (f : ℕ → A) (n : ℕ) → some (up_to f n) ≡ nat_lt 0 n
some-upTo f zero = refl
some-upTo f (suc n) = some-push (up_to f n) (f (suc n)) ∙ sym (first n)

-- one item more
pub following-more : (others : Bool) (f : ℕ → List ℕ) (n : ℕ)
    → following others (up_to f (n + 1)) ≡ following others (up_to f n) ++ behind (others || nat_lt 0 n) (f (n + 1))
following-more others f n =
    rw add-one (following-append others (up_to f n) (f (suc n) ∷ []) ∙ ap (λ (t : List ℕ). following others (up_to f n) ++ t)
    (append-nil (behind (others || some (up_to f n)) (f (suc n))) ∙ ap (λ (b : Bool). behind (others || b) (f (suc n))) (some-upTo f n)))

pub joined-some : (xs : List (List ℕ)) → some xs ≡ true → following false xs ≡ joined xs
joined-some [] e = absurd (cc)
joined-some (x ∷ xs) e = refl
