-- Pairs of numbers in rising order, and lines for them, put one after another.
use Rattle.std.proofs.Common.{◌≡◌, ℕ, suc, ◌+◌, ◌⊎◌, inl, inr, List, [], ◌∷◌, ◌++◌, Some, Option, refl, sym, ap, ◌∙◌, subst, arith, append-nil}
use Rattle.std.specs.Prelude.{All, AllPairs, Contains, slice_get}
use Rattle.std.specs.List.{flat_map}
use Rattle.std.specs.Io.KnownBytes.{Appends}
use Rattle.std.proofs.Math.Nat.{add-sub_cancel}
use Rattle.std.proofs.KnownBytes.{Appends-nil, Appends-trans}
use Rattle.std.proofs.lemmas.List.{map-append}
use Rattle.std.proofs.lemmas.List.Concat.{flat_map-append}
use Rattle.std.proofs.lemmas.List.Elements.{All-nil, All-cons, All-head, All-tail, All-append, All-weaker, Contains-append_left, Contains-append_right, Contains-push}
use Rattle.std.proofs.lemmas.List.Kept.{AllPairs-cons}
use Rattle.stabilizer.specs.declared.state.StabilizerState.{StabilizerState}
use Rattle.listing.specs.Pairs.{Before, InOrder, HoldsOf, Lines}
use Rattle.listing.specs.Lines.{LineTells, line_numbers}
use Rattle.listing.specs.Texts.{line_text}
use Rattle.listing.specs.Written.{Writes, ended}
use Rattle.listing.specs.declared.line.Line.{Line}

-- a relation of each element and each later one, of two lists in a row
AllPairs-append : {X : Type 0} (R : X → X → Type 0) (xs ys : List X) → AllPairs R xs → AllPairs R ys
    → All (λ x. All (R x) ys) xs → AllPairs R (xs ++ ys)
AllPairs-append R [] ys p q across = q
AllPairs-append R (x ∷ xs) ys p q across =
    AllPairs-cons R x (xs ++ ys)
    (All-append (R x) xs ys (λ k d h. p 0 (suc k) d (omega arith) (omega arith)) (All-head (λ x. All (R x) ys) x xs across))
    (AllPairs-append R xs ys (λ i j d h l. p (suc i) (suc j) d (omega arith) (omega arith)) q
    (All-tail (λ x. All (R x) ys) x xs across))

-- the pairs with R are those with P, and behind them those with Q
pub record Joined (P Q R : ℕ × ℕ → Type 0) : Type 0 where
  pub apart : (p q : ℕ × ℕ) → P p → Q q → Before p q
  pub both : (p : ℕ × ℕ) → P p ⊎ Q p → R p
  pub either : (p : ℕ × ℕ) → R p → P p ⊎ Q p

module _ (P Q R : ℕ × ℕ → Type 0) where
  -- the one list behind the other
  InOrder-append : (ps qs : List (ℕ × ℕ)) → Joined P Q R → InOrder P ps → InOrder Q qs → InOrder R (ps ++ qs)
  InOrder-append ps qs j p q =
      record {
        rising = AllPairs-append Before ps qs p.rising q.rising
            (All-weaker P _ (λ x h. All-weaker Q _ (λ y l. j.apart x y h l) qs q.sound) ps p.sound);
        sound = All-append R ps qs (All-weaker P R (λ x h. j.both x (inl h)) ps p.sound)
            (All-weaker Q R (λ x h. j.both x (inr h)) qs q.sound);
        complete = λ x h.
            elim (j.either x h) [
              | inl a ↦ Contains-append_left ps qs x (p.complete x a)
              | inr b ↦ Contains-append_right ps qs x (q.complete x b)
            ];
      }

InOrder-nil : (P : ℕ × ℕ → Type 0) → ((p : ℕ × ℕ) → P p → ⊥) → InOrder P []
InOrder-nil P none =
    record { rising = λ i j d h l. absurd (omega arith); sound = All-nil P; complete = λ p h. absurd (none p h) }

InOrder-one : (q : ℕ × ℕ) → InOrder (λ p. p ≡ q) (q ∷ [])
InOrder-one q =
    record {
      rising = λ i j d h l. absurd (omega arith);
      sound = All-cons (λ (p : ℕ × ℕ). p ≡ q) q [] refl (All-nil (λ (p : ℕ × ℕ). p ≡ q));
      complete = λ p e. subst (Contains (q ∷ [])) (sym e) (Contains-push [] q);
    }

module _ {A : Type 0}
    (shown : A → List ℕ)
    (tells : A → StabilizerState → StabilizerState → Type 0)
    (states : List StabilizerState) where
  Lines-nil : (P : ℕ × ℕ → Type 0) → ((p : ℕ × ℕ) → P p → ⊥) → Lines shown tells states P []
  Lines-nil P none = record { lines = []; pairs = InOrder-nil P none; told = All-nil _; written = refl }

  Lines-one : (l : Line A) (q : ℕ × ℕ) → line_numbers l ≡ q → HoldsOf (LineTells tells l) states q
      → Lines shown tells states (λ p. p ≡ q) (ended (line_text shown l))
  Lines-one l q e h =
      record {
        lines = l ∷ [];
        pairs = subst (λ (x : ℕ × ℕ). InOrder (λ p. p ≡ q) (x ∷ [])) (sym e) (InOrder-one q);
        told = All-cons (λ x. HoldsOf (LineTells tells x) states (line_numbers x)) l []
            (subst (HoldsOf (LineTells tells l) states) (sym e) h) (All-nil _);
        written = sym (append-nil (ended (line_text shown l)));
      }

  -- the lines of one text behind those of another
  Lines-append : (P Q R : ℕ × ℕ → Type 0) (a b : List ℕ) → Joined P Q R → Lines shown tells states P a
      → Lines shown tells states Q b → Lines shown tells states R (a ++ b)
  Lines-append P Q R a b j p q =
      record {
        lines = p.lines ++ q.lines;
        pairs = subst (InOrder R) (sym (map-append line_numbers p.lines q.lines)) (InOrder-append P Q R _ _ j p.pairs q.pairs);
        told = All-append (λ x. HoldsOf (LineTells tells x) states (line_numbers x)) p.lines q.lines p.told q.told;
        written = ap (λ (t : List ℕ). t ++ b) p.written
            ∙ (ap (λ (t : List ℕ). flat_map (λ l. ended (line_text shown l)) p.lines ++ t) q.written
            ∙ sym (flat_map-append (λ l. ended (line_text shown l)) p.lines q.lines));
      }

  -- more lines are written
  pub Writes-append : (P Q R : ℕ × ℕ → Type 0) (u v w : Option (List ℕ)) → Joined P Q R
      → Writes (Lines shown tells states P) u v → Writes (Lines shown tells states Q) v w
      → Writes (Lines shown tells states R) u w
  Writes-append P Q R u v w j p q = (p.0 ++ q.0, Lines-append P Q R p.0 q.0 j p.1 q.1, Appends-trans u v w p.0 q.0 p.2 q.2)

  -- a line more is written
  pub Writes-line : (P R : ℕ × ℕ → Type 0) (u v w : Option (List ℕ)) (l : Line A) (q : ℕ × ℕ) → Joined P (λ p. p ≡ q) R
      → Writes (Lines shown tells states P) u v → line_numbers l ≡ q → HoldsOf (LineTells tells l) states q
      → Appends v w (ended (line_text shown l)) → Writes (Lines shown tells states R) u w
  Writes-line P R u v w l q j p e h put =
      Writes-append P (λ x. x ≡ q) R u v w j p (ended (line_text shown l), Lines-one l q e h, put)

  -- no line is written yet
  pub Writes-nil : (P : ℕ × ℕ → Type 0) (u : Option (List ℕ)) → ((p : ℕ × ℕ) → P p → ⊥)
      → Writes (Lines shown tells states P) u u
  Writes-nil P u none = ([], Lines-nil P none, Appends-nil u)

-- what stands at a place has that place's number
pub HoldsOf-at : (R : StabilizerState → StabilizerState → Type 0) (states : List StabilizerState) (i j : ℕ) (t s : StabilizerState)
    → slice_get states i ≡ Some t → slice_get states j ≡ Some s → R t s → HoldsOf R states (i + 1, j + 1)
HoldsOf-at R states i j t s here there h =
    λ t' s' here' there'.
    let first : t ≡ t' = cc (here', here, add-sub_cancel i 1) in
    let second : s ≡ s' = cc (there', there, add-sub_cancel j 1) in
    subst (λ x. R x s') first (subst (λ x. R t x) second h)
