-- The set bits of a mask, from the top.
use Rattle.std.proofs.Common.{◌≡◌, ℕ, ◌+◌, ◌^◌, ◌<◌, ◌⊎◌, refl, List, [], ◌∷◌, ◌++◌, length, get_or, sym, ap, ◌∙◌, subst, inl, inr, arith, length-append, below_more}
use lib.Count.{ones, ones-le}
use Rattle.std.proofs.Math.ListN.{get_or-append}
use Rattle.std.proofs.Math.Seq.{get_or-append_seam}
use Rattle.std.proofs.lemmas.Bool.{cases_eq}
use Rattle.quadratic.specs.Bits.{bit, Highest}
use Rattle.quadratic.proofs.Bitlaws.{bit-zero}
use Rattle.quadratic.proofs.Lowest.{set_below, left-falls, dropped, undropped, ones-drop, ones-zero}
use Rattle.quadratic.proofs.Numbering.{highest-small}
use Rattle.archive.specs.Writes.{Falling}

-- the set bits that are not left, all of which stand above those that are
pub record Sofar (mask left : ℕ) (leads : List ℕ) : Type 0 where
  pub count : length leads + ones left ≡ ones mask
  pub part : (q : ℕ) → bit left q ≡ 1 → bit mask q ≡ 1
  pub high : (a : ℕ) → a < length leads → left < 2 ^ get_or leads a 0
  pub on : (a : ℕ) → a < length leads → bit mask (get_or leads a 0) ≡ 1
  pub order : (a c : ℕ) → a < c → c < length leads → get_or leads c 0 < get_or leads a 0
  pub all : (q : ℕ) → bit mask q ≡ 1 → (bit left q ≡ 1) ⊎ ((a : ℕ) × (a < length leads) × (q ≡ get_or leads a 0))

module _ (mask left p left' : ℕ) (leads : List ℕ) (few : mask < 2 ^ 48) (inside : left < 2 ^ 48) (top : Highest left p left')
    (w : Sofar mask left leads) where
  fewer : ones left' + 1 ≡ ones left
  fewer = ap (λ x. ones x + 1) top.rest ∙ ones-drop left p inside top.on

  pub room : length leads < 48
  room = omega (arith, w.count, fewer, ones-le 48 mask few)

  abbrev next : List ℕ
  next = leads ++ p ∷ []

  old : (a : ℕ) → a < length leads → get_or next a 0 ≡ get_or leads a 0
  old a l = get_or-append leads (p ∷ []) 0 a l

  here : get_or next (length leads) 0 ≡ p
  here = get_or-append_seam leads p [] 0

  longer : length next ≡ length leads + 1
  longer = length-append leads (p ∷ [])

  below : (a : ℕ) → a < length leads → p < get_or leads a 0
  below a l = set_below (get_or leads a 0) left p (w.high a l) top.on

  others : (q : ℕ) → (q ≡ p → ⊥) → bit left' q ≡ bit left q
  others q ne = ap (λ x. bit x q) top.rest ∙ undropped left p q ne

  -- the highest of those that are left goes behind the others
  appended : Sofar mask left' next
  appended = record {
    count = omega (arith, w.count, fewer, longer);
    part = λ q o. elim (cases_eq q p) [
      | inl i ↦ let gone = sym o ∙ ap (bit left') i ∙ ap (λ x. bit x p) top.rest ∙ dropped left p top.on in absurd (omega (arith, gone))
      | inr ne ↦ w.part q (sym (others q ne) ∙ o)
    ];
    high = rw longer (below_more _ _ (λ a l. rw (old a l) (let f = left-falls left p left' top.on top.rest in let h = w.high a l in omega (arith, f, h)))
        (rw here (highest-small top)));
    on = rw longer (below_more _ _ (λ a l. ap (bit mask) (old a l) ∙ w.on a l) (ap (bit mask) here ∙ w.part p top.on));
    order = λ a c l m. elim (cases_eq c (length leads)) [
      | inl i ↦ rw (i, here, old a (omega arith)) (below a (omega arith))
      | inr i ↦ rw (old a (omega (arith, longer)), old c (omega (arith, longer))) (w.order a c l (omega (arith, longer)))
    ];
    all = λ q o. elim (w.all q o) [
      | inl b ↦ elim (cases_eq q p) [
        | inl i ↦ inr (length leads, omega (arith, longer), i ∙ sym here)
        | inr ne ↦ inl (others q ne ∙ b)
      ]
      | inr f ↦ inr (f.0, omega (arith, f.1, longer), f.2 ∙ sym (old f.0 f.1))
    ];
  }

  pub with_it : (leads' : List ℕ) → leads' ≡ leads ++ p ∷ [] → Sofar mask left' leads'
  with_it leads' e = rw e appended

pub falling : (mask left : ℕ) (leads : List ℕ) → left ≡ 0 → Sofar mask left leads → Falling mask (ones mask) leads
falling mask left leads z w =
    let none : ones left ≡ 0 = ap ones z ∙ ones-zero in
    let same : length leads ≡ ones mask = omega (arith, w.count, none) in
    subst (λ k. Falling mask k leads) same
    (record {
      places = refl;
      on = w.on;
      order = w.order;
      all = λ q o. elim (w.all q o) [
        | inl b ↦ let zero = sym b ∙ ap (λ x. bit x q) z ∙ bit-zero q in absurd (omega (arith, zero))
        | inr f ↦ f
      ];
    })
