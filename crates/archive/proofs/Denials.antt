-- When a state of an archive is denied.
use Rattle.std.proofs.Common.{◌≡◌, ℕ, ◌+◌, ◌-◌, ◌<◌, ◌≤◌, true, false, ◌&&◌, leb, List, length, Some, None, Option, sym, refl, ap, ◌∙◌, zero-add, arith}
use Rattle.std.proofs.lemmas.Bool.{cond-true, cond-false}
use Rattle.cyclotomic.specs.declared.refusal.Refusal.TheVariants.{Index}
use Rattle.archive.specs.declared.fault.ArchiveFault.{ArchiveFault}
use Rattle.archive.specs.declared.container.Denial.TheVariants.{Fault, Refused}
use Rattle.archive.specs.First.{or_else}
use Rattle.archive.specs.Archives.{count_of, states_fault, archive_fault}
use Rattle.archive.specs.Denials.{denial, denied}
use Rattle.archive.proofs.First.{none-some}
use Rattle.archive.proofs.States.{states-rest, states-split}

module _ (b : List ℕ) (i : ℕ) where
  pub by-fault : (f : ArchiveFault) → archive_fault b ≡ Some f → denied b i ≡ Some (Fault f)
  unfolding denied
  by-fault f e = ap (λ o. denial o (leb 1 i && leb i (count_of b))) e

  pub by_number : archive_fault b ≡ None → (leb 1 i && leb i (count_of b)) ≡ false → denied b i ≡ Some (Refused Index)
  unfolding denied
  by_number e h = ap (λ o. denial o (leb 1 i && leb i (count_of b))) e ∙ cond-false _ None (Some (Refused Index)) h

  pub by-none : archive_fault b ≡ None → (leb 1 i && leb i (count_of b)) ≡ true → denied b i ≡ None
  unfolding denied
  by-none e h = ap (λ o. denial o (leb 1 i && leb i (count_of b))) e ∙ cond-true _ None (Some (Refused Index)) h

-- in an archive without a fault no state has one
or-former : {F : Type 0} (x y : Option F) → or_else x y ≡ None → x ≡ None
or-former None y e = refl
or-former (Some f) y e = e

or-latter : {F : Type 0} (x y : Option F) → or_else x y ≡ None → y ≡ None
or-latter None y e = e
or-latter (Some f) y e = absurd (none-some f (sym e))

pub states-good : (b : List ℕ) (m l : ℕ) → 0 < length b → count_of b ≤ 100 → archive_fault b ≡ None → m + l ≤ count_of b
    → states_fault b m l ≡ None
states-good b m l h g e k =
    let all = or-former (states_fault b 0 (count_of b)) _ (sym (states-rest b h g) ∙ e) in
    let whole : count_of b ≡ m + (l + (count_of b - m - l)) = omega arith in
    let later = or-latter (states_fault b 0 m) _ (sym (ap (states_fault b 0) whole ∙ states-split b 0 m _) ∙ all) in
    or-former (states_fault b m l) _ (sym (states-split b m l _) ∙ ap (λ t. states_fault b t (l + (count_of b - m - l))) (sym (zero-add m))
    ∙ later)
