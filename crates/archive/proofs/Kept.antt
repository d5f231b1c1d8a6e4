-- Fields that stand in bits that are the same in another run of bytes.
use Rattle.std.proofs.Common.{◌≡◌, ℕ, ◌+◌, ◌*◌, ◌<◌, ◌≤◌, List, get_or, ap, ◌∙◌, arith}
use Rattle.quadratic.specs.Fields.{coefficient_at}
use Rattle.quadratic.specs.declared.phased.PhasedSpace.{PhasedSpace}
use Rattle.archive.specs.Bits.{bits_from}
use Rattle.archive.specs.Layout.{bits_before_fill}
use Rattle.archive.specs.Held.{linear_place, place_of_coupling}
use Rattle.archive.specs.Writes.{HeaderPut, RowsPut, FormPut}
use Rattle.archive.proofs.Frames.{Agree, keep, field-within}
use Rattle.archive.proofs.Pairs.{pairs-within}

module _ (b b' : List ℕ) (to : ℕ) (same : Agree b b' to) (n k : ℕ) where
  pub header-kept : 28 ≤ to → (loss q : ℕ) → HeaderPut b n k loss q → HeaderPut b' n k loss q
  header-kept l loss q h = record {
    size = keep b b' to 0 6 same (omega arith) ∙ h.size;
    rank = keep b b' to 6 6 same (omega arith) ∙ h.rank;
    weight = keep b b' to 12 13 same (omega arith) ∙ h.weight;
    phased = keep b b' to 25 3 same (omega arith) ∙ h.phased;
  }

  module _ (leads : List ℕ) (s : PhasedSpace) where
    pub rows-kept : 28 + k * n + n ≤ to → RowsPut b n k leads s → RowsPut b' n k leads s
    rows-kept l r = record {
      rows = λ a i. let w = field-within 28 a k n i in keep b b' to (28 + a * n) n same (omega arith) ∙ r.rows a i;
      shift = keep b b' to (28 + k * n) n same (omega arith) ∙ r.shift;
    }

    pub linear-kept : linear_place 0 n k k ≤ to → ((a : ℕ) → a < k
        → 2 * bits_from b (linear_place 0 n k a) 2 ≡ coefficient_at s (get_or leads a 0))
        → (a : ℕ) → a < k → 2 * bits_from b' (linear_place 0 n k a) 2 ≡ coefficient_at s (get_or leads a 0)
    linear-kept l f a i = ap (λ t. 2 * t) (keep b b' to (linear_place 0 n k a) 2 same (omega arith)) ∙ f a i

    pub form-kept : bits_before_fill n k ≤ to → FormPut b n k leads s → FormPut b' n k leads s
    form-kept l f = record {
      linear = linear-kept (omega arith) f.linear;
      coupling = λ a c i o. let w = pairs-within k a c i o in keep b b' to (place_of_coupling 0 n k a c) 1 same (omega arith)
          ∙ f.coupling a c i o;
    }
