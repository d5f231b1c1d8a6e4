use Rattle.std.proofs.Common.{ℕ, ◌+◌, ◌≤◌, inl, inr, length, refl, sym, arith}
use Rattle.std.proofs.lemmas.List.{take_rest}
use Rattle.std.proofs.lemmas.Option.{slice_get_read}
use Rattle.listing.specs.Pairs.{IsPair, IsPairOf}
use Rattle.listing.proofs.Numbered.{Joined, Writes-append, Writes-nil}
use Rattle.listing.proofs.pairs.write_pairs.Goals as goal

-- the pairs of n numbers whose first number is at most i
abbrev UpTo : ℕ → ℕ → ℕ × ℕ → Type 0
UpTo n i p = IsPair n p × (p.0 ≤ i)

-- those up to i, and those of i + 1
next : (n i : ℕ) → Joined (UpTo n i) (IsPairOf (i + 1) n) (UpTo n (i + 1))
next n i =
    record {
      apart = λ p q h l. inl (omega arith);
      both = λ p h. elim h [ inl a ↦ (omega arith, omega arith) | inr b ↦ (omega arith, omega arith) ];
      either = λ p h. grind arith;
    }

pub loop-i-init : goal.loop-i-init
loop-i-init g c =
    Writes-nil g.T.OfPair.text g.T.OfPair.tells _ (UpTo (length c.args.states.now) _) _ (λ p h. omega arith)

pub loop-i-preserved : goal.loop-i-preserved
loop-i-preserved g c =
    let n = length c.args.states.now in
    let i = c.loop-i.i in
    Writes-append g.T.OfPair.text g.T.OfPair.tells _ (UpTo n i) (IsPairOf (i + 1) n) (UpTo n (i + 1))
    _ _ _ (next n i) c.loop-i.invariant
    (c.in_ok-write_pairs_of.ensures c.args.states.now (record {
      at = slice_get_read c.args.states.now n i _ refl (omega arith) c.index-states-i.is;
      rest = sym (take_rest c.args.states.now (i + 1));
    }))
