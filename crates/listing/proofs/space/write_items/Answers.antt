use Rattle.std.proofs.Common.{◌≡◌, ℕ, ◌+◌, ◌-◌, Bool, ◌||◌, List, ◌++◌, Some, nat_lt, refl, sym, ap, ◌∙◌, subst, arith}
use Rattle.std.specs.Fmt.{HasWritten}
use Rattle.std.specs.declared.fmt.Formatter.{Formatter}
use Rattle.std.proofs.Output.{has_written_append, has_written_of_eq}
use Rattle.std.proofs.lemmas.Bool.Decides.{nat_tests}
use Rattle.listing.specs.Fields.{behind, following, up_to}
use Rattle.listing.proofs.Commas.{following-more}
use Rattle.listing.proofs.space.write_items.Goals as goal
use Rattle.listing.proofs.space.write_items.Goals.{then-others, else-others, else-loop-a-test, then-loop-a-test+in_ok-write_item+else-a-count}

-- the item a is written behind those before it, which are n
put : {W : Type 0} {took : W → List ℕ → W → Type 0} {f g h : Formatter W} (others b : Bool) (text : ℕ → List ℕ) (n a : ℕ)
    → a ≡ n + 1 → b ≡ (others || nat_lt 1 a) → HasWritten took f (following others (up_to text n)) g
    → HasWritten took g (behind b (text a)) h → HasWritten took f (following others (up_to text a)) h
put others b text n a e tests p q =
    let same : nat_lt 1 a ≡ nat_lt 0 n = grind (arith, nat_tests) in
    let last : following others (up_to text n) ++ behind b (text a) ≡ following others (up_to text a) =
    ap (λ c. following others (up_to text n) ++ behind c (text a)) (tests ∙ ap (λ t. others || t) same)
    ∙ subst (λ m. following others (up_to text n) ++ behind (others || nat_lt 0 n) (text m) ≡ following others (up_to text m)) (sym e)
    (sym (following-more others text n)) in
    has_written_of_eq _ _ _ _ _ last (has_written_append _ _ _ _ _ _ p q)

pub loop-a-preserved : goal.loop-a-preserved
loop-a-preserved g c = record {
  within = omega arith;
  put = λ text shows plain.
      let a = c.loop-a.a in
      let so_far = c.loop-a.invariant.put text shows plain in
      let said : g.D.Display.output c.item.result ≡ Some (text a) = shows a _ (omega arith) (omega arith) c.item.ensures in
      let more : c.if-others.write_item ≡ (c.args.others || nat_lt 1 a) =
      elim c.if-others.branch [ then-others w ↦ grind (arith, nat_tests) | else-others w ↦ grind (arith, nat_tests) ] in
      let at : a + 1 - 1 ≡ a = omega arith in
      rw at (put c.args.others _ text (a - 1) a (omega arith) more so_far ((rw said at c.in_ok-write_item.ensures) so_far.plain refl));
}

pub returns : goal.returns
returns g c = λ text shows plain ok.
    let a = c.loop-a.a in
    let so_far = c.loop-a.invariant.put text shows plain in
    elim c.loop-a-test.branch [
      | else-loop-a-test w ↦
          let end : a - 1 ≡ c.args.count = omega arith in
          rw w.f-is (rw end at so_far)
      | then-loop-a-test+in_ok-write_item+else-a-count w ↦
          let end : a ≡ c.args.count = omega arith in
          let said : g.D.Display.output w.item.result ≡ Some (text a) = shows a _ (omega arith) (omega arith) w.item.ensures in
          let more : w.if-others.write_item ≡ (c.args.others || nat_lt 1 a) =
          elim w.if-others.branch [ then-others v ↦ grind (arith, nat_tests) | else-others v ↦ grind (arith, nat_tests) ] in
          rw (w.f-is, ← end)
          (put c.args.others _ text (a - 1) a (omega arith) more so_far ((rw said at w.in_ok-write_item.ensures) so_far.plain refl))
    ]
