use Rattle.std.proofs.Common.{◌≡◌, ℕ, ◌+◌, ◌<◌, List, [], ◌∷◌, ◌++◌, length, get_or, drop, codes, decimal, subst, sym, ap, ◌∙◌, arith, append_assoc}
use Rattle.std.specs.Io.KnownBytes.{Appends}
use Rattle.std.proofs.KnownBytes.{Appends-trans}
use Rattle.std.proofs.lemmas.List.{drop_more}
use Rattle.stabilizer.specs.declared.state.StabilizerState.{StabilizerState}
use Rattle.listing.specs.Fields.{fields_text, state_line, state_lines}
use Rattle.listing.proofs.description.write_fields.Goals as goal

-- the line of the state at the place i, and the lines of those behind it
next : (ss : List StabilizerState) (i : ℕ) (s : StabilizerState) (done : List ℕ) → i < length ss → s ≡ get_or ss i s
    → (done ++ state_line (i + 1) s) ++ state_lines (1 + (i + 1)) (drop (i + 1) ss) ≡ done ++ state_lines (1 + i) (drop i ss)
next ss i s done h is =
    let front : drop i ss ≡ s ∷ drop (i + 1) ss = drop_more ss i s h ∙ ap (λ x. x ∷ drop (i + 1) ss) (sym is) in
    let first : 1 + i ≡ i + 1 = omega arith in
    let rest : 1 + (i + 1) ≡ i + 1 + 1 = omega arith in
    append_assoc done (state_line (i + 1) s) _
    ∙ ap (λ t. done ++ t)
    (ap (λ n. state_line (i + 1) s ++ state_lines n (drop (i + 1) ss)) rest
    ∙ sym (ap (state_lines (1 + i)) front ∙ ap (λ n. state_lines n (s ∷ drop (i + 1) ss)) first))

pub loop-i-preserved : goal.loop-i-preserved
loop-i-preserved g c =
    let s = c.index-states-i.result in
    let i = c.loop-i.i in
    let so_far = c.loop-i.invariant in (
      so_far.0 ++ state_line (i + 1) s,
      Appends-trans _ _ _ so_far.0 (state_line (i + 1) s) so_far.1
          (subst (Appends (g.O.Write.contents c.loop-i.out) (g.O.Write.contents c.writeln.new.self))
          (sym (append_assoc (decimal (i + 1)) (codes ": " ++ fields_text s) (10 ∷ [])))
          c.in_ok-writeln.ensures.bytes),
      next c.args.states.now i s so_far.0 (omega arith) c.index-states-i.is ∙ so_far.2,
    )
