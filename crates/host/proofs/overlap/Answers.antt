use Rattle.std.proofs.Common.{◌≡◌, ℕ, ◌+◌, ◌-◌, ◌≤◌, List, ◌++◌, length, get_or, drop, sym, refl, ap, ◌∙◌, arith, length-take-le}
use Rattle.std.proofs.lemmas.List.{get_or-append_right, get_or-drop}
use Rattle.cyclotomic.specs.Scalars.{triple_of}
use Rattle.host.specs.Answers.{word_of, bytes_of}
use Rattle.host.proofs.overlap.Goals as goal

-- four bytes at the start of a buffer
module _ (new old bytes : List ℕ) (e : new ≡ bytes) (four : length bytes ≡ 4) where
  rest : (k : ℕ) → 4 ≤ k → get_or (new ++ drop 4 old) k 0 ≡ get_or old k 0
  rest k l =
      let there : 4 + (k - 4) ≡ k = omega arith in
      rw e (get_or-append_right bytes (drop 4 old) 4 k 0 four l) ∙ get_or-drop 4 old (k - 4) 0 ∙ ap (λ i. get_or old i 0) there

pub copy_from_slice-requires : goal.copy_from_slice-requires
copy_from_slice-requires c =
    let four = ap length c.packed.ensures in
    length-take-le 4 c.args.answer.now (omega arith) ∙ sym four

pub returns-in-Ok-clause-rest : goal.returns-in-Ok-clause-rest
returns-in-Ok-clause-rest c =
    rest c.copy_from_slice.new.self c.args.answer.now (bytes_of (word_of (triple_of c.in-Ok.x)))
    (c.copy_from_slice.ensures.after ∙ c.packed.ensures) refl
