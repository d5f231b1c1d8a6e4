use Rattle.std.proofs.Common.{◌≡◌, ℕ, ◌+◌, ◌*◌, List, length, length-drop, drop, get_or, vec_items, vec_len, refl, ap, ap₂, ◌∙◌, add-zero, arith, below_more}
use Rattle.std.proofs.lemmas.List.{drop-drop, get_or-drop, take_rest}
use Rattle.std.specs.Option.{unwrap_or}
use Rattle.listing.specs.Digits.{byte_at, nibble_of}
use Rattle.listing.proofs.hex.Hex.decode.Goals as goal

pub loop-digits-preserved : goal.loop-digits-preserved
loop-digits-preserved c =
    let digits = c.args.self.digits.now in
    let n = vec_len c.loop-digits.out in
    let so_far = c.loop-digits.invariant in
    let pushed = c.in_ok-push.ensures in
    let first : get_or c.loop-digits.digits.now 0 0 ≡ get_or digits (2 * n) 0 =
    ap (λ (l : List ℕ). get_or l 0 0) so_far.rest ∙ get_or-drop (2 * n) digits 0 0 ∙ ap (λ (m : ℕ). get_or digits m 0) (add-zero (2 * n)) in
    let second : get_or c.loop-digits.digits.now 1 0 ≡ get_or digits (2 * n + 1) 0 =
    ap (λ (l : List ℕ). get_or l 1 0) so_far.rest ∙ get_or-drop (2 * n) digits 1 0 in
    let high = c.unwrap_or.ensures ∙ ap (λ o. unwrap_or o 0) (c.nibble.ensures.value ∙ ap nibble_of first) in
    let low = c.unwrap_or-in-len2-up.ensures ∙ ap (λ o. unwrap_or o 0) (c.nibble-in-len2-up.ensures.value ∙ ap nibble_of second) in
    let Byte : ℕ → Type 0 = λ k. get_or (vec_items c.push.new.self) k 0 ≡ byte_at digits k in
    record {
      within = omega (arith, ap length so_far.rest, length-drop (2 * n) digits, pushed.len);
      rest = take_rest c.loop-digits.digits.now 2 ∙ ap (λ (l : List ℕ). drop 2 l) so_far.rest ∙ drop-drop 2 (2 * n) digits
          ∙ ap (λ (m : ℕ). drop m digits) (omega (arith, pushed.len));
      each = λ k h. below_more Byte n (λ j l. pushed.by_index.0 j 0 l ∙ so_far.each j l)
          (pushed.by_index.1 0 refl ∙ ap₂ (λ (a b : ℕ). 16 * a + b) high low) k (omega (arith, pushed.len));
    }
