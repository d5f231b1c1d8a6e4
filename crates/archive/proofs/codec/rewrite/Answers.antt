use Rattle.std.proofs.Common.{◌≡◌, ℕ, ◌<◌, get_or, Ok, Err, Option, Result, refl, arith, rules}
use Rattle.std.specs.Option.{MatchOption}
use Rattle.std.specs.Result.{result_ok}
use Rattle.cyclotomic.specs.declared.refusal.Refusal.{Refusal}
use Rattle.archive.proofs.OneRun.{one-run, length-of}
use Rattle.archive.proofs.codec.rewrite.Goals as goal

-- what holds of the written bytes, or else of the refusal
told : (r : Result ℕ Refusal) (o : Option ℕ) (P : Type 0) (Q : ℕ → Type 0) → o ≡ result_ok r → ((m : ℕ) → r ≡ Ok m → Q m)
    → ((e : Refusal) → r ≡ Err e → P) → MatchOption o P Q
told (Ok m) o P Q e f g = rw e (f m refl)
told (Err x) o P Q e f g = rw e (g x refl)

pub returns : goal.returns
returns c =
    let r = c.in_ok-read.ensures in
    let w = c.write.ensures in
    let old : (i : ℕ) → get_or c.args.bytes.now i 0 < 256 = λ i. search rules in
    let long = length-of c.args.bytes.now c.read.new.state r.verdict r.state in
    record {
      verdict = r.verdict;
      bytes = told c.write.result c.ok.result _ _ c.ok.ensures.value
          (λ m e. one-run c.read.new.state _ c.args.bytes.now (rw e at w.bytes)
          (record { sound = r.verdict; holds = r.state; bytes = old }))
          (λ x e. let short = rw e at w.room in omega arith);
      state = r.state;
      past = told c.write.result c.ok.result _ _ c.ok.ensures.value (λ m e. rw e at w.past) (λ x e. rw e at w.bytes);
    }
