use Rattle.std.proofs.Common.{◌≡◌, ℕ, suc, ◌+◌, ◌-◌, ◌<◌, ap, ◌∙◌, arith}
use Rattle.quadratic.proofs.Laws.{tested}
use Rattle.archive.specs.Bits.{bits_from}
use Rattle.archive.specs.Held.{place_of_coupling}
use Rattle.archive.proofs.Laws.{bits_below}
use Rattle.archive.proofs.Sound.{couplings-there}
use Rattle.archive.proofs.build.StateBits.coupling.Goals as goal

-- the place of the coupling with row c, from that with the next row
shifted : (p n k a c first : ℕ) → first ≡ place_of_coupling 0 n k a (suc a) → a < c → p + first + (c - a - 1) ≡ place_of_coupling p n k a c
shifted p n k a c first e l = let z : suc a - suc a ≡ 0 = omega arith in omega arith

pub bits_at-requires-clause-there : goal.bits_at-requires-clause-there
bits_at-requires-clause-there c =
    let s = c.args.self.now in
    let h = couplings-there _ _ _ _ s.sound c.args.a c.args.c c.requires.order c.requires.inside in
    let e = shifted s.start s.shape.n s.shape.k c.args.a c.args.c _ c.coupling.ensures.place c.requires.order in
    omega (arith, e, h.0)

pub returns : goal.returns
returns c =
    let s = c.args.self.now in
    let b = s.bytes.now in
    let e = shifted s.start s.shape.n s.shape.k c.args.a c.args.c _ c.coupling.ensures.place c.requires.order in
    let h = c.bits_at.ensures ∙ ap (λ q. bits_from b q 1) e in
    tested _ _ h (omega (arith, h, bits_below b (place_of_coupling s.start s.shape.n s.shape.k c.args.a c.args.c) 1))
