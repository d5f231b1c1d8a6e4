use Rattle.std.proofs.Common.{arith}
use Rattle.archive.proofs.Sound.{sound, sound-at}
use Rattle.archive.proofs.Built.{parts-sound}
use Rattle.archive.proofs.build.build.Goals as goal

pub bits_at-n-requires-clause-there : goal.bits_at-n-requires-clause-there
bits_at-n-requires-clause-there c = let good = sound c.args.bytes.now c.args.start c.requires.sound in omega (arith, good.long)

pub bits_at-k-requires-clause-there : goal.bits_at-k-requires-clause-there
bits_at-k-requires-clause-there c = let good = sound c.args.bytes.now c.args.start c.requires.sound in omega (arith, good.long)

pub invariant_of-shape : goal.invariant_of-shape
invariant_of-shape c =
    let good = sound-at _ _ _ _ c.bits_at-n.ensures c.bits_at-k.ensures c.requires.sound in
    record { few = good.few; fewer = good.fewer }

pub invariant_of-bits : goal.invariant_of-bits
invariant_of-bits c = record {
  near = c.requires.near;
  sound = sound-at _ _ _ _ c.bits_at-n.ensures c.bits_at-k.ensures c.requires.sound;
}

pub unreachable-requires : goal.unreachable-requires
unreachable-requires c =
    let good = sound-at _ _ _ _ c.bits_at-n.ensures c.bits_at-k.ensures c.requires.sound in
    c.in_default.ensures (parts-sound _ _ _ _ _ _ good c.loss.ensures c.body.ensures.spans)
