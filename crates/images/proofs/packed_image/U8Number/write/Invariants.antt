use Rattle.std.proofs.Common.{◌≡◌, ◌*◌, ◌++◌, drop}
use Rattle.images.specs.Images.{chain, packed_at}
use Rattle.images.proofs.packed_image.U8Number.write.Given as goal

abbrev pub invariant-loop-q : goal.invariant-loop-q
invariant-loop-q l = l.bytes ≡ chain (packed_at l.words) l.q ++ drop (l.q * 5) l.initial.bytes
