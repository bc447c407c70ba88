use Rattle.std.proofs.Common.{◌≡◌, ◌*◌, ◌++◌, drop}
use Rattle.images.specs.Images.{chain, unpacked_at}
use Rattle.images.proofs.packed_image.U8Number.read.Given as goal

abbrev pub invariant-loop-q : goal.invariant-loop-q
invariant-loop-q l = l.words ≡ chain (unpacked_at l.bytes) l.q ++ drop (l.q * 4) l.initial.words
