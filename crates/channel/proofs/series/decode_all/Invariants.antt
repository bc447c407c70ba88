use Rattle.std.proofs.Common.{◌≡◌, length, take}
use Rattle.channel.specs.Listed.{decode_all, lost_of}
use Rattle.channel.proofs.series.decode_all.Given as goal

abbrev pub invariant-loop-i : goal.invariant-loop-i
invariant-loop-i g l =
    (length l.bytes ≡ length l.words)
    × (length l.lost ≡ length l.words)
    × (take l.i l.bytes ≡ decode_all (g.C.LineCode.line l.code).decode (take l.i l.words))
    × (take l.i l.lost ≡ lost_of (g.C.LineCode.line l.code).decode (take l.i l.words))
