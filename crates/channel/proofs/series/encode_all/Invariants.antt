use Rattle.std.proofs.Common.{◌≡◌, ◌++◌, length, take, drop}
use Rattle.channel.specs.Listed.{encode_all, state_after}
use Rattle.channel.proofs.series.encode_all.Given as goal

abbrev pub invariant-loop-i : goal.invariant-loop-i
invariant-loop-i g l =
    (length l.words ≡ length l.bytes)
    × (take l.i l.words ++ encode_all (g.C.LineCode.line l.code).encode l.current (drop l.i l.bytes) ≡ encode_all (g.C.LineCode.line l.code).encode l.initial.current l.bytes)
    × (state_after (g.C.LineCode.line l.code).encode l.current (drop l.i l.bytes) ≡ state_after (g.C.LineCode.line l.code).encode l.initial.current l.bytes)
