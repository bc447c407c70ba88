use Rattle.std.proofs.Common.{◌*◌}
use Rattle.layout.specs.Group.{address}
use Rattle.reading.specs.Arrays.{at, Taken}
use Rattle.reading.proofs.decoding.take_bytes.Given as goal

abbrev pub invariant-loop-b : goal.invariant-loop-b
invariant-loop-b g l = Taken (g.C.LineCode.line l.code) (address l.position.group l.position.track) (at l.words) l.array l.lost.marks (32 * l.b)
