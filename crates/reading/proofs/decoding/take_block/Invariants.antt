use Rattle.std.proofs.Common.{◌+◌, ◌*◌}
use Rattle.layout.specs.Group.{address}
use Rattle.reading.specs.Arrays.{at, Taken}
use Rattle.reading.proofs.decoding.take_block.Given as goal

abbrev pub invariant-loop-s : goal.invariant-loop-s
invariant-loop-s g l = Taken (g.C.LineCode.line l.code) (address l.fn.position.group l.fn.position.track) (at l.words) l.array l.lost.marks (32 * l.b + l.s)
