use Rattle.std.proofs.Common.{◌+◌, ◌*◌}
use Rattle.layout.specs.Group.{address}
use Rattle.writing.specs.Arrays.{array_in}
use Rattle.writing.specs.Sending.{Sent}
use Rattle.writing.proofs.words.send_block.Given as goal

abbrev pub invariant-loop-s : goal.invariant-loop-s
invariant-loop-s g l =
    Sent (g.C.LineCode.line l.code) (address l.fn.position.group l.fn.position.track) (array_in l.array) l.words l.state (36 * l.b + (4 + l.s))
