use Rattle.std.proofs.Common.{◌*◌}
use Rattle.layout.specs.Group.{address}
use Rattle.writing.specs.Arrays.{array_in}
use Rattle.writing.specs.Sending.{Sent}
use Rattle.writing.proofs.words.send_track.Given as goal

abbrev pub invariant-loop-b : goal.invariant-loop-b
invariant-loop-b g l =
    Sent (g.C.LineCode.line l.code) (address l.position.group l.position.track) (array_in l.array) l.words l.state (36 * l.b)
