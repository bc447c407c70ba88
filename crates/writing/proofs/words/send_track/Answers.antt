use Rattle.std.proofs.Common.{◌*◌, arith}
use Rattle.layout.specs.Group.{address}
use Rattle.writing.specs.Arrays.{array_in}
use Rattle.writing.proofs.Sending.{sent-none, sent-all}
use Rattle.writing.proofs.words.send_track.Goals as goal

pub loop-b-init : goal.loop-b-init
loop-b-init g c =
    sent-none (g.C.LineCode.line c.args.code.now) (address c.args.position.group c.args.position.track) (array_in c.args.array.now)
    c.args.words.now c.told-words

pub returns : goal.returns
returns g c =
    sent-all (g.C.LineCode.line c.args.code.now) (address c.args.position.group c.args.position.track) (array_in c.args.array.now)
    c.loop-b.words c.loop-b.state (36 * c.loop-b.b) (omega arith) c.loop-b.invariant
