use Rattle.std.proofs.Common.{◌&&◌, refl}
use Rattle.layout.specs.Group.{address}
use Rattle.reading.specs.Arrays.{at}
use Rattle.reading.proofs.Lists.{block-is}
use Rattle.reading.proofs.decoding.block_lost.Goals as goal

pub returns : goal.returns
returns g c =
    let s = c.is_sync-sync.result in
    let one = c.gives-one.result in
    let two = c.gives-two.result in
    let three = c.gives-three.result in
    block-is (g.C.LineCode.line c.args.code.now) (address c.args.position.group c.args.position.track) (at c.args.words.now) c.args.b
    c.label-w1.result s one two three (s && one && two && three) c.decode.result c.decode-2.result c.decode-3.result
    c.label-w1.ensures c.is_sync-sync.ensures c.decode.ensures c.decode-2.ensures c.decode-3.ensures c.gives-one.ensures c.gives-two.ensures c.gives-three.ensures refl
