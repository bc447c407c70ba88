use Rattle.std.proofs.Common.{◌+◌, ◌*◌, refl, arith}
use Rattle.layout.specs.Group.{number_d, sign_d}
use Rattle.reading.proofs.Masks.{spread-more}
use Rattle.reading.proofs.randomizer.put_bytes.Goals as goal

pub loop-f-preserved : goal.loop-f-preserved
loop-f-preserved c =
    spread-more c.args.rows.now c.args.group.now c.loop-f.group c.args.d c.args.mask c.loop-f.f (5824 * c.loop-f.f + c.data_place-at.result)
    (sign_d c.args.d) (number_d c.args.d) c.requires.d_bound c.loop-f-test.true (omega arith) refl refl (omega (arith, c.data_place-at.ensures)) c.loop-f.invariant
