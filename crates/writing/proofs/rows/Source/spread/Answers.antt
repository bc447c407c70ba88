use Rattle.std.proofs.Common.{◌+◌, ◌-◌, ◌*◌, arith}
use Rattle.writing.specs.Rows.{plain_at}
use Rattle.writing.proofs.RowSteps.{rows_put}
use Rattle.writing.proofs.rows.Source.spread.Goals as goal

pub loop-track-preserved : goal.loop-track-preserved
loop-track-preserved c =
    rows_put (plain_at c.args.self.group.now c.args.self.pad.now) c.loop-track.rows c.spread_row.new.row c.loop-track.track (2912 * c.loop-track.track + 2912 - 2912 * c.loop-track.track)
    c.loop-track-test.true (omega arith) (omega arith) (omega arith) c.loop-track.invariant c.spread_row.ensures

pub returns : goal.returns
returns c = λ p h. c.loop-track.invariant p (omega arith)
