use Rattle.std.proofs.Common.{sym, arith}
use Rattle.layout.specs.Words.{row}
use Rattle.layout.specs.Placing.{block_at, serial_at}
use Rattle.layout.proofs.Writing.{listed-is}
use Rattle.reading.specs.Arrays.{array_in}
use Rattle.reading.proofs.track.take_row.Goals as goal

pub returns : goal.returns
unfolding row
returns c =
    sym (listed-is (λ q. array_in c.args.array.now (block_at q) (serial_at q)) c.loop-q.out 2912 c.loop-q.invariant.size
    (λ k h. sym (c.loop-q.invariant.bytes k (omega arith))))
