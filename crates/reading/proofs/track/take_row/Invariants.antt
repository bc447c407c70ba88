use Rattle.std.proofs.Common.{◌≡◌, ℕ, ◌<◌, length, get_or}
use Rattle.layout.specs.Placing.{block_at, serial_at}
use Rattle.reading.specs.Arrays.{array_in}
use Rattle.reading.proofs.track.take_row.Given as goal

abbrev pub invariant-loop-q : goal.invariant-loop-q
invariant-loop-q l =
    record {
      size : length l.out ≡ 2912;
      bytes : (k : ℕ) → k < l.q → get_or l.out k 0 ≡ array_in l.array (block_at k) (serial_at k);
    }
