use Rattle.std.proofs.Common.{length}
use Rattle.writing.proofs.Laid.{LaidTo}
use Rattle.writing.proofs.array.lay.Given as goal

abbrev pub invariant-loop-byte : goal.invariant-loop-byte
invariant-loop-byte l = LaidTo l.row l.array (length l.yielded)
