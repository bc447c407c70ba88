use Rattle.std.proofs.Common.{◌+◌, ◌*◌, ◌/◌, ◌%◌, not, ◌||◌, sym, ap₂}
use Rattle.reed_solomon.specs.Interleaves.{interleaved}
use Rattle.reading.proofs.Refills.{checks-is}
use Rattle.reading.proofs.c1.is_lost.Goals as goal

pub returns : goal.returns
returns c =
    ap₂ (λ a b. a || not b) (sym c.if-marked.false)
    (checks-is 4 (interleaved c.args.array.now (64 * (c.args.k / 2) + c.args.k % 2) 2 32) c.holds_interleaved.result c.holds_interleaved.ensures)
