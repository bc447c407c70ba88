use Rattle.std.proofs.Common.{◌≡◌, ℕ, ◌<◌, get_or}
use Rattle.writing.specs.Rows.{plain_at}
use Rattle.writing.proofs.rows.Source.spread_row.Given as goal

abbrev pub invariant-loop-q : goal.invariant-loop-q
invariant-loop-q l = (k : ℕ) → k < l.q → get_or l.row k 0 ≡ plain_at l.self.group.now l.self.pad.now l.position.track k
