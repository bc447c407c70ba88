use Rattle.std.proofs.Common.{◌≡◌, ℕ, ◌*◌, ◌/◌, ◌%◌, ◌<◌, get_or}
use Rattle.writing.specs.Rows.{plain_at}
use Rattle.writing.proofs.rows.Source.spread.Given as goal

abbrev pub invariant-loop-track : goal.invariant-loop-track
invariant-loop-track l = (p : ℕ) → p < 2912 * l.track → get_or l.rows p 0 ≡ plain_at l.self.group.now l.self.pad.now (p / 2912) (p % 2912)
