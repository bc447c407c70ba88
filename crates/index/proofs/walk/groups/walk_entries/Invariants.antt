use Rattle.std.proofs.Common.{◌≡◌, ◌+◌, ◌≤◌}
use Rattle.index.specs.Succession.{parts_sum}
use Rattle.index.specs.Cursors.{Sound, cursor_of, remaining}
use Rattle.index.specs.Counted.{tallied}
use Rattle.index.proofs.walk.groups.walk_entries.Given as goal

-- what is left gives what all gives; the numbers grow by as much as was read
abbrev pub invariant-loop-entry : goal.invariant-loop-entry
invariant-loop-entry l =
    Sound (cursor_of l.reader)
    × (tallied l.limit l.number l.tally (remaining (cursor_of l.reader)) ≡ tallied l.limit 1 l.initial.tally (remaining (cursor_of l.initial.reader)))
    × (l.tally.used ≡ l.reader.place)
    × (parts_sum l.tally.state ≤ parts_sum l.initial.tally.state + l.tally.used)
    × (l.number + l.reader.left ≡ 1 + l.initial.reader.left)
    × (l.tally.counts.items + 1 ≤ l.initial.tally.counts.items + l.number)
    × (l.tally.counts.ones + 1 ≤ l.initial.tally.counts.ones + l.number)
    × (l.tally.counts.twos + 1 ≤ l.initial.tally.counts.twos + l.number)

abbrev pub decreases-loop-entry : goal.decreases-loop-entry
decreases-loop-entry l = l.reader.left
