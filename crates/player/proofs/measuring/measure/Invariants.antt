use Rattle.std.proofs.Common.{◌≡◌, ◌+◌, ◌≤◌}
use Rattle.index.specs.Cursors.{Sound, cursor_of, remaining}
use Rattle.player.specs.Shelves.{size_in, finished_in}
use Rattle.player.proofs.measuring.measure.Given as goal

-- what was counted, and what is left to count
abbrev pub invariant-loop-entry : goal.invariant-loop-entry
invariant-loop-entry l =
    Sound (cursor_of l.entry-iterator)
    × (l.bytes + size_in (remaining (cursor_of l.entry-iterator)) ≡ size_in (remaining (cursor_of l.initial.entry-iterator)))
    × (l.rows + finished_in (remaining (cursor_of l.entry-iterator)) ≡ finished_in (remaining (cursor_of l.initial.entry-iterator)))
    × (l.bytes ≤ l.entry-iterator.place)
    × (l.rows + l.entry-iterator.left ≤ l.initial.entry-iterator.left)
