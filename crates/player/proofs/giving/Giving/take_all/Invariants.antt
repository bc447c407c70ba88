use Rattle.std.proofs.Common.{◌≡◌}
use Rattle.index.specs.Cursors.{Sound, cursor_of, remaining}
use Rattle.player.specs.Shelves.{shelf, laid_all, Fits}
use Rattle.player.proofs.giving.Giving.take_all.Given as goal

-- what is left gives what all gives
abbrev pub invariant-loop-entry : goal.invariant-loop-entry
invariant-loop-entry l =
    Sound (cursor_of l.entry-iterator)
    × Fits (shelf l.self l.output l.rows) (remaining (cursor_of l.entry-iterator))
    × (laid_all (shelf l.self l.output l.rows) (remaining (cursor_of l.entry-iterator)) ≡ laid_all (shelf l.initial.self l.initial.output l.initial.rows) (remaining (cursor_of l.initial.entry-iterator)))
