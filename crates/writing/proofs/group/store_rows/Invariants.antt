use Rattle.std.proofs.Common.{◌≡◌, ◌-◌, ◌*◌}
use Rattle.layout.specs.Group.{address}
use Rattle.layout.specs.Line.{track}
use Rattle.layout.specs.Writing.{array_of}
use Rattle.writing.specs.Rows.{row_in}
use Rattle.writing.proofs.TapeSteps.{TracksTo}
use Rattle.writing.proofs.group.store_rows.Given as goal

abbrev pub invariant-loop-track : goal.invariant-loop-track
invariant-loop-track g l =
    TracksTo (λ t. track (g.C.LineCode.line l.code) (address l.number t) (array_of (row_in l.rows t))) (46 * (l.number - 1))
    (g.T.Playable.tracks l.initial.tape) (g.T.Playable.tracks l.tape) l.track
    × (g.T.Recordable.rest l.tape ≡ g.T.Recordable.rest l.initial.tape)
