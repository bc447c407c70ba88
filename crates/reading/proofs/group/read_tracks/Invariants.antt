use Rattle.reading.specs.Groups.{outcomes, Holds}
use Rattle.reading.proofs.group.read_tracks.Given as goal

abbrev pub invariant-loop-track : goal.invariant-loop-track
invariant-loop-track g l = Holds (outcomes (g.C.LineCode.line l.code) l.number (g.T.Playable.tracks l.tape)) l.rows l.sheet.rows l.track
