use Rattle.std.proofs.Common.{◌≡◌, length}
use Rattle.calls.specs.Laying.{desk}
use Rattle.recorder.specs.Views.{held_in, Ready}
use Rattle.recorder.proofs.Resting.{Resting}
use Rattle.recorder.proofs.open.OpenRecording.lay_rest.Given as goal

abbrev pub invariant-loop-rest : goal.invariant-loop-rest
invariant-loop-rest g l =
    Resting (g.C.LineCode.line l.code) l.total l.initial.rest l.rest
    (desk (held_in l.initial.self) (g.T.Playable.tracks l.initial.tape)) (desk (held_in l.self) (g.T.Playable.tracks l.tape))
    × Ready (desk (held_in l.self) (g.T.Playable.tracks l.tape))
    × (g.T.Recordable.rest l.tape ≡ g.T.Recordable.rest l.initial.tape)
    × (l.self.group.ghost_name ≡ l.initial.self.group.ghost_name)

abbrev pub decreases-loop-rest : goal.decreases-loop-rest
decreases-loop-rest g l = length l.rest
