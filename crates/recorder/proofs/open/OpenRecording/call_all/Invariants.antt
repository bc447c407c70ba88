use Rattle.std.proofs.Common.{◌≡◌, length}
use Rattle.calls.specs.Laying.{desk}
use Rattle.recorder.specs.Views.{held_in}
use Rattle.recorder.proofs.Asking.{Going}
use Rattle.recorder.proofs.open.OpenRecording.call_all.Given as goal

abbrev pub invariant-loop-asked : goal.invariant-loop-asked
invariant-loop-asked g l =
    Going (g.C.LineCode.line l.code)
    (record { track = length l.initial.buffer; bench = length l.initial.bench }) l.asked-index l.initial.list l.list
    (desk (held_in l.initial.self) (g.T.Playable.tracks l.initial.tape)) (desk (held_in l.self) (g.T.Playable.tracks l.tape))
    l.initial.bench l.bench l.initial.buffer l.buffer
    × (g.T.Recordable.rest l.tape ≡ g.T.Recordable.rest l.initial.tape)
    × (l.self.group.ghost_name ≡ l.initial.self.group.ghost_name)
    × (length l.bench ≡ length l.initial.bench)
    × (length l.buffer ≡ length l.initial.buffer)
