use Rattle.std.proofs.Common.{refl}
use Rattle.recorder.specs.Views.{held_in}
use Rattle.recorder.proofs.Desks.{desk-stored, ready-stored}
use Rattle.recorder.proofs.open.OpenRecording.go_on.Goals as goal

pub returns : goal.returns
returns g c =
    let k = g.C.LineCode.line c.args.code.now in
    let h = held_in c.args.self.now in
    let ts = g.T.Playable.tracks c.args.tape.now in
    let s = c.store.ensures in
    record {
      desk = desk-stored k h ts _ _ _ s.group c.turned-self.ensures s.tape;
      ready = ready-stored k h ts _ _ _ s.group c.turned-self.ensures s.tape c.requires.ready;
      kept = s.kept;
      same = refl;
    }
