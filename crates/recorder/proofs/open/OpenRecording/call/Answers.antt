use Rattle.std.proofs.Common.{◌≡◌, length, sym, ap, ◌∙◌, subst}
use Rattle.laying.specs.Calls.{Call, Call.record', Sends}
use Rattle.runs.specs.Run.{Lent}
use Rattle.calls.specs.Laying.{desk}
use Rattle.calls.specs.Lists.{answer_to, done_to}
use Rattle.recorder.specs.Views.{held_in}
use Rattle.recorder.specs.Asking.{call_of, spent}
use Rattle.recorder.proofs.open.OpenRecording.call.Goals as goal

pub returns-in-Record : goal.returns-in-Record
returns-in-Record g c =
    let k = g.C.LineCode.line c.args.code.now in
    let m : Lent = record { track = length c.args.buffer.now; bench = length c.args.bench.now } in
    let d = desk (held_in c.args.self.now) (g.T.Playable.tracks c.args.tape.now) in
    let e : record' c.in-Record.bytes.now ≡ call_of c.args.call = sym (ap call_of c.in-Record.is) in
    let r = c.record.ensures in
    record {
      answer = r.answer ∙ ap (λ (a : Call). answer_to m a d) e;
      desk = r.desk ∙ ap (λ (a : Call). done_to k m a d) e;
      kept = r.kept;
      bench = r.bench ∙ ap (λ (a : Call). spent m a d c.args.bench.now) e;
      buffer = r.buffer ∙ ap (λ (a : Call). spent m a d c.args.buffer.now) e;
      same = r.same;
      sends = subst Sends e c.are_bytes.ensures;
    }
