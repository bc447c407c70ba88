use Rattle.std.proofs.Common.{ℕ, length, ◌∙◌, ap₂, arith}
use Rattle.runs.specs.Run.{Lent}
use Rattle.calls.specs.Laying.{desk}
use Rattle.recorder.specs.Views.{held_in}
use Rattle.recorder.proofs.Asking.{going_on, going-ends}
use Rattle.recorder.proofs.open.OpenRecording.call_all.Goals as goal

pub loop-asked-preserved : goal.loop-asked-preserved
loop-asked-preserved g c =
    let k = g.C.LineCode.line c.args.code.now in
    let i = c.loop-asked.invariant in
    let s = c.call-asked.ensures in
    let lent : ℕ → ℕ → Lent = λ t b. record { track = t; bench = b } in (
      going_on k (lent (length c.args.buffer.now) (length c.args.bench.now)) (lent (length c.loop-asked.buffer) (length c.loop-asked.bench)) c.loop-asked.asked-index c.args.list.now c.loop-asked.list
          (desk (held_in c.args.self.now) (g.T.Playable.tracks c.args.tape.now))
          (desk (held_in c.loop-asked.self) (g.T.Playable.tracks c.loop-asked.tape))
          (desk (held_in c.call-asked.new.self) (g.T.Playable.tracks c.call-asked.new.tape))
          _ _ _ _ _ _ _ c.call-asked.result i.0 (ap₂ lent i.4 i.3) (omega (arith, c.loop-asked-test.true, c.loop-asked.auto.list)) s.answer s.desk s.bench s.buffer s.sends,
      s.kept ∙ i.1,
      s.same ∙ i.2,
      c.call-asked.auto.bench ∙ i.3,
      c.call-asked.auto.buffer ∙ i.4,
    )

pub returns : goal.returns
returns g c =
    let k = g.C.LineCode.line c.args.code.now in
    let i = c.loop-asked.invariant in
    let e =
    going-ends k (record { track = length c.args.buffer.now; bench = length c.args.bench.now }) c.loop-asked.asked-index c.args.list.now c.loop-asked.list
    (desk (held_in c.args.self.now) (g.T.Playable.tracks c.args.tape.now)) (desk (held_in c.loop-asked.self) (g.T.Playable.tracks c.loop-asked.tape))
    c.args.bench.now c.loop-asked.bench c.args.buffer.now c.loop-asked.buffer i.0 (omega (arith, c.loop-asked-test.false, c.loop-asked.auto.list)) in
    record {
      desk = e.desk;
      calls = i.0.calls;
      answers = e.answers;
      kept = i.1;
      bench = e.bench;
      buffer = e.buffer;
      same = i.2;
      sends = e.sends;
    }
