use Rattle.std.proofs.Common.{◌-◌, ap, ◌∙◌, arith}
use Rattle.calls.specs.Laying.{desk}
use Rattle.recorder.specs.Views.{held_in}
use Rattle.recorder.proofs.Resting.{parts-laid}
use Rattle.recorder.proofs.open.OpenRecording.lay_record.Goals as goal

pub returns-else-size-free : goal.returns-else-size-free
returns-else-size-free g c =
    let k = g.C.LineCode.line c.args.code.now in
    let m = c.make_room.ensures in
    let s = c.store_part.ensures in
    let r = c.lay_rest.ensures in
    record {
      desk = parts-laid k (c.free-free.result - 4) c.args.bytes.now
          (desk (held_in c.args.self.now) (g.T.Playable.tracks c.args.tape.now))
          (desk (held_in c.make_room.new.self) (g.T.Playable.tracks c.make_room.new.tape))
          (desk (held_in c.store_part.new.self) (g.T.Playable.tracks c.store_part.new.tape))
          (desk (held_in c.lay_rest.new.self) (g.T.Playable.tracks c.lay_rest.new.tape)) m.desk (ap (λ x. x - 4) c.free-free.ensures) (omega (arith, c.if-size-free.false, c.free-free.ensures)) s.desk r.desk;
      ready = r.ready;
      kept = r.kept ∙ (s.kept ∙ m.kept);
      same = r.same ∙ (s.same ∙ m.same);
    }
