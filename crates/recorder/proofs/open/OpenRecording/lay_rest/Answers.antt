use Rattle.std.proofs.Common.{◌-◌, [], sym, ap, ◌∙◌, arith}
use Rattle.index.specs.declared.kind.Kind.TheVariants.{Total}
use Rattle.calls.specs.Laying.{desk}
use Rattle.recorder.specs.Views.{held_in}
use Rattle.recorder.proofs.Resting.{resting-more, rest-ends}
use Rattle.recorder.proofs.Desks.{laid-then-total, ready-put}
use Rattle.recorder.proofs.open.OpenRecording.lay_rest.Goals as goal

pub loop-rest-preserved : goal.loop-rest-preserved
loop-rest-preserved g c =
    let k = g.C.LineCode.line c.args.code.now in
    let i = c.loop-rest.invariant in
    let s = c.store_part.ensures in (
      resting-more k c.args.total (c.free-part.result - 4) c.args.rest.now c.loop-rest.rest.now _ _ _ i.0
          (omega (arith, c.loop-rest-test.true, c.free.ensures)) (ap (λ x. x - 4) c.free-part.ensures) s.desk,
      s.ready,
      s.kept ∙ i.2,
      s.same ∙ i.3,
    )

pub returns : goal.returns
returns g c =
    let k = g.C.LineCode.line c.args.code.now in
    let i = c.loop-rest.invariant in
    let r = c.make_room.ensures in
    let rest = c.loop-rest.rest.now in
    record {
      desk =
          laid-then-total k c.args.total rest (held_in c.loop-rest.self) (g.T.Playable.tracks c.loop-rest.tape) _ _ _ _ c.put.ensures.held r.desk c.put-2.ensures.held
          ∙ (sym (rest-ends k c.args.total rest (desk (held_in c.loop-rest.self) (g.T.Playable.tracks c.loop-rest.tape)) i.0.some (omega (arith, c.loop-rest-test.false, c.free.ensures))) ∙ i.0.laid);
      ready = ready-put Total c.args.total [] _ _ _ c.put-2.ensures.held c.put-2.ensures.size r.ready;
      kept = r.kept ∙ i.2;
      same = c.put-2.ensures.same ∙ (r.same ∙ (c.put.ensures.same ∙ i.3));
    }
