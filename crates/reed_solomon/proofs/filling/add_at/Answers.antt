use Rattle.std.proofs.Common.{length, sym, ◌∙◌, arith}
use Rattle.std.proofs.lemmas.List.{drop_all, length_push}
use Rattle.std.proofs.lemmas.Slice.Zip.{zip_turn, zip_end}
use Rattle.reed_solomon.proofs.Sums.{patch-more, patch-end}
use Rattle.reed_solomon.proofs.filling.add_at.Goals as goal

pub loop-p-preserved : goal.loop-p-preserved
loop-p-preserved c =
    let ps = c.args.places.now in
    let vs = c.args.values.now in
    let done = c.loop-p.yielded in
    let t = zip_turn ps vs done c.into_iter-p-iterator.result c.loop-p.p-iterator c.next.new.self c.next.result (cc) (cc) c.loop-p.yielded_by (c.in-Some.p, c.in-Some.v) c.in-Some.is c.next.ensures.steps in
    patch-more (length done) _ c.in-Some.p.now c.in-Some.v.now c.loop-p.word ps vs t.0 t.1 (t.2 0) (t.3 0) (length_push done _) ∙ c.loop-p.invariant

pub returns : goal.returns
returns c =
    let ps = c.args.places.now in
    let vs = c.args.values.now in
    let n = zip_end ps vs c.loop-p.yielded c.into_iter-p-iterator.result c.loop-p.p-iterator c.next.new.self c.next.result (cc) (cc) c.loop-p.yielded_by c.in-None.is c.next.ensures.steps in
    sym (patch-end (length c.loop-p.yielded) c.loop-p.word ps vs (drop_all (length c.loop-p.yielded) ps (omega (arith, n, c.requires.values_len)))) ∙ c.loop-p.invariant
