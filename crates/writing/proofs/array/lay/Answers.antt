use Rattle.std.proofs.Common.{◌<◌, length, ◌∙◌, arith, rules, length-append}
use Rattle.std.proofs.lemmas.Slice.Zip.{zip_turn, zip_end}
use Rattle.layout.proofs.Placing.{fits}
use Rattle.writing.proofs.Laid.{laid-more, laid-all}
use Rattle.writing.proofs.array.lay.Goals as goal

pub bounds-array-place : goal.bounds-array-place
bounds-array-place c =
    let t = zip_turn c.args.row.now c.args.places.now.of c.loop-byte.yielded c.into_iter-byte-iterator.result c.loop-byte.byte-iterator c.next.new.self c.next.result
    (search rules) (search rules) c.loop-byte.yielded_by (c.in-Some.byte, c.in-Some.place) c.in-Some.is c.next.ensures.steps in
    let f = fits (length c.loop-byte.yielded) (omega (arith, t.0, c.told-row)) in
    omega (arith, f.0, f.1, t.3 0, c.args.places.now.at (length c.loop-byte.yielded) (omega (arith, t.0, c.told-row)))

pub loop-byte-preserved : goal.loop-byte-preserved
loop-byte-preserved c =
    let t = zip_turn c.args.row.now c.args.places.now.of c.loop-byte.yielded c.into_iter-byte-iterator.result c.loop-byte.byte-iterator c.next.new.self c.next.result
    (search rules) (search rules) c.loop-byte.yielded_by (c.in-Some.byte, c.in-Some.place) c.in-Some.is c.next.ensures.steps in
    let l : length c.loop-byte.yielded < 2912 = omega (arith, t.0, c.told-row) in
    rw length-append
    (laid-more c.args.row.now c.loop-byte.array (length c.loop-byte.yielded) c.in-Some.place.now c.in-Some.byte.now l (omega arith)
    (t.3 0 ∙ c.args.places.now.at (length c.loop-byte.yielded) l) (t.2 0) c.loop-byte.invariant)

pub returns : goal.returns
returns c =
    let e = zip_end c.args.row.now c.args.places.now.of c.loop-byte.yielded c.into_iter-byte-iterator.result c.loop-byte.byte-iterator c.next.new.self c.next.result
    (search rules) (search rules) c.loop-byte.yielded_by c.in-None.is c.next.ensures.steps in
    laid-all c.args.row.now c.loop-byte.array (length c.loop-byte.yielded) (omega arith) c.loop-byte.invariant
