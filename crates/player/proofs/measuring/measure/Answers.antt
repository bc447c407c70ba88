use Rattle.std.proofs.Common.{length, ap, arith}
use Rattle.index.specs.Contents.{meant}
use Rattle.index.specs.Cursors.{cursor_of, remaining}
use Rattle.player.specs.Shelves.{size_in, finished_in}
use Rattle.player.proofs.Turns.{turn-sound, turn-left, turn-place, turn-few, turn-size, turn-finished, end-size, end-finished}
use Rattle.player.proofs.measuring.measure.Goals as goal

pub loop-entry-preserved : goal.loop-entry-preserved
loop-entry-preserved c =
    let i = c.loop-entry.invariant in
    let n = c.in-Some.ensures.steps in
    let a = cursor_of c.loop-entry.entry-iterator in
    let d = cursor_of c.next.new.self in
    let p = meant c.in-Some.entry in
    let l = ap length c.part_of.ensures in
    let f = c.finished-rows.ensures in
    let few = turn-few a d p i.0 n.answer.0 n.answer.1 n.after in
    let left = turn-left a d p i.0 n.answer.0 n.answer.1 n.after in
    let place = turn-place a d p i.0 n.answer.0 n.answer.1 n.after in
    let size = turn-size a d p i.0 n.answer.0 n.answer.1 n.after in
    let finished = turn-finished a d p i.0 n.answer.0 n.answer.1 n.after in (
      turn-sound a d p i.0 n.answer.0 n.answer.1 n.after,
      omega (arith, i.1),
      omega (arith, i.2),
      omega (arith, i.3),
      omega (arith, i.4),
    )

pub returns : goal.returns
returns c =
    let i = c.loop-entry.invariant in
    let s = end-size (cursor_of c.loop-entry.entry-iterator) i.0 c.in-None.ensures.steps.answer in
    let f = end-finished (cursor_of c.loop-entry.entry-iterator) i.0 c.in-None.ensures.steps.answer in
    let r = c.into_iter-entry-iterator.ensures.into_iter_gives in
    record {
      bytes = omega (arith, i.1, ap (λ r. size_in (remaining (cursor_of r))) r);
      rows = omega (arith, i.2, ap (λ r. finished_in (remaining (cursor_of r))) r);
    }
