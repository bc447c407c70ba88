use Rattle.std.proofs.Common.{sym, ap, ◌∙◌, subst}
use Rattle.index.specs.Contents.{meant}
use Rattle.index.specs.Cursors.{cursor_of, remaining}
use Rattle.player.specs.Shelves.{Shelf, shelf, laid_all, Fits}
use Rattle.player.proofs.Turns.{turn-sound, turn-fits, turn-laid, end-laid}
use Rattle.player.proofs.giving.Giving.take_all.Goals as goal

pub take-requires : goal.take-requires
take-requires c =
    let i = c.loop-entry.invariant in
    let n = c.in-Some.ensures.steps in
    (turn-fits (cursor_of c.loop-entry.entry-iterator) (cursor_of c.next.new.self) (meant c.in-Some.entry) i.0 n.answer.0 n.answer.1 n.after
    (shelf c.loop-entry.self c.loop-entry.output c.loop-entry.rows) i.1).0

pub loop-entry-preserved : goal.loop-entry-preserved
loop-entry-preserved c =
    let i = c.loop-entry.invariant in
    let n = c.in-Some.ensures.steps in
    let a = cursor_of c.loop-entry.entry-iterator in
    let d = cursor_of c.next.new.self in
    let p = meant c.in-Some.entry in
    let x = shelf c.loop-entry.self c.loop-entry.output c.loop-entry.rows in
    let e = c.take.ensures in (
      turn-sound a d p i.0 n.answer.0 n.answer.1 n.after,
      subst (λ (y : Shelf). Fits y (remaining d)) (sym e) (turn-fits a d p i.0 n.answer.0 n.answer.1 n.after x i.1).1,
      ap (λ (y : Shelf). laid_all y (remaining d)) e ∙ (sym (turn-laid a d p i.0 n.answer.0 n.answer.1 n.after x) ∙ i.2),
    )

pub returns : goal.returns
returns c =
    let i = c.loop-entry.invariant in
    sym (end-laid (cursor_of c.loop-entry.entry-iterator) i.0 c.in-None.ensures.steps.answer (shelf c.loop-entry.self c.loop-entry.output c.loop-entry.rows)) ∙ i.2
    ∙ ap (λ r. laid_all (shelf c.args.self.now c.args.output.now c.args.rows.now) (remaining (cursor_of r))) c.into_iter-entry-iterator.ensures.into_iter_gives
