use Rattle.std.proofs.Common.{ℕ, suc, length, Err, Result, sym, refl, ap, ◌∙◌, add-one, arith}
use Rattle.std.proofs.lemmas.Result.{err_from_is_err_and}
use Rattle.index.specs.declared.fault.IndexFault.{IndexFault}
use Rattle.index.specs.declared.tally.Tally.{Tally}
use Rattle.index.specs.Walk.{next}
use Rattle.index.specs.Contents.{meant}
use Rattle.index.specs.Cursors.{cursor_of, remaining}
use Rattle.index.specs.Counted.{tallied, Grown}
use Rattle.index.proofs.Growing.{stepped-grown}
use Rattle.index.proofs.Turning.{turn-sound, turn-left, turn-place, turn-bytes, last_turn, more_turn, no-turn}
use Rattle.index.proofs.walk.groups.walk_entries.Goals as goal

pub loop-entry-init : goal.loop-entry-init
loop-entry-init c = (c.requires.sound, refl, c.requires.starts.used, omega arith, refl, omega arith, omega arith, omega arith)

pub close-requires : goal.close-requires
close-requires c =
    let i = c.loop-entry.invariant in
    record {
      sum = omega (arith, c.requires.starts.sum, i.0.place);
      used = omega (arith, i.0.place);
      items = omega (arith, c.requires.starts.items, c.requires.sound.room, c.requires.sound.long);
      ones = omega (arith, c.requires.starts.ones, c.requires.sound.room, c.requires.sound.long);
      twos = omega (arith, c.requires.starts.twos, c.requires.sound.room, c.requires.sound.long);
    }

pub returns-in_err-close : goal.returns-in_err-close
returns-in_err-close c =
    let i = c.loop-entry.invariant in
    let n = c.in-Some.ensures.steps in
    let p = err_from_is_err_and c.from_residual.result c.from_residual.ensures.1 in
    p.1 ∙ (ap Err p.2 ∙ (c.in_err-close.ensures
    ∙ (sym (last_turn c.args.limit c.loop-entry.number c.loop-entry.tally (cursor_of c.loop-entry.reader) (cursor_of c.next.new.self) (meant c.in-Some.entry)
    i.0 n.answer.0 n.answer.1 n.after (sym c.left.ensures ∙ c.if-left-eq0.true))
    ∙ i.1)))

pub returns-then-left-eq0 : goal.returns-then-left-eq0
returns-then-left-eq0 c =
    let i = c.loop-entry.invariant in
    let n = c.in-Some.ensures.steps in
    c.in_ok-close.ensures
    ∙ (sym (last_turn c.args.limit c.loop-entry.number c.loop-entry.tally (cursor_of c.loop-entry.reader) (cursor_of c.next.new.self) (meant c.in-Some.entry)
    i.0 n.answer.0 n.answer.1 n.after (sym c.left.ensures ∙ c.if-left-eq0.true))
    ∙ i.1)

pub step-requires : goal.step-requires
step-requires c =
    let i = c.loop-entry.invariant in
    let n = c.in-Some.ensures.steps in
    let b = turn-bytes c.args.limit c.loop-entry.number c.loop-entry.tally (cursor_of c.loop-entry.reader) (cursor_of c.next.new.self) (meant c.in-Some.entry)
    i.0 n.answer.0 n.answer.1 n.after in
    record {
      small = record {
        sum = omega (arith, c.requires.starts.sum, i.0.place);
        used = omega (arith, i.0.place);
        items = omega (arith, c.requires.starts.items, c.requires.sound.room, c.requires.sound.long);
        ones = omega (arith, c.requires.starts.ones, c.requires.sound.room, c.requires.sound.long);
        twos = omega (arith, c.requires.starts.twos, c.requires.sound.room, c.requires.sound.long);
      };
      part = omega arith;
    }

pub returns-in_err-step : goal.returns-in_err-step
returns-in_err-step c =
    let i = c.loop-entry.invariant in
    let n = c.in-Some.ensures.steps in
    let d = cursor_of c.next.new.self in
    let p = err_from_is_err_and c.from_residual-in_err-step.result c.from_residual-in_err-step.ensures.1 in
    p.1 ∙ (ap Err p.2
    ∙ (ap (λ (x : Result Tally IndexFault). next x (λ u. tallied c.args.limit (suc c.loop-entry.number) u (remaining d))) c.in_err-step.ensures
    ∙ (sym (more_turn c.args.limit c.loop-entry.number c.loop-entry.tally (cursor_of c.loop-entry.reader) d (meant c.in-Some.entry)
    i.0 n.answer.0 n.answer.1 n.after (λ z. c.if-left-eq0.false (c.left.ensures ∙ z)))
    ∙ i.1)))

pub overflow_add-number : goal.overflow_add-number
overflow_add-number c = let i = c.loop-entry.invariant in omega (arith, c.requires.sound.room, c.requires.sound.long)

pub loop-entry-preserved : goal.loop-entry-preserved
loop-entry-preserved c =
    let i = c.loop-entry.invariant in
    let n = c.in-Some.ensures.steps in
    let a = cursor_of c.loop-entry.reader in
    let d = cursor_of c.next.new.self in
    let m = meant c.in-Some.entry in
    let k = c.loop-entry.number in
    let t = c.loop-entry.tally in
    let s = c.in_ok-step.ensures in
    let g : Grown t c.step.new.self (length m.bytes) = stepped-grown c.args.limit k t c.step.new.self m (sym s) in
    let l = turn-left c.args.limit k t a d m i.0 n.answer.0 n.answer.1 n.after in
    let p = turn-place c.args.limit k t a d m i.0 n.answer.0 n.answer.1 n.after in (
      turn-sound c.args.limit k t a d m i.0 n.answer.0 n.answer.1 n.after,
      ap (λ (x : ℕ). tallied c.args.limit x c.step.new.self (remaining d)) (add-one k)
          ∙ (ap (λ (x : Result Tally IndexFault). next x (λ u. tallied c.args.limit (suc k) u (remaining d))) s
          ∙ (sym (more_turn c.args.limit k t a d m i.0 n.answer.0 n.answer.1 n.after (λ z. c.if-left-eq0.false (c.left.ensures ∙ z))) ∙ i.1)),
      omega arith,
      omega arith,
      omega arith,
      omega arith,
      omega arith,
      omega arith,
    )

pub returns : goal.returns
returns c =
    let i = c.loop-entry.invariant in
    sym (sym i.1 ∙ no-turn c.args.limit c.loop-entry.number c.loop-entry.tally (cursor_of c.loop-entry.reader) i.0 c.in_default.ensures.steps.answer)
