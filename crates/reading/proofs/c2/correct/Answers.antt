use Rattle.std.proofs.Common.{◌≡◌, ◌<◌, sym, refl, subst, arith}
use Rattle.layout.specs.Words.{Array}
use Rattle.reading.specs.Arrays.{erased_in, array_in, Found}
use Rattle.losses.specs.declared.sheet.LossRow.{LossRow}
use Rattle.losses.specs.Losses.{cause_number}
use Rattle.reading.proofs.Causes.{loss-number, read_number}
use Rattle.reading.proofs.InOrder.{left-start, left_in, left_step, left-fail, left_out, left_end}
use Rattle.reading.proofs.c2.correct.Goals as goal

pub words-init : goal.words-init
words-init c = (left-start (erased_in c.args.lost.now.marks) (array_in c.args.array.now) c.args.array.now (λ b s hb hs. refl), refl)

pub loop-n-init : goal.loop-n-init
loop-n-init c = (λ x l. l, c.words.invariant.1)

pub loop-n-preserved : goal.loop-n-preserved
loop-n-preserved c = (
  λ x l.
      let read : cause_number c.fill_word-cause.result ≡ 0 = read_number c.fill_word-cause.result c.if-is_some.ensures in
      left_step (erased_in c.args.lost.now.marks) x c.loop-n.array c.words.m c.loop-n.n c.words-test.true (subst (λ z. c.loop-n.n < z) c.width-n-end.ensures.is c.loop-n-test.true)
      (c.loop-n.invariant.0 x l) c.fill_word-cause.new.array (cause_number c.fill_word-cause.result) read c.fill_word-cause.ensures.cause
      (c.fill_word-cause.ensures.here read),
  c.loop-n.invariant.1,
)

pub words-preserved : goal.words-preserved
words-preserved c =
    let x : Array = array_in c.args.array.now in (
      left_out (erased_in c.args.lost.now.marks) x c.loop-n.array c.words.m c.loop-n.n (omega (arith, c.width-n-end.ensures.is, c.loop-n.auto.n-end, c.loop-n-test.false))
          (c.loop-n.invariant.0 x (left_in (erased_in c.args.lost.now.marks) x c.words.array c.words.m c.words-test.true c.words.invariant.0)),
      c.loop-n.invariant.1,
    )

pub returns-after-words : goal.returns-after-words
returns-after-words c =
    subst (λ (r : LossRow). Found (erased_in c.args.lost.now.marks) (array_in c.args.array.now) c.words.array (cause_number r.cause, r.m, r.n)) (sym c.words.invariant.1)
    (left_end (erased_in c.args.lost.now.marks) (array_in c.args.array.now) c.words.array c.words.m (omega (arith, c.words.auto.m-end, c.words-test.false)) c.words.invariant.0)

pub returns-then-is_some : goal.returns-then-is_some
returns-then-is_some c =
    let x : Array = array_in c.args.array.now in
    left-fail (erased_in c.args.lost.now.marks) x c.loop-n.array c.words.m c.loop-n.n c.words-test.true (subst (λ z. c.loop-n.n < z) c.width-n-end.ensures.is c.loop-n-test.true)
    (c.loop-n.invariant.0 x (left_in (erased_in c.args.lost.now.marks) x c.words.array c.words.m c.words-test.true c.words.invariant.0)) c.fill_word-cause.new.array c.args.lost.now.marks
    (cause_number c.fill_word-cause.result) c.fill_word-cause.ensures.cause (loss-number c.fill_word-cause.result c.if-is_some.ensures)
