use Rattle.std.proofs.Common.{◌≡◌, not, Ok, Err, is_ok, is_err, Result, sym, refl, ap, ◌∙◌, subst}
use Rattle.reed_solomon.specs.declared.fault.Unfillable.{Unfillable}
use Rattle.reading.specs.Groups.{Column}
use Rattle.reading.proofs.CrossWords.{columns-start, columns-more, columns-fail, columns-end}
use Rattle.reading.proofs.c3.fill_words.Goals as goal

ok-is : (a : Result (Unit {0}) Unfillable) → is_ok a ≡ not (is_err a)
ok-is (Ok _) = refl
ok-is (Err _) = refl

pub loop-p-init : goal.loop-p-init
loop-p-init c = columns-start c.args.lost.now c.args.rows.now

pub returns-then-is_err : goal.returns-then-is_err
returns-then-is_err c =
    columns-fail c.args.lost.now c.args.rows.now c.loop-p.rows c.fill_place.new.rows c.loop-p.p c.loop-p-test.true c.loop-p.invariant
    (subst (Column c.args.lost.now c.loop-p.rows c.fill_place.new.rows c.loop-p.p) (ok-is c.fill_place.result ∙ ap not (sym c.is_err.ensures.value ∙ c.if-is_err.true)) c.fill_place.ensures)

pub loop-p-preserved : goal.loop-p-preserved
loop-p-preserved c =
    columns-more c.args.lost.now c.args.rows.now c.loop-p.rows c.fill_place.new.rows c.loop-p.p c.loop-p-test.true c.loop-p.invariant
    (subst (Column c.args.lost.now c.loop-p.rows c.fill_place.new.rows c.loop-p.p) (ok-is c.fill_place.result ∙ ap not (sym c.is_err.ensures.value ∙ c.if-is_err.false)) c.fill_place.ensures)

pub returns : goal.returns
returns c = columns-end c.args.lost.now c.args.rows.now c.loop-p.rows c.loop-p.p c.loop-p-test.false c.loop-p.invariant
