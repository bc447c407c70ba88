use Rattle.std.proofs.Common.{◌≡◌, ◌<◌, ◌≤◌, length, Err, sym, ap, ◌∙◌, subst, rules}
use Rattle.layout.specs.Counts.{which}
use Rattle.losses.specs.declared.fault.ReadFault.TheVariants.{ThirdLoss}
use Rattle.losses.specs.declared.sheet.LossRow.{LossRow}
use Rattle.reading.specs.Groups.{gone_in, answer_of, group_after}
use Rattle.reading.proofs.Lists.{which-places}
use Rattle.reading.proofs.WholeGroup.{few-lost, third-below, place-below, found-third, found-bad, found-whole}
use Rattle.reading.proofs.group.judge_group.Goals as goal

pub overflow_cast-result : goal.overflow_cast-result
overflow_cast-result c = let l : c.in-Some.t < 46 = third-below c.args.sheet.now.rows c.in-Some.t c.in-Some.ensures in search rules

pub returns-in-Some : goal.returns-in-Some
returns-in-Some c =
    let f = found-third c.args.register.tap c.args.register.bits c.args.sheet.now.rows c.args.rows.now c.in-Some.t c.in-Some.ensures in
    record {
      answer = ap (λ (r : LossRow). Err (ThirdLoss c.in-Some.t r)) c.finding.ensures ∙ sym (ap (answer_of c.args.sheet.now.rows) f);
      bytes = sym (ap (λ z. group_after z c.args.group.now) f);
    }

pub fill_words-requires : goal.fill_words-requires
fill_words-requires c =
    let e : c.as_slice.result.now ≡ which (gone_in c.args.sheet.now.rows) 46 = c.as_slice.ensures.value ∙ c.lost_tracks-lost.ensures in
    record {
      places = which-places (gone_in c.args.sheet.now.rows) 46 c.as_slice.result.now e;
      few = subst (λ z. length z ≤ 2) (sym e) (few-lost c.args.sheet.now.rows c.in_default.ensures);
    }

pub overflow_cast-result-in-Some-fill_words : goal.overflow_cast-result-in-Some-fill_words
overflow_cast-result-in-Some-fill_words c =
    let l : c.in-Some-fill_words.p < 4096 = place-below c.as_slice.result.now c.args.rows.now c.fill_words.new.rows c.in-Some-fill_words.p c.in-Some-fill_words.ensures in
    search rules

pub returns-in-Some-fill_words : goal.returns-in-Some-fill_words
returns-in-Some-fill_words c =
    let f =
    found-bad c.args.register.tap c.args.register.bits c.args.sheet.now.rows c.args.rows.now c.as_slice.result.now c.fill_words.new.rows c.in_default.ensures
    (c.as_slice.ensures.value ∙ c.lost_tracks-lost.ensures) c.in-Some-fill_words.p c.in-Some-fill_words.ensures in
    record { answer = sym (ap (answer_of c.args.sheet.now.rows) f); bytes = sym (ap (λ z. group_after z c.args.group.now) f) }

pub returns : goal.returns
returns c =
    let f =
    found-whole c.args.register.tap c.args.register.bits c.args.sheet.now.rows c.args.rows.now c.as_slice.result.now c.fill_words.new.rows c.in_default.ensures
    (c.as_slice.ensures.value ∙ c.lost_tracks-lost.ensures) c.in_default-fill_words.ensures in
    record {
      answer = sym (ap (answer_of c.args.sheet.now.rows) f);
      bytes = c.take_group.ensures ∙ sym (ap (λ z. group_after z c.args.group.now) f);
    }
