use Rattle.std.proofs.Common.{length, refl, subst, arith}
use Rattle.reed_solomon.specs.Words.{Filled}
use Rattle.reed_solomon.proofs.Cycle.{filled-all}
use Rattle.reed_solomon.proofs.PlaceLists.{few-places}
use Rattle.reed_solomon.proofs.filling.fill.Goals as goal

pub fill_places-requires : goal.fill_places-requires
fill_places-requires c =
    let w = c.if-not-all_within.ensures.0 refl in
    let d = c.if-not-all_distinct.ensures.0 refl in
    record {
      size = c.if-word-gt255.false;
      places = record { within = w; once = d };
      few = omega (arith, few-places (length c.args.word.now) c.args.lost.now w d, c.min.ensures);
    }

pub returns : goal.returns
returns c =
    let w = c.if-not-all_within.ensures.0 refl in
    let d = c.if-not-all_distinct.ensures.0 refl in
    let b = c.args.word.now in
    let ps = c.args.lost.now in (
      record { size = c.if-word-gt255.false; places = record { within = w; once = d }; few = c.if-lost-r.false },
      filled-all c.args.r ps b c.fill_places.new.word (subst (λ m. Filled m ps b c.fill_places.new.word) c.min.ensures c.in_ok-fill_places.ensures.ok),
    )
