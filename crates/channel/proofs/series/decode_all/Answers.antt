use Rattle.std.proofs.Common.{length, sym, ◌∙◌}
use Rattle.std.proofs.lemmas.List.{length-set}
use Rattle.std.proofs.lemmas.Bool.{eq-eqb, and_from}
use Rattle.channel.specs.Listed.{or_zero, is_lost}
use Rattle.channel.proofs.Turns.{decoded-more, decoded-all, or_zero-is, is_lost-is}
use Rattle.channel.proofs.series.decode_all.Goals as goal

pub loop-i-preserved : goal.loop-i-preserved
loop-i-preserved g c =
    let k = (g.C.LineCode.line c.args.code.now).decode in
    let ws = c.args.words.now in
    let i = c.loop-i.i in
    let d = c.decode-byte.ensures in
    let l = c.loop-i-test.true in (
      length-set _ _ _ ∙ c.loop-i.invariant.0,
      length-set _ _ _ ∙ c.loop-i.invariant.1,
      decoded-more or_zero k ws c.loop-i.bytes i _ _ l c.loop-i.invariant.0 c.loop-i.invariant.2 (c.unwrap_or.ensures ∙ or_zero-is c.decode-byte.result) d,
      decoded-more is_lost k ws c.loop-i.lost i _ _ l c.loop-i.invariant.1 c.loop-i.invariant.3 (is_lost-is c.decode-byte.result c.is_none.result c.is_none.ensures) d,
    )

pub returns : goal.returns
returns g c =
    let k = (g.C.LineCode.line c.args.code.now).decode in
    let ws = c.args.words.now in
    let l = c.loop-i-test.false in
    let p = eq-eqb (length c.args.bytes.now) (length ws) c.if-bytes-words.false in
    let q = eq-eqb (length c.args.lost.now) (length ws) c.if-lost-words.false in
    record {
      answer = sym (and_from _ _ p q);
      held = decoded-all or_zero k ws c.loop-i.bytes c.loop-i.i l c.loop-i.invariant.0 c.loop-i.invariant.2;
      marked = decoded-all is_lost k ws c.loop-i.lost c.loop-i.i l c.loop-i.invariant.1 c.loop-i.invariant.3;
    }
