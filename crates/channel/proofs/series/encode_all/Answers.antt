use Rattle.std.proofs.Common.{length, Some, sym, ap, ◌∙◌}
use Rattle.std.proofs.lemmas.List.{length-set}
use Rattle.std.proofs.lemmas.Bool.{eq-eqb, cond-true}
use Rattle.channel.proofs.Turns.{words_more, state-more, words-all, state-all}
use Rattle.channel.proofs.series.encode_all.Goals as goal

pub loop-i-preserved : goal.loop-i-preserved
loop-i-preserved g c =
    let f = (g.C.LineCode.line c.args.code.now).encode in
    let bs = c.args.bytes.now in
    let i = c.loop-i.i in
    let r = c.encode-word.result in
    let e = c.encode-word.ensures in (
      length-set _ _ _ ∙ c.loop-i.invariant.0,
      words_more f bs c.loop-i.words _ c.loop-i.current i r e c.loop-i-test.true c.loop-i.invariant.0 c.loop-i.invariant.1,
      state-more f bs c.loop-i.current _ i r e c.loop-i-test.true c.loop-i.invariant.2,
    )

pub returns : goal.returns
returns g c =
    let f = (g.C.LineCode.line c.args.code.now).encode in
    let bs = c.args.bytes.now in
    let t = eq-eqb (length bs) (length c.args.words.now) c.if-bytes-words.false in
    record {
      answer = ap Some (state-all f bs c.loop-i.current _ c.loop-i.i c.loop-i-test.false c.loop-i.invariant.2) ∙ sym (cond-true _ _ _ t);
      held = words-all f bs c.loop-i.words _ c.loop-i.current c.loop-i.i c.loop-i-test.false c.loop-i.invariant.0 c.loop-i.invariant.1 ∙ sym (cond-true _ _ _ t);
    }
