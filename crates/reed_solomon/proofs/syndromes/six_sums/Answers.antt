use Rattle.std.proofs.Common.{◌<◌, get_or, ◌∙◌, arith, rules}
use Rattle.std.proofs.lemmas.List.{get_or-replicate}
use Rattle.reed_solomon.specs.Words.{syndrome}
use Rattle.reed_solomon.proofs.Sums.{syn-more}
use Rattle.reed_solomon.proofs.syndromes.six_sums.Goals as goal

pub loop-byte-init : goal.loop-byte-init
unfolding syndrome
loop-byte-init c = λ e h. get_or-replicate 6 e 0 0 h

pub loop-byte-preserved : goal.loop-byte-preserved
loop-byte-preserved c =
    let word = c.args.word.now in
    let i = c.loop-byte.byte-index in
    let byte : get_or word i 0 < 256 = search rules in
    λ e h. c.add_byte.ensures e h ∙ syn-more e i (get_or c.loop-byte.sums e 0) word (omega arith) byte (c.loop-byte.invariant e h)
