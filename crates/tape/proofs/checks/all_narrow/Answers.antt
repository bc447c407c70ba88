use Rattle.std.proofs.Common.{◌<◌, ◌≤◌, ◌&&◌, ltb, length, get_or, sym, refl, ap, ◌∙◌, ap₂, arith}
use Rattle.std.specs.List.{list_all}
use Rattle.std.proofs.lemmas.List.{take_all}
use Rattle.std.proofs.lemmas.List.Folds.{list_all_more, list_all_at}
use Rattle.std.proofs.lemmas.Bool.{lt-ltb, le-ltb}
use Rattle.tape.proofs.checks.all_narrow.Goals as goal

pub loop-word-preserved : goal.loop-word-preserved
loop-word-preserved c =
    let i = c.loop-word.word-index in
    let ws = c.args.words.now in
    let l : i < length ws = omega arith in
    list_all_more (λ w. ltb w 1024) ws i 0 l ∙ ap₂ ◌&&◌ c.loop-word.invariant (lt-ltb (get_or ws i 0) 1024 (omega (arith, c.if-word-ge-WORD_LIMIT.false)))

pub returns-then-word-ge-WORD_LIMIT : goal.returns-then-word-ge-WORD_LIMIT
returns-then-word-ge-WORD_LIMIT c =
    let i = c.loop-word.word-index in
    let ws = c.args.words.now in
    let l : i < length ws = omega arith in
    sym (list_all_at (λ w. ltb w 1024) ws i 0 l (le-ltb (get_or ws i 0) 1024 (omega (arith, c.if-word-ge-WORD_LIMIT.true))))

pub returns : goal.returns
returns c =
    let ws = c.args.words.now in
    sym (ap (list_all (λ w. ltb w 1024)) (sym (take_all c.loop-word.word-index ws (omega arith))) ∙ c.loop-word.invariant)
