use Rattle.std.proofs.Common.{◌≡◌, ◌≢◌, ◌-◌, refl, rules}
use borrow.Author.Tests.{tests}
use Rattle.std.proofs.lemmas.Iterator.{cases_from_all, YieldsList-from_range}
use Rattle.reed_solomon.specs.Steps.{vsum}
use Rattle.reed_solomon.specs.Words.{syndrome}
use Rattle.reed_solomon.proofs.Ranges.{decides-range}
use Rattle.reed_solomon.proofs.filling.agrees.Goals as goal

pub returns : goal.returns
returns c =
    let word = c.args.word.now in
    let xs = c.args.weights.now in
    let vs = c.args.values.now in
    let k = c.args.k in
    let r = c.args.r in
    decides-range (λ e. syndrome e word ≡ vsum e xs vs) k r c.all.result
    (cases_from_all _ _ _ (λ e. syndrome e word ≡ vsum e xs vs) (λ e. syndrome e word ≢ vsum e xs vs) c.all.ensures.ran (YieldsList-from_range k r (r - k) refl refl)
    (λ e q h. search (rules, tests)) (λ e q h. search (rules, tests)))
