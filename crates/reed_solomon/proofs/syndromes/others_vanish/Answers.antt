use Rattle.std.proofs.Common.{◌≡◌, ◌≢◌, ◌-◌, refl, rules}
use borrow.Author.Tests.{tests}
use Rattle.std.proofs.lemmas.Iterator.{cases_from_all, YieldsList-from_range}
use Rattle.reed_solomon.specs.Words.{syndrome}
use Rattle.reed_solomon.proofs.Ranges.{decides-range}
use Rattle.reed_solomon.proofs.syndromes.others_vanish.Goals as goal

pub returns : goal.returns
returns c =
    let word = c.args.word.now in
    let k = c.args.k in
    let r = c.args.r in
    decides-range (λ e. syndrome e word ≡ 0) k r c.all.result
    (cases_from_all _ _ _ (λ e. syndrome e word ≡ 0) (λ e. syndrome e word ≢ 0) c.all.ensures.ran (YieldsList-from_range k r (r - k) refl refl)
    (λ e q h. search (rules, tests)) (λ e q h. search (rules, tests)))
