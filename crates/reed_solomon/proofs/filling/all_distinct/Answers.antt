use Rattle.std.proofs.Common.{◌≡◌, ℕ, true, false, rules}
use borrow.Author.Tests.{tests}
use Rattle.std.proofs.lemmas.Iterator.{cases_from_all, YieldsList-from_slice}
use Rattle.std.proofs.lemmas.Iterator.Consumers.{YieldsList-from_enumerate}
use Rattle.reed_solomon.proofs.PlaceLists.{is_before, decides-distinct}
use Rattle.reed_solomon.proofs.filling.all_distinct.Goals as goal

pub returns : goal.returns
returns c =
    let ps = c.args.places.now in
    decides-distinct ps c.all.result
    (cases_from_all _ _ _ (λ (q : ℕ × ℕ). is_before ps q.0 q.1 ≡ false) (λ (q : ℕ × ℕ). is_before ps q.0 q.1 ≡ true) c.all.ensures.ran
    (YieldsList-from_enumerate (YieldsList-from_slice ps cc) cc) (λ x q h. search (rules, tests)) (λ x q h. search (rules, tests)))
