use Rattle.std.proofs.Common.{◌≡◌, ℕ, ◌<◌, [], get_or, fold, ap, ◌∙◌, rules}
use lib.Bits.{bit_xor}
use Rattle.galois.specs.Galois.{gmul}
use Rattle.reed_solomon.specs.Words.{syndrome}
use Rattle.reed_solomon.proofs.Recursion.{bytes-from}
use Rattle.reed_solomon.proofs.Sums.{syn-fold}
use Rattle.reed_solomon.proofs.syndromes.evaluate.Goals as goal

pub returns : goal.returns
unfolding syndrome
returns c =
    let word = c.args.word.now in
    let bytes : (i : ℕ) → get_or word i 0 < 256 = λ i. search rules in
    let by_call : c.fold.result ≡ fold (λ sum byte. bit_xor (gmul sum c.exp-x.result) byte) 0 word = search rules in
    by_call ∙ ap (λ x. fold (λ sum byte. bit_xor (gmul sum x) byte) 0 word) c.exp-x.ensures ∙ syn-fold c.args.e [] word (bytes-from word bytes)
