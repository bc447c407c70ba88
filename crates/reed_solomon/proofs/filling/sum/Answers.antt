use Rattle.std.proofs.Common.{◌≡◌, fold, ◌∙◌, rules}
use lib.Bits.{bit_xor, xor_zero_l}
use Rattle.reed_solomon.specs.Steps.{xsum}
use Rattle.reed_solomon.proofs.Sums.{xsum-fold}
use Rattle.reed_solomon.proofs.filling.sum.Goals as goal

pub returns : goal.returns
returns c =
    let vs = c.args.values.now in
    let by_call : c.fold.result ≡ fold bit_xor 0 vs = search rules in
    by_call ∙ xsum-fold 0 vs ∙ xor_zero_l (xsum vs)
