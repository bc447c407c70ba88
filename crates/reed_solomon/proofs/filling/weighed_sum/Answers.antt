use Rattle.std.proofs.Common.{map, zip, refl, ◌∙◌, rules}
use lib.Bits.{bit_xor, xor_zero_l}
use Rattle.std.proofs.lemmas.Iterator.{YieldsList-from_slice, YieldsList-from_zip, YieldsList-from_map}
use Rattle.std.proofs.lemmas.Iterator.Consumers.{fold_from_yields_List}
use Rattle.galois.specs.Galois.{gmul, gpow}
use Rattle.reed_solomon.proofs.Sums.{xsum-fold, vsum-is}
use Rattle.reed_solomon.proofs.filling.weighed_sum.Goals as goal

pub returns : goal.returns
returns c =
    let e = c.args.e in
    let xs = c.args.weights.now in
    let vs = c.args.values.now in
    fold_from_yields_List _ bit_xor 0 c.fold.result c.fold.ensures.ran
    (YieldsList-from_map _ (λ p. gmul p.1 (gpow p.0 e)) (YieldsList-from_zip (YieldsList-from_slice xs cc) (YieldsList-from_slice vs cc)) refl (λ x r q h. search rules))
    (λ a x b q h. search rules)
    ∙ xsum-fold 0 (map (λ p. gmul p.1 (gpow p.0 e)) (zip xs vs)) ∙ xor_zero_l _ ∙ vsum-is e xs vs
