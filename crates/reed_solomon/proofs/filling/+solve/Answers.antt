use Rattle.std.proofs.Common.{◌≡◌, ℕ, ◌-◌, ◌<◌, List, ◌∷◌, length, get_or, set, sym, ap, ◌∙◌, subst, rules}
use lib.Bits.{bit_xor}
use borrow.Rule.Slice.PartMut.{put_mid}
use Rattle.reed_solomon.specs.Steps.{vsum}
use Rattle.reed_solomon.specs.Words.{Bytes, Distinct}
use Rattle.reed_solomon.proofs.Recursion.{bytes-from, solve-whole}
use Rattle.reed_solomon.proofs.filling.+solve.Goals as goal

pub returns-in-Some : goal.returns-in-Some
returns-in-Some t c =
    let x : ℕ = c.in-Some.weight.now in
    let ys : List ℕ = c.in-Some.others.now in
    let s : List ℕ = c.eliminate.new.sums in
    let vs : List ℕ = c.divide.new.values in
    let after : List ℕ = put_mid 1 (length s - 1) s vs in
    let byte : (i : ℕ) → get_or c.args.weights.now i 0 < 256 = λ i. search rules in
    let split : c.args.weights.now ≡ x ∷ ys = c.in-Some.ensures.cases.0 in
    subst (λ w. (e : ℕ) → e < length w → vsum e w (set after 0 (bit_xor (get_or after 0 0) c.sum-others_sum.result)) ≡ get_or c.args.sums.now e 0) (sym split)
    (solve-whole x ys c.args.sums.now s c.solve.new.sums vs c.sum-others_sum.result
    (c.requires.sums_len ∙ ap length split) c.eliminate.auto.sums c.solve.auto.sums c.divide.auto.values
    (subst Distinct split c.requires.distinct) (subst Bytes split (bytes-from c.args.weights.now byte)) (search rules)
    c.eliminate.ensures c.solve.ensures c.divide.ensures c.sum-others_sum.ensures)
