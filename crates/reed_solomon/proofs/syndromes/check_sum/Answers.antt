use Rattle.std.proofs.Common.{◌≡◌, ℕ, ◌-◌, ◌*◌, ◌%◌, length, get_or, sym, refl, ap, ◌∙◌, arith}
use Rattle.galois.specs.Galois.{gmul, alpha}
use Rattle.reed_solomon.specs.Words.{sum_to}
use Rattle.galois.proofs.Powers.{alpha-mod, alpha-mod-both}
use Rattle.reed_solomon.proofs.Sums.{by-places, sum_to-more}
use Rattle.reed_solomon.proofs.syndromes.check_sum.Goals as goal

pub loop-j-init : goal.loop-j-init
unfolding sum_to
loop-j-init c = refl

pub loop-j-preserved : goal.loop-j-preserved
loop-j-preserved c =
    let b = c.args.word.now in
    let e = c.args.e in
    let j = c.loop-j.j in
    let f : ℕ → ℕ = λ k. gmul (get_or b k 0) (alpha (e * (length b - 1 - k))) in
    let n : c.saturating_sub-last.result - j ≡ length b - 1 - j = omega (arith, c.saturating_sub-last.ensures) in
    sum_to-more f j c.loop-j.sum c.multiply-sum.result c.loop-j.invariant
    (c.multiply-sum.ensures ∙ ap (gmul (get_or b j 0)) (c.exp.ensures ∙ sym (alpha-mod (e % 255 * ((c.saturating_sub-last.result - j) % 255))) ∙ alpha-mod-both e (c.saturating_sub-last.result - j) ∙ ap (λ m. alpha (e * m)) n))

pub returns : goal.returns
returns c =
    let b = c.args.word.now in
    let e = c.args.e in
    let f : ℕ → ℕ = λ k. gmul (get_or b k 0) (alpha (e * (length b - 1 - k))) in
    let n : c.loop-j.j ≡ length b = omega arith in
    c.loop-j.invariant ∙ ap (sum_to f) n ∙ sym (by-places e b)
