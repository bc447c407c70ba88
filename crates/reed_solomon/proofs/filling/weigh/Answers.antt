use Rattle.std.proofs.Common.{ℕ, ◌-◌, ◌<◌, List, map, sym, ◌∙◌, arith}
use Rattle.std.proofs.ByRecursion.{All-get_or}
use Rattle.galois.specs.Galois.{alpha}
use Rattle.std.proofs.lemmas.List.{ext_get_or, length-map, get_or-map}
use Rattle.reed_solomon.proofs.filling.weigh.Goals as goal

pub overflow_sub-n : goal.overflow_sub-n
overflow_sub-n c = omega (arith, All-get_or (λ p. p < c.args.n) c.args.places.now c.loop-i.i 0 c.loop-i-test.true c.requires.within)

pub returns : goal.returns
returns c =
    let f : ℕ → ℕ = λ p. alpha (c.args.n - 1 - p) in
    let ps : List ℕ = c.args.places.now in
    ext_get_or 0 c.loop-i.weights (map f ps) (c.loop-i.auto.weights ∙ c.requires.weights_len ∙ sym (length-map ps f))
    (λ k h. c.loop-i.invariant k (omega (arith, c.loop-i.auto.weights, c.requires.weights_len)) ∙ sym (get_or-map f ps k 0 0 (omega (arith, c.loop-i.auto.weights, c.requires.weights_len))))
