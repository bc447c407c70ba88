use Rattle.std.proofs.Common.{◌≡◌, ℕ, ◌-◌, ◌<◌, get_or}
use Rattle.galois.specs.Galois.{alpha}
use Rattle.reed_solomon.proofs.filling.weigh.Given as goal

abbrev pub invariant-loop-i : goal.invariant-loop-i
invariant-loop-i l = (k : ℕ) → k < l.i → get_or l.weights k 0 ≡ alpha (l.n - 1 - get_or l.places k 0)
