use Rattle.std.proofs.Common.{◌≡◌, ℕ, ◌<◌, ◌≤◌, get_or}
use lib.Bits.{bit_xor}
use Rattle.galois.specs.Galois.{gmul, ginv}
use Rattle.reed_solomon.proofs.filling.divide.Given as goal

abbrev pub invariant-loop-i : goal.invariant-loop-i
invariant-loop-i l = ((k : ℕ) → k < l.i → get_or l.values k 0 ≡ gmul (get_or l.initial.values k 0) (ginv (bit_xor (get_or l.weights k 0) l.weight))) × ((k : ℕ) → l.i ≤ k → get_or l.values k 0 ≡ get_or l.initial.values k 0)
