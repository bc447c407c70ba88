use Rattle.std.proofs.Common.{◌≡◌, ℕ, ◌<◌, ◌≤◌, get_or}
use lib.Bits.{bit_xor}
use Rattle.galois.specs.Galois.{gmul, alpha}
use Rattle.reed_solomon.proofs.syndromes.add_byte.Given as goal

abbrev pub invariant-loop-e : goal.invariant-loop-e
invariant-loop-e l =
    ((k : ℕ) → k < l.e → get_or l.sums k 0 ≡ bit_xor (gmul (get_or l.initial.sums k 0) (alpha k)) l.byte)
    × ((k : ℕ) → l.e ≤ k → get_or l.sums k 0 ≡ get_or l.initial.sums k 0)
