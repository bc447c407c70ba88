use Rattle.std.proofs.Common.{◌≡◌, ℕ, ◌<◌, ◌≤◌, ◌∷◌, get_or}
use lib.Bits.{bit_xor}
use Rattle.galois.specs.Galois.{gmul}
use Rattle.reed_solomon.proofs.filling.eliminate.Given as goal

-- the sum before the one at k is at k of the sums behind a 0
abbrev pub invariant-loop-sum : goal.invariant-loop-sum
invariant-loop-sum l =
    record {
      swept : (k : ℕ) → k < l.sum-index → get_or l.sums k 0 ≡ bit_xor (get_or l.initial.sums k 0) (gmul l.weight (get_or (0 ∷ l.initial.sums) k 0));
      kept : (k : ℕ) → l.sum-index ≤ k → get_or l.sums k 0 ≡ get_or l.initial.sums k 0;
      before : l.before ≡ get_or (0 ∷ l.initial.sums) l.sum-index 0;
    }
