use Rattle.std.proofs.Common.{◌≡◌, ℕ, ◌+◌, ◌*◌, ◌/◌, ◌%◌, ◌<◌, ◌≤◌, false, not, ◌||◌, get_or, length}
use Rattle.layout.specs.Reading.{checks}
use Rattle.reed_solomon.specs.Interleaves.{interleaved}
use Rattle.reading.proofs.c1.mark_unchecked.Given as goal

-- the words from k on are as they were
abbrev pub invariant-loop-k : goal.invariant-loop-k
invariant-loop-k l =
    record {
      size : length l.mark-items ≡ 128;
      done : (k : ℕ) → k < l.k → get_or l.mark-items k false ≡ (get_or l.fn.lost.marks k false || not (checks 4 (interleaved l.array (64 * (k / 2) + k % 2) 2 32)));
      rest : (k : ℕ) → l.k ≤ k → get_or l.mark-items k false ≡ get_or l.fn.lost.marks k false;
    }
