use Rattle.std.proofs.Common.{◌≡◌, ℕ, ◌-◌, ◌<◌, ◌≤◌, Bool, ◌++◌, length}
use Rattle.layout.specs.Counts.{which}
use Rattle.reading.proofs.passing.passing.Given as goal

abbrev pub invariant-loop-i : goal.invariant-loop-i
invariant-loop-i g l =
    record {
      few : length l.found.items ≤ l.i;
      listed : (p : ℕ → Bool) → ((j : ℕ) (r : Bool) → j < g.row.N → goal.F-post g l.test j r → r ≡ p j) → l.found.items ++ which p (g.row.N - l.i) ≡ which p g.row.N;
    }
