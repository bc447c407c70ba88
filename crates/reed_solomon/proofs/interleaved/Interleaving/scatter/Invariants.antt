use Rattle.std.proofs.Common.{◌≡◌, ℕ, ◌+◌, ◌*◌, ◌<◌, ◌≢◌, get_or}
use Rattle.reed_solomon.proofs.interleaved.Interleaving.scatter.Given as goal

abbrev pub invariant-loop-j : goal.invariant-loop-j
invariant-loop-j l =
    ((k : ℕ) → k < l.j → get_or l.memory (l.self.start + l.self.stride * k) 0 ≡ get_or l.word k 0)
    × ((p : ℕ) → ((k : ℕ) → k < l.j → p ≢ l.self.start + l.self.stride * k) → get_or l.memory p 0 ≡ get_or l.initial.memory p 0)
