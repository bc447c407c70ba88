use Rattle.std.proofs.Common.{◌≡◌, ℕ, ◌<◌, ◌≤◌, length, get_or}
use Rattle.channel.proofs.sheet.checking.narrowed.Given as goal

abbrev pub invariant-loop-i : goal.invariant-loop-i
invariant-loop-i l =
    (length l.table ≡ 512)
    × ((k : ℕ) → k < l.i → get_or l.table k 0 ≡ get_or l.numbers k 0)
    × ((k : ℕ) → k < l.i → get_or l.numbers k 0 ≤ 2047)
