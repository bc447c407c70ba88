use Rattle.std.proofs.Common.{◌≡◌, ℕ, ◌+◌, ◌/◌, ◌<◌, length, get_or}
use Rattle.channel.proofs.sheet.checking.plain_numbers.Given as goal

abbrev pub invariant-loop-i : goal.invariant-loop-i
invariant-loop-i l = (length l.number-items ≡ 512) × ((k : ℕ) → k < l.i → get_or l.number-items k 0 ≡ k / 2 + 1024)
