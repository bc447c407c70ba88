use Rattle.std.proofs.Common.{◌≡◌, ℕ, ◌+◌, ◌*◌, ◌<◌, get_or}
use Rattle.layout.specs.Placing.{block_at, serial_at}
use Rattle.writing.proofs.places.find_places.Given as goal

abbrev pub invariant-loop-q : goal.invariant-loop-q
invariant-loop-q l = (k : ℕ) → k < l.q → get_or l.places k 0 ≡ 32 * block_at k + serial_at k
