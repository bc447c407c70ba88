use Rattle.std.proofs.Common.{◌≡◌, ℕ, ◌+◌, ◌*◌, ◌/◌, ◌%◌, ◌<◌, cond, ltb, get_or}
use Rattle.writing.specs.Arrays.{c1_filled}
use Rattle.writing.proofs.array.put_c1.Given as goal

abbrev pub invariant-loop-w : goal.invariant-loop-w
invariant-loop-w l = (p : ℕ) → p < 4096 → get_or l.bytes p 0 ≡ cond (ltb (2 * (p / 64) + p % 2) l.w) (c1_filled l.initial.bytes p) (get_or l.initial.bytes p 0)
