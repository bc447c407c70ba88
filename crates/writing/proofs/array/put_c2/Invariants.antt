use Rattle.std.proofs.Common.{◌≡◌, ℕ, ◌%◌, ◌<◌, cond, ltb, get_or}
use Rattle.writing.specs.Arrays.{c2_filled}
use Rattle.writing.proofs.array.put_c2.Given as goal

abbrev pub invariant-loop-c : goal.invariant-loop-c
invariant-loop-c l = (p : ℕ) → p < 4096 → get_or l.bytes p 0 ≡ cond (ltb (p % 128) l.c) (c2_filled l.initial.bytes p) (get_or l.initial.bytes p 0)
