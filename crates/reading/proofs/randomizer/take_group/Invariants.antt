use Rattle.std.proofs.Common.{◌≡◌, ℕ, ◌+◌, ◌*◌, ◌<◌, length, get_or}
use lib.Bits.{bit_xor}
use Rattle.layout.specs.Randomizer.{steps, output}
use Rattle.reading.specs.Groups.{place_in}
use Rattle.reading.proofs.randomizer.take_group.Given as goal

abbrev pub invariant-loop-d : goal.invariant-loop-d
invariant-loop-d l =
    record {
      size : length l.group ≡ 126632;
      tap : l.register.tap ≡ l.initial.register.tap;
      bits : l.register.bits ≡ steps l.initial.register.tap (8 * l.d) l.initial.register.bits;
      bytes : (f e : ℕ) → f < 22 → e < l.d
          → get_or l.group (5756 * f + e) 0 ≡ bit_xor (get_or l.rows (place_in f e) 0) (output l.initial.register.tap 8 (steps l.initial.register.tap (8 * e) l.initial.register.bits));
    }
