use Rattle.std.proofs.Common.{◌≡◌, ℕ, ◌*◌, ◌<◌, get_or}
use Rattle.layout.specs.Randomizer.{steps}
use Rattle.writing.specs.Rows.{pad_at}
use Rattle.writing.proofs.rows.make_pad.Given as goal

abbrev pub invariant-loop-byte : goal.invariant-loop-byte
invariant-loop-byte l =
    record {
      tap : l.register.tap ≡ l.initial.register.tap;
      bits : l.register.bits ≡ steps l.initial.register.tap (8 * l.byte-index) l.initial.register.bits;
      pad : (k : ℕ) → k < l.byte-index → get_or l.pad k 0 ≡ pad_at l.initial.register.tap l.initial.register.bits k;
    }
