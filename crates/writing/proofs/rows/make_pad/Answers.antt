use Rattle.std.proofs.Common.{◌≡◌, ◌+◌, ◌*◌, refl, ap, ◌∙◌, ap₂, arith}
use Rattle.std.proofs.lemmas.List.Edits.{fill_by_more}
use Rattle.layout.specs.Randomizer.{steps, output}
use Rattle.layout.proofs.Outputs.{steps-add, no_steps}
use Rattle.writing.specs.Rows.{pad_at}
use Rattle.writing.proofs.rows.make_pad.Goals as goal

pub loop-byte-init : goal.loop-byte-init
loop-byte-init c =
    record { tap = refl; bits = no_steps c.args.register.tap c.args.register.bits; pad = λ k h. absurd (omega arith) }

pub loop-byte-preserved : goal.loop-byte-preserved
unfolding pad_at
loop-byte-preserved c =
    let t = c.args.register.tap in
    let s = c.args.register.bits in
    let d = c.loop-byte.byte-index in
    let n : 8 * d + 8 ≡ 8 * (d + 1) = omega arith in
    let v : c.next_byte.result ≡ pad_at t s d = c.next_byte.ensures.byte ∙ ap₂ (λ t b. output t 8 b) c.loop-byte.invariant.tap c.loop-byte.invariant.bits in
    record {
      tap = c.next_byte.ensures.tap ∙ c.loop-byte.invariant.tap;
      bits = c.next_byte.ensures.bits ∙ ap₂ (λ t b. steps t 8 b) c.loop-byte.invariant.tap c.loop-byte.invariant.bits ∙ steps-add t 8 (8 * d) s ∙ ap (λ m. steps t m s) n;
      pad = simp v (fill_by_more (pad_at t s) c.loop-byte.pad d 0 (omega arith) c.loop-byte.invariant.pad);
    }
