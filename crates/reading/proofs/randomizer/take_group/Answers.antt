use Rattle.std.proofs.Common.{◌≡◌, ℕ, ◌+◌, ◌*◌, get_or, sym, refl, ap, ◌∙◌, ap₂, inl, inr, arith}
use lib.Bits.{bit_xor}
use Rattle.std.proofs.lemmas.Bool.{cases_eq}
use Rattle.layout.specs.Randomizer.{steps, output}
use Rattle.layout.proofs.Outputs.{steps-add, no_steps}
use Rattle.reading.specs.Groups.{place_in}
use Rattle.reading.proofs.Masks.{group-is}
use Rattle.reading.proofs.randomizer.take_group.Goals as goal

pub loop-d-init : goal.loop-d-init
loop-d-init c = record { size = c.told-group; tap = refl; bits = no_steps c.args.register.tap c.args.register.bits; bytes = λ f e h l. absurd (omega arith) }

pub loop-d-preserved : goal.loop-d-preserved
loop-d-preserved c =
    let tap : ℕ = c.args.register.tap in
    let start : ℕ = c.args.register.bits in
    let d : ℕ = c.loop-d.d in
    let more : 8 * d + 8 ≡ 8 * (d + 1) = omega arith in
    record {
      size = c.put_bytes.array_long;
      tap = c.next_byte-mask.ensures.tap ∙ c.loop-d.invariant.tap;
      bits = c.next_byte-mask.ensures.bits ∙ ap₂ (λ t b. steps t 8 b) c.loop-d.invariant.tap c.loop-d.invariant.bits ∙ steps-add tap 8 (8 * d) start ∙ ap (λ n. steps tap n start) more;
      bytes = λ f e h l.
          elim (cases_eq e d) [
            | inl q ↦ ap (λ z. get_or c.put_bytes.new.group (5756 * f + z) 0) q ∙ c.put_bytes.ensures.here f h
                ∙ ap (bit_xor (get_or c.args.rows.now (place_in f d) 0)) (c.next_byte-mask.ensures.byte ∙ ap₂ (λ t b. output t 8 b) c.loop-d.invariant.tap c.loop-d.invariant.bits)
                ∙ ap (λ z. bit_xor (get_or c.args.rows.now (place_in f z) 0) (output tap 8 (steps tap (8 * z) start))) (sym q)
            | inr q ↦ c.put_bytes.ensures.others f e (omega arith) q ∙ c.loop-d.invariant.bytes f e h (omega (arith, q))
          ];
    }

pub returns : goal.returns
returns c =
    group-is c.args.register.tap c.args.register.bits c.args.rows.now c.loop-d.group c.loop-d.invariant.size
    (λ f e h l. c.loop-d.invariant.bytes f e h (omega arith))
