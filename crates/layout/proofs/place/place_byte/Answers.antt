use Rattle.std.proofs.Common.{◌+◌, ◌-◌, ◌*◌, ◌/◌, ◌%◌, ltb, Some, None, sym, ap, ◌∙◌, ap₂}
use Rattle.std.proofs.lemmas.Bool.{cond-true, cond-false, lt-ltb, le-ltb}
use Rattle.layout.specs.Placing.{sign, block, serial}
use Rattle.layout.specs.Placed.{channel_number, half_number, sign_of}
use Rattle.layout.proofs.Placing.{places-fit, bijection}
use Rattle.layout.proofs.place.place_byte.Goals as goal

pub returns-then-word-ge1456 : goal.returns-then-word-ge1456
returns-then-word-ge1456 c =
    record { placed = sym (cond-false (ltb c.args.word 1456) _ None (le-ltb c.args.word 1456 c.if-word-ge1456.true)); fits = places-fit; bijection = bijection }

pub returns : goal.returns
unfolding sign block serial
returns c =
    let i = c.args.word in
    record {
      placed =
          ap₂ (λ s n. Some (s, i % 52 + 75 * (i % 2) + i / 832, 2 * (n + i / 52) - i / 52 % 2 - 32 * (i / 832)))
          (c.sign_of.ensures ∙ ap (λ a. sign_of ((a + i) % 2)) c.number-2.ensures.is) c.number.ensures.is
          ∙ sym (cond-true (ltb i 1456) (Some (sign_of (sign i (channel_number c.args.channel)), block i, serial i (half_number c.args.half))) None (lt-ltb i 1456 c.if-word-ge1456.false));
      fits = places-fit;
      bijection = bijection;
    }
