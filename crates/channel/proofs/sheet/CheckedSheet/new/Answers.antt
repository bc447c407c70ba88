use Rattle.std.proofs.Common.{sym, ◌∙◌}
use Rattle.channel.specs.Laws.{plain-narrow, plain-apart, plain-encode, plain-decode}
use Rattle.channel.proofs.sheet.CheckedSheet.new.Goals as goal

pub invariant_of-result : goal.invariant_of-result
invariant_of-result c =
    let xs = c.plain_numbers.result in
    let p = c.plain_numbers.ensures in
    record {
      size = p.0;
      narrow = plain-narrow xs p;
      apart = plain-apart xs p;
      inverse = λ w l. c.plain_bytes.ensures w l ∙ sym (plain-decode xs w p);
    }

pub returns : goal.returns
returns c =
    record {
      words = λ s b h. plain-encode c.plain_numbers.result s b c.plain_numbers.ensures h;
      bytes = λ w. plain-decode c.plain_numbers.result w c.plain_numbers.ensures;
    }
