use Rattle.std.proofs.Common.{sym, ◌∙◌}
use Rattle.layout.specs.Words.{row}
use Rattle.std.proofs.lemmas.Bool.{cond-true, cond-false}
use Rattle.reading.specs.Arrays.{array_in}
use Rattle.losses.specs.Losses.{is_loss}
use Rattle.reading.proofs.track.read_words.Goals as goal

pub returns-then-is_some : goal.returns-then-is_some
returns-then-is_some g c = record {
  finding = c.judge-finding.ensures.finding;
  bytes = sym (c.judge-finding.ensures.bytes c.args.row.now ∙ cond-true (is_loss c.judge-finding.result.cause) c.args.row.now (row (array_in c.judge-finding.new.array)) (sym c.if-is_some.ensures));
}

pub returns : goal.returns
returns g c = record {
  finding = c.judge-finding.ensures.finding;
  bytes = c.take_row.ensures ∙ sym (c.judge-finding.ensures.bytes c.args.row.now ∙ cond-false (is_loss c.judge-finding.result.cause) c.args.row.now (row (array_in c.judge-finding.new.array)) (sym c.if-is_some.ensures));
}
