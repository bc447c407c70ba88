use Rattle.std.proofs.Common.{sym}
use Rattle.channel.specs.Laws.{byte_of-wide}
use Rattle.channel.proofs.sheet.CheckedSheetLineCode.decode.Goals as goal

pub returns-else-word-lt-WORDS : goal.returns-else-word-lt-WORDS
returns-else-word-lt-WORDS c = sym (byte_of-wide _ _ _ c.if-word-lt-WORDS.false)
