use Rattle.std.proofs.Common.{◌≡◌, ℕ, ◌<◌, length, get_or, None}
use Rattle.channel.specs.Codes.{plain_decode}
use Rattle.channel.proofs.sheet.checking.plain_bytes.Given as goal

abbrev pub invariant-loop-word : goal.invariant-loop-word
invariant-loop-word l = (length l.byte-items ≡ 1024) × ((w : ℕ) → w < l.word → get_or l.byte-items w None ≡ plain_decode w)
