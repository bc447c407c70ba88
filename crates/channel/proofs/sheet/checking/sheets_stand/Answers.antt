use Rattle.channel.proofs.Standing as standing
use Rattle.channel.proofs.sheet.checking.sheets_stand.Goals as goal

pub returns : goal.returns
returns c = record { serve = standing.serve; exact = standing.exact; only = standing.only; verdict = standing.verdict }
