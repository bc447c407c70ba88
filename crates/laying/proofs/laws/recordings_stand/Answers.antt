use Rattle.laying.proofs.Runs.{faithful, recorded-whole, predicted}
use Rattle.laying.proofs.laws.recordings_stand.Goals as goal

pub returns : goal.returns
returns c = record { faithful = faithful; recorded = recorded-whole; predicted = predicted }
