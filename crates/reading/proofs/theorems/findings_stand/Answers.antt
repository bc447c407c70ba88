use Rattle.reading.proofs.Standing.{rows_fit, track-kept}
use Rattle.reading.proofs.theorems.findings_stand.Goals as goal

pub returns : goal.returns
returns c = record { rows = rows_fit; kept = track-kept }
