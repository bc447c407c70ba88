use Rattle.calls.proofs.laws.calls_stand.Goals as goal
use Rattle.calls.proofs.Obeying.{make-follows, record-obeys, mark-obeys, warn-obeys, close-ends}
use Rattle.calls.proofs.Whole.{ran}

pub returns : goal.returns
returns c = record { make = make-follows; «record» = record-obeys; mark = mark-obeys; warn = warn-obeys; close = close-ends; ran = ran }
