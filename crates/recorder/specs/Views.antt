-- What an open recording of the code holds.
use Rattle.std.specs.Prelude.{◌≡◌, ◌*◌, ◌<◌, ◌≤◌, length, Some, None, Ok, Err, Option}
use Rattle.calls.specs.declared.fault.Decline.{Decline}
use Rattle.calls.specs.Declines.{Answer}
use Rattle.calls.specs.Held.{Book, Held}
use Rattle.calls.specs.Laying.{Desk}
use Rattle.recorder.specs.declared.ledger.Ledger.{Ledger}
use Rattle.recorder.specs.declared.open.OpenRecording.{OpenRecording}

abbrev pub book_of : Ledger → Book
book_of l = record
    { settings = l.settings; limit = l.limit; number = l.number; fill = l.fill; counts = l.counts; warned = l.warned }

abbrev pub held_in : OpenRecording → Held
held_in r = record { book = book_of r.ledger; group = r.group.now }

-- why a call is declined, if it is
abbrev pub decline_of : Answer → Option Decline
decline_of (Ok u) = None
decline_of (Err e) = Some e

-- what the tests of a call have found of the recording
pub record Admitted (h : Held) : Type 0 where
  pub group : length h.group ≡ 126632
  pub tap : h.book.settings.tap < 32768
  pub start : h.book.settings.start < 32768
  pub limit : 0 < h.book.limit

-- and of the tape: it still has the groups that the recording may have
pub record Ready (d : Desk) : Type 0 where
  pub admitted : Admitted d.held
  pub tape : 46 * d.held.book.limit ≤ length d.tracks
