-- Each call: its answer, and what the recording, the tape and the lent memory hold then.
use Rattle.std.specs.Prelude.{◌≡◌, ℕ, ◌+◌, ◌-◌, ◌*◌, ◌≤◌, cond, List, length, replicate, Ok, ◌==◌, nat_le}
use Rattle.tape.specs.Tape.{Track}
use Rattle.channel.specs.Line.{Code}
use Rattle.layout.specs.declared.settings.Settings.{Settings}
use Rattle.index.specs.Writing.{Filled}
use Rattle.laying.specs.Lay.{Recording, current, stored}
use Rattle.laying.specs.Calls.{Call, Call.record', Call.mark', Call.warn', declines, carried, closed, made}
use Rattle.runs.specs.Run.{Lent, groups_on, refusal, lacks, lacking, completes, on_tape, all_on_tape}
use Rattle.calls.specs.Held.{Book, Held, alerted}
use Rattle.calls.specs.Laying.{Desk, desk, taped, lay_record, lay_mark}
use Rattle.calls.specs.Declines.{Answer, number_of, and_then, outcome, makable, refused, admitted, reaches, recordable, markable}

-- what is lent: zero once a call has passed the tests of it, else as it was
abbrev pub cleared : Answer → List ℕ → List ℕ
cleared a xs = outcome a (replicate (length xs) 0) xs

-- the test of what is lent to a recording
abbrev pub admits : Lent → Desk → Answer
admits m d = admitted m (length d.held.group) d.held.book

-- ---- making, with a group buffer, on a tape of n tracks

abbrev pub checked : Settings → ℕ → ℕ → Answer
checked x size n = makable x size (nat_le 46 n)

abbrev pub book_made : Settings → ℕ → Book
book_made x n = record {
  settings = x;
  limit = groups_on n;
  number = 1;
  fill = record { entries = 0; used = 0 };
  counts = record { items = 0; ones = 0; twos = 0 };
  warned = 0;
}

abbrev pub held_made : Settings → List ℕ → ℕ → Held
held_made x group n = record { book = book_made x n; group = cleared (checked x (length group) n) group }

-- ---- a record

abbrev pub record_answer : Lent → List ℕ → Desk → Answer
record_answer m bs d = and_then (admits m d) (and_then (reaches (length d.tracks) d.held.book) (recordable (length bs) d.held.book))

abbrev pub recorded : Code → Lent → List ℕ → Desk → Desk
recorded c m bs d = outcome (record_answer m bs d) (lay_record c bs d) d

-- ---- a mark

abbrev pub mark_answer : Lent → ℕ → Desk → Answer
mark_answer m k d = and_then (admits m d) (and_then (reaches (length d.tracks) d.held.book) (markable k d.held.book))

abbrev pub marked : Code → Lent → ℕ → Desk → Desk
marked c m k d = outcome (mark_answer m k d) (lay_mark c k d) d

-- ---- a warning

abbrev pub warn_answer : Held → Answer
warn_answer h = refused h.book (length h.group)

abbrev pub warned : Held → Held
warned h = record { book = outcome (warn_answer h) (alerted h.book) h.book; group = h.group }

-- ---- closing

abbrev pub close_answer : Lent → Desk → Answer
close_answer m d = and_then (admits m d) (reaches (length d.tracks) d.held.book)

-- the tape
abbrev pub closed_on : Code → Lent → Desk → List Track
closed_on c m d = outcome (close_answer m d) (taped c 1 d) d.tracks

-- the groups stored
abbrev pub groups_stored : Lent → Desk → ℕ
groups_stored m d = outcome (close_answer m d) d.held.book.number (d.held.book.number - 1)

-- ---- the laws: an open recording holds what a run's recording is, and each call does to both the same

-- h is the open recording s with the settings x
pub record Follows (x : Settings) (h : Held) (s : Recording) : Type 0 where
  pub settings : h.book.settings ≡ x
  pub limit : h.book.limit ≡ s.limit
  pub number : h.book.number ≡ current s
  pub filled : Filled h.group h.book.fill s.open'
  pub counts : h.book.counts ≡ record { items = s.items; ones = s.ones; twos = s.twos }
  pub warned : h.book.warned ≡ s.warned
  pub fits : h.book.fill.used + 4 * h.book.fill.entries ≤ 126596

-- the first number that is not 0
abbrev pub first : ℕ → ℕ → ℕ
first a b = cond (a == 0) b a

-- the call a, made on the desk d with the answer r, and e is what there is then: the answer's number is that of the call on
-- the recording s, a call carried out carries the recording and the tape on, and one that is declined leaves both
pub record Obeys (c : Code) (x : Settings) (m : Lent) (a : Call) (d e : Desk) (r : Answer) (s : Recording) : Type 0 where
  pub number : number_of r ≡ first (refusal x (length d.held.group) (46 * s.limit)) (first (lacking m s d.tracks a) (declines s a))
  pub follows : Follows x e.held (outcome r (carried s a) s)
  pub tape : e.tracks ≡ outcome r (all_on_tape c x (completes s a) d.tracks) d.tracks

abbrev pub RecordObeys : Type 0
RecordObeys = (c : Code) (x : Settings) (m : Lent) (bs : List ℕ) (d : Desk) (s : Recording) → Follows x d.held s
    → Obeys c x m (record' bs) d (recorded c m bs d) (record_answer m bs d) s

abbrev pub MarkObeys : Type 0
MarkObeys = (c : Code) (x : Settings) (m : Lent) (k : ℕ) (d : Desk) (s : Recording) → Follows x d.held s
    → Obeys c x m (mark' k) d (marked c m k d) (mark_answer m k d) s

abbrev pub WarnObeys : Type 0
WarnObeys = (c : Code) (x : Settings) (m : Lent) (d : Desk) (s : Recording) → Follows x d.held s
    → Obeys c x m warn' d (desk (warned d.held) d.tracks) (warn_answer d.held) s

-- closing: the number, the tape, and how many groups the recording then has
pub record Ends (c : Code) (x : Settings) (m : Lent) (d : Desk) (s : Recording) : Type 0 where
  pub number : number_of (close_answer m d) ≡ first (refusal x (length d.held.group) (46 * s.limit)) (lacks m s.limit (length d.tracks))
  pub tape : closed_on c m d ≡ outcome (close_answer m d) (on_tape c x (stored 1 s) d.tracks) d.tracks
  pub groups : groups_stored m d ≡ outcome (close_answer m d) (length (closed s)) (length s.done)
  pub items : d.held.book.counts.items ≡ s.items

abbrev pub CloseEnds : Type 0
CloseEnds = (c : Code) (x : Settings) (m : Lent) (d : Desk) (s : Recording) → Follows x d.held s → Ends c x m d s

-- a recording that is made without a number is a run's first
abbrev pub MakeFollows : Type 0
MakeFollows = (x : Settings) (group : List ℕ) (n : ℕ) → checked x (length group) n ≡ Ok tt → Follows x (held_made x group n) (made (groups_on n))
