-- What an entry of the code says: its kind, and the part of the group that it names.
use Rattle.std.specs.Prelude.{ℕ, List, []}
use Rattle.index.specs.declared.kind.Kind.{Kind}
use Rattle.index.specs.declared.kind.Kind.TheVariants.{Total, Mark, Middle, Start, Last, Entire, Skip, Unknown}
use Rattle.index.specs.Entries.{Entry}
use Rattle.index.specs.declared.entry.IndexEntry.{IndexEntry}
use Rattle.index.specs.declared.entry.Content.{Content}
use Rattle.index.specs.declared.entry.Content.TheVariants.{Total as TotalIn, Mark as MarkIn, Middle as MiddleIn, Start as StartIn, Last as LastIn, Entire as EntireIn, Skip as SkipIn, Unknown as UnknownIn}

-- the kind of an entry
abbrev pub kind_in : Content → Kind
kind_in TotalIn = Total
kind_in MarkIn = Mark
kind_in (MiddleIn p) = Middle
kind_in (StartIn p) = Start
kind_in (LastIn p) = Last
kind_in (EntireIn p) = Entire
kind_in SkipIn = Skip
kind_in UnknownIn = Unknown

-- the user bytes that it names
abbrev pub bytes_in : Content → List ℕ
bytes_in TotalIn = []
bytes_in MarkIn = []
bytes_in (MiddleIn p) = p.bytes.now
bytes_in (StartIn p) = p.bytes.now
bytes_in (LastIn p) = p.bytes.now
bytes_in (EntireIn p) = p.bytes.now
bytes_in SkipIn = []
bytes_in UnknownIn = []

-- the place of their first, or 0
abbrev pub place_in : Content → ℕ
place_in TotalIn = 0
place_in MarkIn = 0
place_in (MiddleIn p) = p.place
place_in (StartIn p) = p.place
place_in (LastIn p) = p.place
place_in (EntireIn p) = p.place
place_in SkipIn = 0
place_in UnknownIn = 0

-- the entry that is meant
abbrev pub meant : IndexEntry → Entry
meant e = record { kind = kind_in e.content; count = e.count; warned = e.warned; bytes = bytes_in e.content }
