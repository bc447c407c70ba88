-- What an open recording holds.
use Rattle.std.specs.Prelude.{ℕ, ◌+◌, ◌-◌, ◌*◌, ◌/◌, cond, List, nat_le}
use Rattle.layout.specs.declared.settings.Settings.{Settings}
use Rattle.index.specs.declared.kind.Kind.{Kind}
use Rattle.index.specs.declared.tally.Counts.{Counts}
use Rattle.index.specs.declared.writer.Fill.{Fill}
use Rattle.index.specs.Counted.{counted}

-- its numbers: the settings, G, the number of the open group, how full that is, the totals since group 1, and 1 after a warning
pub record Book : Type 0 where
  pub settings : Settings
  pub limit : ℕ
  pub number : ℕ
  pub fill : Fill
  pub counts : Counts
  pub warned : ℕ

-- and its group buffer
pub record Held : Type 0 where
  pub book : Book
  pub group : List ℕ

-- what is free in the open group for further entries and their bytes; the skip's room is set aside
abbrev pub free : Book → ℕ
free b = 126596 - b.fill.used - 4 * b.fill.entries

-- with an entry of this kind and count that names so many bytes
abbrev pub entered : Kind → ℕ → ℕ → Book → Book
entered k n size b = record {
  settings = b.settings;
  limit = b.limit;
  number = b.number;
  fill = record { entries = b.fill.entries + 1; used = b.fill.used + size };
  counts = counted b.counts k n;
  warned = b.warned;
}

-- at the next group
abbrev pub turned : Book → Book
turned b = record {
  settings = b.settings;
  limit = b.limit;
  number = b.number + 1;
  fill = record { entries = 0; used = 0 };
  counts = b.counts;
  warned = b.warned;
}

-- after a warning
abbrev pub alerted : Book → Book
alerted b = record { settings = b.settings; limit = b.limit; number = b.number; fill = b.fill; counts = b.counts; warned = 1 }

-- where an item that needs n free begins: here, or in a new group
abbrev pub roomed : ℕ → Book → Book
roomed n b = cond (nat_le n (free b)) b (turned b)

-- the group in which the last entry of a rest of r bytes stands, if the rest opens group g
abbrev pub rest_ends : ℕ → ℕ → ℕ
rest_ends g r = g + (r + 3) / 126592

-- the group in which the last entry of a record of n bytes stands that begins here
abbrev pub begun_ends : ℕ → Book → ℕ
begun_ends n b = cond (nat_le (n + 4) (free b)) b.number (rest_ends (b.number + 1) (n - (free b - 4)))

-- the group in which the last entry of a record of n bytes, or that of a mark, would stand
abbrev pub record_ends : ℕ → Book → ℕ
record_ends n b = begun_ends n (roomed 5 b)

abbrev pub mark_ends : Book → ℕ
mark_ends b = (roomed 4 b).number
