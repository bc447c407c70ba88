-- Going through the entries of an index.
use Rattle.std.specs.Prelude.{◌≡◌, ℕ, ◌+◌, ◌-◌, ◌*◌, ◌≤◌, Bool, true, false, cond, ◌&&◌, List, [], ◌∷◌, length, take, Option, MatchOption, nat_le, nat_lt}
use Rattle.index.specs.declared.reader.IndexReader.{IndexReader}
use Rattle.index.specs.declared.entry.IndexEntry.{IndexEntry}
use Rattle.index.specs.Entries.{Entry}
use Rattle.index.specs.Contents.{kind_in, place_in, meant}
use Rattle.index.specs.Bytes.{named, number, read_at, read_entries, read_group}

-- what a reader of an index holds: the group, the bytes before the entries that were read, how many entries are left,
-- and the place of the next user byte
pub record Cursor : Type 0 where
  pub group : List ℕ
  pub index : List ℕ
  pub left : ℕ
  pub place : ℕ

abbrev pub cursor_of : IndexReader → Cursor
cursor_of r = record { group = r.group.now; index = r.index.now; left = r.left; place = r.place }

-- at the first of so many entries of a group
abbrev pub started_with : ℕ → List ℕ → Cursor
started_with k g = record { group = g; index = take 126600 g; left = k; place = 0 }

-- at the first of as many entries as the table says
abbrev pub started : List ℕ → Cursor
started g = started_with (number 2 126602 g) g

-- the entries that are left
abbrev pub remaining : Cursor → List Entry
remaining c = read_entries c.group c.left (length c.index) c.place

-- the index is a front of the group, and has room for the entries that are left; what was passed lies in the group
pub record Sound (c : Cursor) : Type 0 where
  pub size : length c.group ≡ 126632
  pub front : c.index ≡ take (length c.index) c.group
  pub long : length c.index ≤ 126600
  pub room : 4 * c.left ≤ length c.index
  pub place : c.place ≤ 126632

-- an entry is left
abbrev pub ahead : Cursor → Bool
ahead c = nat_lt 0 c.left && nat_le 4 (length c.index)

-- the next entry
abbrev pub coming : Cursor → Entry
coming c = read_at c.index c.group c.place

-- behind the next entry
abbrev pub advanced : Cursor → Cursor
advanced c = record {
  group = c.group;
  index = take (length c.index - 4) c.index;
  left = c.left - 1;
  place = c.place + length (coming c).bytes;
}

-- a reader gives the entry that comes, with the place of its part, and stands behind it; none, where it stands still, behind
-- the last
pub record ReadsNext (old : IndexReader) (entry : Option IndexEntry) (new : IndexReader) : Type 0 where
  pub answer : MatchOption entry (ahead (cursor_of old) ≡ false)
      (λ e. (ahead (cursor_of old) ≡ true) × (meant e ≡ coming (cursor_of old)) × (place_in e.content ≡ cond (named (kind_in e.content)) old.place 0))
  pub after : cursor_of new ≡ cond (ahead (cursor_of old)) (advanced (cursor_of old)) (cursor_of old)

-- at the first entry of a group, the entries that are left are the group's
abbrev pub ReadsGroup : Type 0
ReadsGroup = (g : List ℕ) → length g ≡ 126632 → number 2 126602 g ≤ 31650 → Sound (started g) × (remaining (started g) ≡ (read_group g).entries)

-- an entry that is read is the first of those that were left, and none is read only where none is left
pub record ReadsOn (c : Cursor) : Type 0 where
  pub some : ahead c ≡ true → Sound (advanced c) × (remaining c ≡ coming c ∷ remaining (advanced c))
  pub none : ahead c ≡ false → remaining c ≡ []

abbrev pub ReadsAll : Type 0
ReadsAll = (c : Cursor) → Sound c → ReadsOn c
