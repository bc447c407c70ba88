-- Where the groups of a recording stand on its tape, and what walking them gives.
use Rattle.std.specs.Prelude.{◌≡◌, ℕ, suc, ◌+◌, ◌*◌, ◌<◌, ◌≤◌, cond, List, [], map, length, Some, None, Ok, ◌==◌, slice_index, slice_index_or}
use Rattle.tape.specs.Tape.{Track}
use Rattle.channel.specs.Line.{Code}
use Rattle.layout.specs.declared.settings.Settings.{Settings}
use Rattle.writing.specs.Groups.{group_track}
use Rattle.index.specs.Entries.{Item}
use Rattle.index.specs.Bytes.{Small, group_of, read_group}
use Rattle.index.specs.Walk.{Position.idle, walk_groups, beginning}
use Rattle.laying.specs.Lay.{Recording, current}
use Rattle.laying.specs.Calls.{Listed}
use Rattle.runs.specs.Run.{Run, Finished, groups_on}

-- these groups, as bytes, stand on the first tracks of the tape ts as they are written, and the tracks behind them are those of `before`
pub record Placed (c : Code) (x : Settings) (groups : List (List ℕ)) (before ts : List Track) : Type 0 where
  pub same : length ts ≡ length before
  pub written : (g t : ℕ) → g < length groups → t < 46
      → slice_index_or ts (46 * g + t) None ≡ Some (group_track c x.tap x.start (suc g) (slice_index_or groups g []) t)
  pub behind : (k : ℕ) → 46 * length groups ≤ k → slice_index_or ts k None ≡ slice_index_or before k None

-- of every run: the groups completed stand at their places, the tracks behind them are as they were, and the open group is not above G
pub record Stays (c : Code) (x : Settings) (before : List Track) (s : Recording) (ts : List Track) : Type 0 where
  pub placed : Placed c x (map group_of s.done) before ts
  pub limit : s.limit ≡ groups_on (length before)
  pub within : current s ≤ s.limit

abbrev pub Staying : Type 0
Staying = (c : Code) (x : Settings) (before ts : List Track) (s : Recording) (l : Listed) → Run c x before s ts l → Stays c x before s ts

-- of every recording that was closed without a decline: its groups, as bytes, stand at their places; walking them from the
-- beginning meets no fault, ends outside any record, and finds the list; the last byte is 1 in the last and 0 in the others
pub record Stands (c : Code) (x : Settings) (before ts : List Track) (n : ℕ) (l : List Item) : Type 0 where
  pub groups : List (List ℕ)
  pub count : n ≡ length groups
  pub some : 1 ≤ n
  pub few : n ≤ groups_on (length before)
  pub placed : Placed c x groups before ts
  pub sizes : (g : ℕ) → g < n → length (slice_index_or groups g []) ≡ 126632
  pub small : (g : ℕ) → g < n → Small (slice_index_or groups g [])
  pub lasts : (g : ℕ) → g < n → slice_index (slice_index_or groups g []) 126616 ≡ cond (suc g == n) 1 0
  pub walked : walk_groups 1 beginning (map read_group groups) ≡ Ok (record { position = idle; items = l })

abbrev pub Standing : Type 0
Standing = (c : Code) (x : Settings) (before ts : List Track) (n : ℕ) (l : List Item) → Finished c x before ts n l → Stands c x before ts n l
