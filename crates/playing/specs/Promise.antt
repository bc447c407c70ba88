-- What playing promises of every recording.
use Rattle.std.specs.Prelude.{◌≡◌, ℕ, ◌+◌, ◌-◌, ◌*◌, ◌<◌, ◌≤◌, Bool, true, false, ◌⊎◌, List, length, take, Some, None, slice_index, slice_index_or}
use Rattle.tape.specs.Tape.{Track}
use Rattle.layout.specs.Counts.{count}
use Rattle.layout.specs.Damage.{Light}
use Rattle.channel.specs.Line.{Code, Lawful}
use Rattle.layout.specs.declared.settings.Settings.{Settings}
use Rattle.index.specs.Entries.{Item}
use Rattle.runs.specs.Run.{Finished}
use Rattle.playing.specs.declared.fault.GroupCause.{GroupCause}
use Rattle.playing.specs.declared.fault.PlayFault.TheVariants.{Group}
use Rattle.playing.specs.declared.rows.Row.{Row}
use Rattle.playing.specs.declared.rows.Played.{Played}
use Rattle.playing.specs.Faults.{cause_report}
use Rattle.playing.specs.Play.{bytes_given, rows_given, Sizes, played, answered, output_after, rows_after}

-- ---- damage

-- a track that was recorded, lightly damaged
abbrev pub Lightly : Track → Track → Type 0
Lightly None t = ⊥
Lightly (Some ws) None = ⊥
Lightly (Some ws) (Some vs) = Light (λ i. slice_index ws i) (λ i. slice_index vs i)

-- track t of the group with g groups before it
abbrev pub track_in : List Track → ℕ → ℕ → Track
track_in ts g t = slice_index_or ts (46 * g + t) None

-- of each of the n groups that were recorded on the tape us, at most two tracks are bad on the tape ts, and the others lightly damaged
pub record Damaged (n : ℕ) (bad : ℕ → ℕ → Bool) (us ts : List Track) : Type 0 where
  pub there : 46 * n ≤ length ts
  pub few : (g : ℕ) → g < n → count (bad g) 46 ≤ 2
  pub light : (g t : ℕ) → g < n → t < 46 → bad g t ≡ false → Lightly (track_in us g t) (track_in ts g t)

-- and the bad ones are blank
pub record Blanked (n : ℕ) (bad : ℕ → ℕ → Bool) (us ts : List Track) : Type 0 where
  pub damaged : Damaged n bad us ts
  pub blank : (g t : ℕ) → g < n → t < 46 → bad g t ≡ true → track_in ts g t ≡ None

-- ---- playing a list

-- playing gives a list: it is carried out, the first rows are its items, the output opens with its bytes, and the answer has their numbers
pub record Gives (a : Played) (output : List ℕ) (rows : List Row) (l : List Item) : Type 0 where
  pub carried : a.fault ≡ None
  pub items : a.rows ≡ length l
  pub bytes : a.bytes ≡ length (bytes_given l)
  pub first : take (length l) rows ≡ rows_given 0 l
  pub opens : take (length (bytes_given l)) output ≡ bytes_given l

-- what is lent is large enough for a list
pub record Large (z : Sizes) (l : List Item) : Type 0 where
  pub track : z.track ≡ 4608
  pub group : z.group ≡ 126632
  pub bench : z.bench ≡ 138048
  pub output : length (bytes_given l) ≤ z.output
  pub rows : length l ≤ z.rows

-- playing is declined with 17 at a group of the n that has a bad track
pub record Refuses (a : Played) (n : ℕ) (bad : ℕ → ℕ → Bool) : Type 0 where
  pub group : ℕ
  pub cause : GroupCause
  pub fault : a.fault ≡ Some (Group group cause)
  pub number : (cause_report group cause).0 ≡ 17
  pub first : 1 ≤ group
  pub last : group ≤ n
  pub bad-track : 1 ≤ count (bad (group - 1)) 46

-- ---- the promise, of a play of the tape ts with the answer a, and the output and rows after it

pub record Promise (c : Code) (x : Settings) (ts : List Track) (z : Sizes) (a : Played) (output : List ℕ) (rows : List Row) : Type 0 where
  -- of every recording whose groups have at most two tracks blank and the others lightly damaged, exactly its list is given
  pub kept : (before us : List Track) (n : ℕ) (l : List Item) (bad : ℕ → ℕ → Bool) → Finished c x before us n l → Blanked n bad us ts
      → Large z l → Gives a output rows l
  -- with anything at all in the place of the blanks, exactly its list, or a decline with 17 at such a group
  pub never-mixed : (before us : List Track) (n : ℕ) (l : List Item) (bad : ℕ → ℕ → Bool) → Finished c x before us n l → Damaged n bad us ts
      → Large z l → Gives a output rows l ⊎ Refuses a n bad
  -- two recordings that can be made alike by the damage of the first part have the same list
  pub told-apart : (before us after vs ws : List Track) (m n : ℕ) (k l : List Item) (bad worse : ℕ → ℕ → Bool) → Finished c x before us m k → Finished c x after vs n l
      → Blanked m bad us ws → Blanked n worse vs ws → k ≡ l

-- a play that gives what the definitions say keeps the promise
abbrev pub Promised : Type 0
Promised = (c : Code) (x : Settings) (ts : List Track) (z : Sizes) (output : List ℕ) (rows : List Row) → Lawful c → z.output ≡ length output → z.rows ≡ length rows
    → Promise c x ts z (answered (played c x ts z)) (output_after (played c x ts z) output) (rows_after (played c x ts z) rows)
