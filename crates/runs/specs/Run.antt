-- Runs: a recording is made on a tape, called any number of times, and closed.
use Rattle.std.specs.Prelude.{◌≡◌, ℕ, ◌*◌, ◌/◌, ◌<◌, ◌≤◌, min, cond, ◌&&◌, List, [], ◌∷◌, length, drop, ◌==◌, ◌≢◌, nat_le, nat_lt}
use Rattle.tape.specs.Tape.{Track}
use Rattle.channel.specs.Line.{Code}
use Rattle.layout.specs.declared.settings.Settings.{Settings}
use Rattle.writing.specs.Groups.{with_group}
use Rattle.index.specs.Entries.{Item, Group}
use Rattle.index.specs.Bytes.{group_of}
use Rattle.laying.specs.Lay.{Recording, stored}
use Rattle.laying.specs.Calls.{Call, Call.record', Call.mark', Call.warn', Sends, Listed, made, nothing, declines, carried, listed, closed}

-- the tape with a group stored at its place
abbrev pub on_tape : Code → Settings → Group → List Track → List Track
on_tape c x g ts = with_group c x.tap x.start g.number (group_of g) ts

-- groups stored one after another
unfoldable pub all_on_tape : Code → Settings → List Group → List Track → List Track
all_on_tape c x [] ts = ts
all_on_tape c x (g ∷ gs) ts = all_on_tape c x gs (on_tape c x g ts)

-- G, the number of groups that a recording on a tape of n tracks may have
abbrev pub groups_on : ℕ → ℕ
groups_on n = min 65535 (n / 46)

-- the number that the check for making gives, for a group buffer and a tape of these lengths
abbrev pub refusal : Settings → ℕ → ℕ → ℕ
refusal x buffer tracks =
    cond (nat_lt x.tap 32768 && nat_lt x.start 32768) (cond (buffer == 126632) (cond (nat_le 46 tracks) 0 10) 9) 8

-- the lengths of the track buffer and of the bench that are lent to a call
pub record Lent : Type 0 where
  pub track : ℕ
  pub bench : ℕ

-- the number with which a call is declined for what is lent, or for a tape of n tracks that are fewer than G groups; or 0
abbrev pub lacks : Lent → ℕ → ℕ → ℕ
lacks m limit n = cond (m.track == 4608) (cond (m.bench == 138048) (cond (nat_lt n (46 * limit)) 14 0) 15) 6

-- a warning needs neither
abbrev pub lacking : Lent → Recording → List Track → Call → ℕ
lacking m s ts (record' bs) = lacks m s.limit (length ts)
lacking m s ts (mark' k) = lacks m s.limit (length ts)
lacking m s ts warn' = 0

-- the groups that a call completes
abbrev pub completes : Recording → Call → List Group
completes s a = drop (length s.done) (carried s a).done

-- an open recording that was made on the tape `before`, the tape now, and the list so far
pub data Run (c : Code) (x : Settings) (before : List Track) : Recording → List Track → Listed → Type 0 where
  make : x.tap < 32768 → x.start < 32768 → 46 ≤ length before → Run c x before (made (groups_on (length before))) before nothing
  carry : {s : Recording} {ts : List Track} {l : Listed} (m : Lent) (a : Call) → Sends a → Run c x before s ts l → lacking m s ts a ≡ 0
      → declines s a ≡ 0 → Run c x before (carried s a) (all_on_tape c x (completes s a) ts) (listed l a)
  decline : {s : Recording} {ts : List Track} {l : Listed} (m : Lent) (a : Call) → Run c x before s ts l
      → (lacking m s ts a ≡ 0 → declines s a ≢ 0) → Run c x before s ts l

-- a recording that was closed without a decline: the tape then, its number of groups, and its list
pub record Finished (c : Code) (x : Settings) (before ts : List Track) (groups : ℕ) (l : List Item) : Type 0 where
  pub state : Recording
  pub tape : List Track
  pub list : Listed
  pub run : Run c x before state tape list
  pub lent : Lent
  pub taken : lacks lent state.limit (length tape) ≡ 0
  pub after : ts ≡ on_tape c x (stored 1 state) tape
  pub number : groups ≡ length (closed state)
  pub items : l ≡ list.items
