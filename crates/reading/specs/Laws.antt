-- What holds of every reading.
use Rattle.std.specs.Prelude.{◌≡◌, ℕ, ◌+◌, ◌/◌, ◌<◌, Bool, true, ◌⊎◌, List, None, Ok, Err}
use Rattle.tape.specs.Tape.{Track}
use Rattle.layout.specs.Words.{Array, Checked, Headed, row}
use Rattle.channel.specs.Line.{Code, Lawful}
use Rattle.layout.specs.Line.{Address, channel}
use Rattle.layout.specs.Reading.{Outcome, read, lost, reading}
use Rattle.layout.specs.Damage.{Light}
use Rattle.layout.specs.Group.{address, outcome, Written, Spared}
use Rattle.losses.specs.declared.fault.ReadFault.TheVariants.{Unchecked}
use Rattle.reading.specs.Arrays.{at}
use Rattle.losses.specs.Losses.{cause_number, no_loss, loss_row, row_after}
use Rattle.reading.specs.Groups.{tracks_of, findings, found, answer_of, group_after}

-- the number of an outcome's cause
abbrev pub outcome_number : Outcome → ℕ
outcome_number (read r) = 0
outcome_number (lost c m n) = c

-- the row of every track has the number of its cause, and a C2 word's m and n
pub record RowsFit : Type 0 where
  pub cause : (c : Code) (t : Address) (track : Track) → cause_number (loss_row (outcome c t track)).cause ≡ outcome_number (outcome c t track)
  pub word : (c : Code) (t : Address) (track : Track) → ((loss_row (outcome c t track)).m < 4) × ((loss_row (outcome c t track)).n < 32)

-- a lightly damaged track of an array is read, and gives the array's occupied places
abbrev pub TrackKept : Type 0
TrackKept = (c : Code) (g t : ℕ) (x : Array) (ws old : List ℕ) → Lawful c → t < 46 → Checked x → Headed (t / 2 + 1) x → Light (channel c (address g t) x) (at ws)
    → (loss_row (reading c (address g t) (at ws)) ≡ no_loss) × (row_after (reading c (address g t) (at ws)) old ≡ row x)

-- of a group's tracks, two at most are bad, and the others lightly damaged
module _ (c : Code) (tap start g : ℕ) (tracks : List Track) (group old : List ℕ) where
  -- the group is read
  abbrev pub Given : Type 0
  Given = (answer_of (findings c g tracks) (found c tap start g tracks) ≡ Ok tt) × (group_after (found c tap start g tracks) old ≡ group)

  -- it is declined, since a C3 word does not check
  abbrev pub Declined : Type 0
  Declined = (b : ℕ) × (s : ℕ) × (answer_of (findings c g tracks) (found c tap start g tracks) ≡ Err (Unchecked b s)) × (group_after (found c tap start g tracks) old ≡ old)

-- with the bad tracks blank, the group is read
abbrev pub GroupKept : Type 0
GroupKept = (c : Code) (tap start g : ℕ) (tracks : List Track) (group old : List ℕ) (x : ℕ → Array) (bad : ℕ → Bool) → Lawful c → Written tap start group x
    → Spared c g x (tracks_of g tracks) bad → ((k : ℕ) → k < 46 → bad k ≡ true → tracks_of g tracks k ≡ None) → Given c tap start g tracks group old

-- with anything on the bad tracks, it is read, or declined and nothing is given
abbrev pub GroupUnmixed : Type 0
GroupUnmixed = (c : Code) (tap start g : ℕ) (tracks : List Track) (group old : List ℕ) (x : ℕ → Array) (bad : ℕ → Bool) → Lawful c → Written tap start group x
    → Spared c g x (tracks_of g tracks) bad → Given c tap start g tracks group old ⊎ Declined c tap start g tracks group old
