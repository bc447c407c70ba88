-- What a walk over groups answers, and where it stands then.
use Rattle.std.specs.Prelude.{◌≡◌, ℕ, ◌+◌, cond, List, length, Ok, Err, Result, ◌==◌, slice_index}
use Rattle.index.specs.declared.fault.IndexFault.{IndexFault}
use Rattle.index.specs.declared.fault.GroupFault.{GroupFault}
use Rattle.index.specs.declared.fault.GroupFault.TheVariants.{WrongLength, Index}
use Rattle.index.specs.declared.succession.State.{State}
use Rattle.index.specs.declared.tally.Counts.{Counts}
use Rattle.index.specs.declared.tally.Tally.{Tally}
use Rattle.index.specs.declared.walk.Walk.{Walk}
use Rattle.index.specs.declared.walk.Ending.{Ending}
use Rattle.index.specs.declared.walk.Ending.TheVariants.{GoesOn, Last}
use Rattle.index.specs.Walk.{Between}
use Rattle.index.specs.Counted.{group_tallied, numbers_of}

-- the number of the next group, the state and the numbers
abbrev pub standing : Walk → ℕ × State × Counts
standing w = (w.number, w.state, w.counts)

-- of these, the state and the numbers
abbrev pub state_counts : ℕ × State × Counts → State × Counts
state_counts s = (s.1, s.2)

-- the group's bytes, walked from where a walk stands
abbrev pub tally_from : Walk → List ℕ → Result Tally IndexFault
tally_from w g = group_tallied w.number w.state w.counts g

-- whether groups follow, by the table's last byte
abbrev pub ending_of : ℕ → Ending
ending_of b = cond (b == 1) Last GoesOn

-- the answer for a group with this last byte
abbrev pub ending : {A : Type 0} → ℕ → Result A IndexFault → Result Ending GroupFault
ending b (Ok t) = Ok (ending_of b)
ending b (Err e) = Err (Index e)

-- the answer for a group
abbrev pub answered : Walk → List ℕ → Result Ending GroupFault
answered w g = cond (length g == 126632) (ending (slice_index g 126616) (tally_from w g)) (Err WrongLength)

-- a fault changes nothing
abbrev pub moved_on : ℕ × State × Counts → Result Tally IndexFault → ℕ × State × Counts
moved_on s (Ok t) = (s.0 + 1, t.state, t.counts)
moved_on s (Err e) = s

-- where the walk stands after a group
abbrev pub standing_after : Walk → List ℕ → ℕ × State × Counts
standing_after w g = cond (length g == 126632) (moved_on (standing w) (tally_from w g)) (standing w)

-- an answer and the state after it are those of a walk of the group
abbrev pub Gave : ℕ → Result Ending GroupFault → State × Counts → Result Between IndexFault → Type 0
Gave b r s (Ok c) = (r ≡ Ok (ending_of b)) × (numbers_of c ≡ s)
Gave b r s (Err e) = r ≡ Err (Index e)
