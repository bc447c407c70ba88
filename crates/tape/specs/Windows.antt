-- What a window on a tape shows, and what it does to the tape below.
use Rattle.std.specs.Prelude.{ℕ, ◌+◌, List, length, take, drop, Some, None, slice_set}
use Rattle.tape.specs.declared.window.Window.{Window}
use Rattle.tape.specs.Tape.{Track, outcome, storing, blanking}

-- `count` tracks from `first` on, as far as the tape below has them
abbrev pub window_tracks : ℕ → ℕ → List Track → List Track
window_tracks first count ts = take count (drop first ts)

-- the tracks of the tape below after a store through the window: its track k is track first + k below
abbrev pub window_stored : ℕ → ℕ → List Track → ℕ → List ℕ → List Track
window_stored first count ts k buf =
    outcome (storing (length (window_tracks first count ts)) k buf) (slice_set ts (first + k) (Some buf)) ts

-- and after a blank
abbrev pub window_blanked : ℕ → ℕ → List Track → ℕ → List Track
window_blanked first count ts k = outcome (blanking (length (window_tracks first count ts)) k) (slice_set ts (first + k) None) ts

-- the tracks of a window, where `tracks` gives those of the tape below
abbrev pub shown : {X : Type 0} → (X → List Track) → Window X → List Track
shown tracks w = window_tracks w.first w.count (tracks w.below)

-- the tracks of the tape below after a store through a window
abbrev pub stored_below : {X : Type 0} → (X → List Track) → Window X → ℕ → List ℕ → List Track
stored_below tracks w = window_stored w.first w.count (tracks w.below)

-- and after a blank
abbrev pub blanked_below : {X : Type 0} → (X → List Track) → Window X → ℕ → List Track
blanked_below tracks w = window_blanked w.first w.count (tracks w.below)

-- what a window never changes, R being what the tape below never changes
abbrev pub WindowRest : Type 0 → Type 0
WindowRest R = R × (ℕ × (ℕ × (List Track × List Track)))

-- it is that, its two numbers, and the tracks before it and after it
abbrev pub rest_of : {X R : Type 0} → (X → R) → (X → List Track) → Window X → WindowRest R
rest_of rest tracks w =
    (rest w.below, (w.first, (w.count, (take w.first (tracks w.below), drop (w.first + w.count) (tracks w.below)))))
