-- A group on its 46 tracks, and what they read as.
use Rattle.std.specs.Prelude.{◌≡◌, ℕ, zero, suc, ◌+◌, ◌*◌, ◌/◌, ◌%◌, ◌<◌, ◌≤◌, Bool, true, false, cond, ◌&&◌, ◌⊎◌, List, [], ◌++◌, length, take, drop, Some, None, Option, ◌==◌, slice_index}
use Rattle.reed_solomon.specs.Words.{Checks}
use Rattle.layout.specs.Counts.{count, which, listed}
use Rattle.layout.specs.Randomizer.{randomized}
use Rattle.layout.specs.Placing.{block_at, serial_at, number_at, is_data}
use Rattle.layout.specs.Words.{Array, Checked, Headed}
use Rattle.channel.specs.Line.{Code, Lawful}
use Rattle.layout.specs.Line.{Address, channel}
use Rattle.layout.specs.Reading.{filling, byte_at, Outcome, read, lost, reading}
use Rattle.layout.specs.Damage.{Light}

-- track k of group g
abbrev pub address : ℕ → ℕ → Address
address g k = record { group = g; frame = k / 2 + 1; minus = k % 2 }

-- the number of D_d in its row, and the row's sign
abbrev pub number_d : ℕ → ℕ
number_d d = 2 * (d / 4 + 1) + d % 2

abbrev pub sign_d : ℕ → ℕ
sign_d d = (d % 4 / 2 + (d / 4 + 1)) % 2

-- sub-group f, from 0, of a group
abbrev pub part : List ℕ → ℕ → List ℕ
part group f = take 5756 (drop (5756 * f) group)

-- the lists of n numbers from a on, joined
unfoldable pub joined : (ℕ → List ℕ) → ℕ → ℕ → List ℕ
joined f a zero = []
joined f a (suc n) = f a ++ joined f (a + 1) n

-- the first number that passes, of n from a on
unfoldable pub first_from : (ℕ → Bool) → ℕ → ℕ → Option ℕ
first_from f a zero = None
first_from f a (suc n) = cond (f a) (Some a) (first_from f (a + 1) n)

-- the C3 word at number q
unfoldable pub c3 : (ℕ → Array) → ℕ → List ℕ
c3 x q = listed (λ k. x k (block_at q) (serial_at q)) 46

-- the arrays of a group's tracks
pub record Written (tap start : ℕ) (group : List ℕ) (x : ℕ → Array) : Type 0 where
  pub size : length group ≡ 22 * 5756
  pub checked : (k : ℕ) → k < 46 → Checked (x k)
  pub headed : (k : ℕ) → k < 46 → Headed (k / 2 + 1) (x k)
  pub zeros : (k q : ℕ) → k < 46 → 2880 ≤ q → q < 2912 → x k (block_at q) (serial_at q) ≡ 0
  pub c3s : (q : ℕ) → 2 ≤ q → q < 2880 → Checks 2 (c3 x q)
  pub held : (f : ℕ) → f < 22 → listed (λ d. x (2 * f + sign_d d) (block_at (number_d d)) (serial_at (number_d d))) 5756 ≡ randomized tap start (part group f)

-- ---- reading

abbrev pub is_gone : Outcome → Bool
is_gone (read r) = false
is_gone (lost cause m n) = true

abbrev pub numbered : ℕ → Outcome → ℕ
numbered q (read r) = slice_index r q
numbered q (lost cause m n) = 0

abbrev pub is_none : Option (List ℕ) → Bool
is_none None = true
is_none (Some u) = false

-- the bytes, or the third lost track, or the first place whose C3 word does not check
pub data Found : Type 0 where
  whole : List ℕ → Found
  third : ℕ → Found
  unchecked : ℕ → ℕ → Found

-- o has the outcomes of the tracks
module _ (tap start : ℕ) (o : ℕ → Outcome) where
  unfoldable pub c3_filled : ℕ → Option (List ℕ)
  c3_filled q = filling 2 (which (λ k. is_gone (o k)) 46) (listed (λ k. numbered q (o k)) 46)

  unfoldable pub subgroup : ℕ → List ℕ
  subgroup f = randomized tap start (listed (λ d. byte_at (2 * f + sign_d d) (c3_filled (number_d d))) 5756)

  unfoldable pub third_lost : Option ℕ
  third_lost = first_from (λ k. is_gone (o k) && count (λ k. is_gone (o k)) k == 2) 0 46

  unfoldable pub first_bad : Option ℕ
  first_bad = first_from (λ p. is_data (p / 32) (p % 32) && is_none (c3_filled (number_at (p / 32) (p % 32)))) 0 4096

  abbrev pub judged_bytes : Option ℕ → Found
  judged_bytes None = whole (joined subgroup 0 22)
  judged_bytes (Some p) = unchecked (p / 32) (p % 32)

  abbrev pub judged_tracks : Option ℕ → Found
  judged_tracks None = judged_bytes first_bad
  judged_tracks (Some k) = third k

  unfoldable pub gathered : Found
  gathered = judged_tracks third_lost

-- a track is blank or has words
abbrev pub outcome : Code → Address → Option (List ℕ) → Outcome
outcome c t None = lost 1 0 0
outcome c t (Some ws) = reading c t (λ i. slice_index ws i)

unfoldable pub group_read : Code → ℕ → ℕ → ℕ → (ℕ → Option (List ℕ)) → Found
group_read c tap start g tracks = gathered tap start (λ k. outcome c (address g k) (tracks k))

-- a track's words, lightly damaged
abbrev pub LightTrack : Code → Address → Array → Option (List ℕ) → Type 0
LightTrack c t x None = ⊥
LightTrack c t x (Some ws) = Light (channel c t x) (λ i. slice_index ws i)

-- at most two tracks are bad, and the others lightly damaged
pub record Spared (c : Code) (g : ℕ) (x : ℕ → Array) (tracks : ℕ → Option (List ℕ)) (bad : ℕ → Bool) : Type 0 where
  pub two : count bad 46 ≤ 2
  pub others : (k : ℕ) → k < 46 → bad k ≡ false → LightTrack c (address g k) (x k) (tracks k)

-- with two tracks blank and the others lightly damaged, the group is read
abbrev pub Kept : Type 0
Kept = (c : Code) (tap start g : ℕ) (group : List ℕ) (x : ℕ → Array) (tracks : ℕ → Option (List ℕ)) (bad : ℕ → Bool) → Lawful c
    → Written tap start group x → Spared c g x tracks bad → ((k : ℕ) → k < 46 → bad k ≡ true → tracks k ≡ None)
    → group_read c tap start g tracks ≡ whole group

-- with anything on two tracks, it is read or a C3 word does not check
abbrev pub NeverMixed : Type 0
NeverMixed = (c : Code) (tap start g : ℕ) (group : List ℕ) (x : ℕ → Array) (tracks : ℕ → Option (List ℕ)) (bad : ℕ → Bool) → Lawful c
    → Written tap start group x → Spared c g x tracks bad
    → (group_read c tap start g tracks ≡ whole group) ⊎ ((b : ℕ) × (s : ℕ) × (group_read c tap start g tracks ≡ unchecked b s))
