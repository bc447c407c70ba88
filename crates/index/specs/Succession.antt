-- The succession of entries: which entry may follow where, and the state after it.
use Rattle.std.specs.Prelude.{ℕ, ◌+◌, ◌-◌, Bool, true, false, ◌&&◌, ◌==◌, nat_le, nat_lt}
use Rattle.index.specs.declared.kind.Kind.{Kind}
use Rattle.index.specs.declared.kind.Kind.TheVariants.{Total, Mark, Middle, Start, Last, Entire, Skip, Unknown}
use Rattle.index.specs.declared.succession.State.{State}
use Rattle.index.specs.declared.succession.State.TheVariants.{Idle, Begun, Inside, Owing, Owed}

-- the flag has a meaning
abbrev pub known : Kind → Bool
known Total = true
known Mark = true
known Middle = true
known Start = true
known Last = true
known Entire = true
known Skip = true
known Unknown = false

-- may follow outside a record
abbrev pub begins : Kind → Bool
begins Total = false
begins Mark = true
begins Middle = false
begins Start = true
begins Last = false
begins Entire = true
begins Skip = false
begins Unknown = false

-- may open a group inside a record
abbrev pub continues : Kind → Bool
continues Total = false
continues Mark = false
continues Middle = true
continues Start = false
continues Last = true
continues Entire = false
continues Skip = false
continues Unknown = false

-- the entry is a total
abbrev pub totals : Kind → Bool
totals Total = true
totals Mark = false
totals Middle = false
totals Start = false
totals Last = false
totals Entire = false
totals Skip = false
totals Unknown = false

-- the entry is a skip
abbrev pub skips : Kind → Bool
skips Total = false
skips Mark = false
skips Middle = false
skips Start = false
skips Last = false
skips Entire = false
skips Skip = true
skips Unknown = false

-- an entry of this kind may stand here, before the group's last
abbrev pub permits : State → Kind → Bool
permits Idle k = begins k
permits (Begun n w) k = false
permits (Inside n w) k = continues k
permits (Owing n w) k = totals k
permits (Owed n w) k = totals k

-- the group may end here, by an entry of this kind
abbrev pub ends : State → Kind → Bool
ends Idle k = skips k
ends (Begun n w) k = skips k
ends (Inside n w) k = false
ends (Owing n w) k = skips k
ends (Owed n w) k = false

-- the state after the group's skip
abbrev pub ended : State → State
ended Idle = Idle
ended (Begun n w) = Inside n w
ended (Inside n w) = Inside n w
ended (Owing n w) = Owed n w
ended (Owed n w) = Owed n w

-- the state after an entry outside a record, that names n bytes and has the warning w
abbrev pub moved_idle : Kind → ℕ → ℕ → State
moved_idle Total n w = Idle
moved_idle Mark n w = Idle
moved_idle Middle n w = Idle
moved_idle Start n w = Begun n w
moved_idle Last n w = Idle
moved_idle Entire n w = Idle
moved_idle Skip n w = Idle
moved_idle Unknown n w = Idle

-- the state after an entry inside a record that then has n bytes, and whose first entry has the warning w
abbrev pub moved_inside : Kind → ℕ → ℕ → State
moved_inside Total n w = Idle
moved_inside Mark n w = Idle
moved_inside Middle n w = Begun n w
moved_inside Start n w = Idle
moved_inside Last n w = Owing n w
moved_inside Entire n w = Idle
moved_inside Skip n w = Idle
moved_inside Unknown n w = Idle

-- the state after an entry that may stand here, that names n bytes and has the warning w
abbrev pub moved : State → Kind → ℕ → ℕ → State
moved Idle k n w = moved_idle k n w
moved (Begun m v) k n w = Idle
moved (Inside m v) k n w = moved_inside k (m + n) v
moved (Owing m v) k n w = Idle
moved (Owed m v) k n w = Idle

-- the sum of the open record's parts
abbrev pub parts_sum : State → ℕ
parts_sum Idle = 0
parts_sum (Begun n w) = n
parts_sum (Inside n w) = n
parts_sum (Owing n w) = n
parts_sum (Owed n w) = n

-- outside any record
abbrev pub is_idle : State → Bool
is_idle Idle = true
is_idle (Begun n w) = false
is_idle (Inside n w) = false
is_idle (Owing n w) = false
is_idle (Owed n w) = false

-- a part of n bytes, behind at user bytes, has a byte or more and ends before the index, which begins at limit
abbrev pub within : ℕ → ℕ → ℕ → Bool
within limit at n = nat_lt 0 n && nat_le (at + n) limit

-- the count n is right: at user bytes stand before the entry, and the open record's parts have the given sum
abbrev pub count_fits : ℕ → ℕ → ℕ → ℕ → Kind → Bool
count_fits limit at sum n Total = n == sum
count_fits limit at sum n Mark = nat_lt n 2
count_fits limit at sum n Middle = within limit at n
count_fits limit at sum n Start = within limit at n
count_fits limit at sum n Last = within limit at n
count_fits limit at sum n Entire = within limit at n
count_fits limit at sum n Skip = n == 126632 - at
count_fits limit at sum n Unknown = false
