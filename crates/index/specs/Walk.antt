-- Walking groups: what their entries finish, and the first fault.
use Rattle.std.specs.Prelude.{ℕ, suc, ◌+◌, ◌-◌, ◌*◌, Bool, true, false, cond, not, ◌&&◌, List, [], ◌∷◌, ◌++◌, length, Ok, Err, Result, ◌==◌, nat_le, nat_lt}
use Rattle.index.specs.declared.kind.Kind.{Kind}
use Rattle.index.specs.declared.kind.Kind.TheVariants.{Total, Mark, Middle, Start, Last, Entire, Skip, Unknown}
use Rattle.index.specs.declared.fault.IndexFault.{IndexFault}
use Rattle.index.specs.declared.fault.IndexFault.TheVariants.{GroupNumber, EntryCount, LastByte, TableZeros, Flag, Succession, Count, Totals, OpenRecord}
use Rattle.index.specs.declared.succession.State.{State}
use Rattle.index.specs.declared.succession.State.TheVariants.{Idle, Begun, Inside, Owing, Owed}
use Rattle.index.specs.Entries.{Entry, Item, Group}
use Rattle.index.specs.Succession.{known, permits, ends, parts_sum, is_idle, count_fits}

-- the position in the succession; inside a record, with its bytes so far and the warning of its first entry
pub data Position : Type 0 where
  idle : Position
  begun inside owing owed : List ℕ → ℕ → Position

-- the state of a position: of the bytes only their number
abbrev pub state_of : Position → State
state_of idle = Idle
state_of (begun a w) = Begun (length a) w
state_of (inside a w) = Inside (length a) w
state_of (owing a w) = Owing (length a) w
state_of (owed a w) = Owed (length a) w

-- a walk within a group: position, user bytes passed, and all items finished so far
pub record Walk : Type 0 where
  pub position : Position
  pub used : ℕ
  pub items : List Item

-- an entry of this kind may stand here, before the group's last
abbrev pub allowed : Position → Kind → Bool
allowed s k = permits (state_of s) k

-- the group may end here, by an entry of this kind
abbrev pub closes : Position → Kind → Bool
closes s k = ends (state_of s) k

-- the position after the group's skip
abbrev pub skipped : Position → Position
skipped idle = idle
skipped (begun a w) = inside a w
skipped (inside a w) = inside a w
skipped (owing a w) = owed a w
skipped (owed a w) = owed a w

-- the entry's count is right: limit is where the index begins, at the user bytes before the entry
abbrev pub counts : ℕ → ℕ → Position → Entry → Bool
counts limit at s p = count_fits limit at (parts_sum (state_of s)) p.count p.kind

-- the position after an entry outside a record
abbrev pub from_idle : List ℕ → ℕ → Kind → Position
from_idle bs w Total = idle
from_idle bs w Mark = idle
from_idle bs w Middle = idle
from_idle bs w Start = begun bs w
from_idle bs w Last = idle
from_idle bs w Entire = idle
from_idle bs w Skip = idle
from_idle bs w Unknown = idle

-- the position after an entry inside a record
abbrev pub from_inside : List ℕ → ℕ → Kind → Position
from_inside bs w Total = idle
from_inside bs w Mark = idle
from_inside bs w Middle = begun bs w
from_inside bs w Start = idle
from_inside bs w Last = owing bs w
from_inside bs w Entire = idle
from_inside bs w Skip = idle
from_inside bs w Unknown = idle

-- the position after an entry that is allowed
abbrev pub after : Position → Entry → Position
after idle p = from_idle p.bytes p.warned p.kind
after (begun a w) p = idle
after (inside a w) p = from_inside (a ++ p.bytes) w p.kind
after (owing a w) p = idle
after (owed a w) p = idle

-- the item that an entry outside a record finishes
abbrev pub idle_gives : Entry → Kind → List Item
idle_gives p Total = []
idle_gives p Mark = record { kind = p.count + 1; bytes = []; warned = p.warned } ∷ []
idle_gives p Middle = []
idle_gives p Start = []
idle_gives p Last = []
idle_gives p Entire = record { kind = 0; bytes = p.bytes; warned = p.warned } ∷ []
idle_gives p Skip = []
idle_gives p Unknown = []

-- the item that an allowed entry finishes
abbrev pub gives : Position → Entry → List Item
gives idle p = idle_gives p p.kind
gives (begun a w) p = []
gives (inside a w) p = []
gives (owing a w) p = record { kind = 0; bytes = a; warned = w } ∷ []
gives (owed a w) p = record { kind = 0; bytes = a; warned = w } ∷ []

-- the first fault ends a walk
abbrev pub next : {A B : Type 0} → Result A IndexFault → (A → Result B IndexFault) → Result B IndexFault
next (Ok a) f = f a
next (Err e) f = Err e

-- an entry before the group's last: flag, succession, count
abbrev pub step : ℕ → ℕ → Walk → Entry → Result Walk IndexFault
step limit i w p =
    cond (known p.kind)
    (cond (allowed w.position p.kind)
    (cond (counts limit w.used w.position p)
    (Ok (record { position = after w.position p; used = w.used + length p.bytes; items = w.items ++ gives w.position p }))
    (Err (Count i)))
    (Err (Succession i)))
    (Err (Flag i))

-- the group's last entry
abbrev pub close : ℕ → ℕ → Walk → Entry → Result Walk IndexFault
close limit i w p =
    cond (known p.kind)
    (cond (closes w.position p.kind)
    (cond (counts limit w.used w.position p)
    (Ok (record { position = skipped w.position; used = w.used; items = w.items }))
    (Err (Count i)))
    (Err (Succession i)))
    (Err (Flag i))

-- entries after which the group goes on
unfoldable pub walk : ℕ → ℕ → Walk → List Entry → Result Walk IndexFault
walk limit i w [] = Ok w
walk limit i w (p ∷ ps) = next (step limit i w p) (λ v. walk limit (suc i) v ps)

-- the list is empty
abbrev pub none : {A : Type 0} → List A → Bool
none [] = true
none (x ∷ xs) = false

-- all entries of a group
unfoldable pub whole : ℕ → ℕ → Walk → List Entry → Result Walk IndexFault
whole limit i w [] = Err EntryCount
whole limit i w (p ∷ ps) = cond (none ps) (close limit i w p) (next (step limit i w p) (λ v. whole limit (suc i) v ps))

-- how many items have a kind
unfoldable pub of_kind : ℕ → List Item → ℕ
of_kind k [] = 0
of_kind k (x ∷ xs) = cond (x.kind == k) 1 0 + of_kind k xs

-- a walk between groups
pub record Between : Type 0 where
  pub position : Position
  pub items : List Item

-- before group 1
abbrev pub beginning : Between
beginning = record { position = idle; items = [] }

-- a walk at the opening of a group
abbrev pub opening : Between → Walk
opening b = record { position = b.position; used = 0; items = b.items }

-- a group that ends like this and has this last byte leaves a record open for good
abbrev pub left_open : ℕ → State → Bool
left_open final s = final == 1 && not (is_idle s)

-- after the entries: the table's totals, then an open record
abbrev pub summed : Group → Walk → Result Between IndexFault
summed g w =
    cond (g.items == length w.items && (g.ones == of_kind 1 w.items && g.twos == of_kind 2 w.items))
    (cond (left_open g.final (state_of w.position)) (Err OpenRecord) (Ok (record { position = w.position; items = w.items })))
    (Err Totals)

-- one group, which should have the number n: the table's numbers, its entries, the table's totals, an open record
unfoldable pub walk_group : ℕ → Between → Group → Result Between IndexFault
walk_group n b g =
    cond (g.number == n)
    (cond (nat_lt 0 (length g.entries) && nat_le (length g.entries) 31650)
    (cond (nat_lt g.final 2)
    (cond g.padded
    (next (whole (126600 - 4 * length g.entries) 1 (opening b) g.entries) (λ w. summed g w))
    (Err TableZeros))
    (Err LastByte))
    (Err EntryCount))
    (Err GroupNumber)

-- groups that follow one another from number n on
unfoldable pub walk_groups : ℕ → Between → List Group → Result Between IndexFault
walk_groups n b [] = Ok b
walk_groups n b (g ∷ gs) = next (walk_group n b g) (λ c. walk_groups (suc n) c gs)
