-- Walking a group by numbers alone: of the items their numbers, of the open record the sum of its parts.
use Rattle.std.specs.Prelude.{◌≡◌, ℕ, suc, ◌+◌, ◌-◌, ◌*◌, ◌^◌, ◌<◌, ◌≤◌, min, cond, ◌&&◌, List, [], ◌∷◌, length, Ok, Err, Result, ◌==◌, nat_le, nat_lt, slice_index}
use Rattle.index.specs.declared.kind.Kind.{Kind}
use Rattle.index.specs.declared.fault.IndexFault.{IndexFault}
use Rattle.index.specs.declared.fault.IndexFault.TheVariants.{GroupNumber, EntryCount, LastByte, TableZeros, Flag, Succession, Count, Totals, OpenRecord}
use Rattle.index.specs.declared.succession.State.{State}
use Rattle.index.specs.declared.table.Table.{Table}
use Rattle.index.specs.declared.tally.Counts.{Counts}
use Rattle.index.specs.declared.tally.Tally.{Tally}
use Rattle.index.specs.Entries.{Entry, Item, finishes, marks}
use Rattle.index.specs.Succession.{known, permits, ends, ended, moved, parts_sum, count_fits}
use Rattle.index.specs.Walk.{Walk, Between, state_of, of_kind, next, none, left_open, walk_group}
use Rattle.index.specs.Bytes.{number, empty, read_entries, read_group}

-- the numbers of items and of marks of each kind
abbrev pub counts_of : List Item → Counts
counts_of l = record { items = length l; ones = of_kind 1 l; twos = of_kind 2 l }

-- these numbers after an entry
abbrev pub counted : Counts → Kind → ℕ → Counts
counted c k n = record {
  items = c.items + finishes k;
  ones = c.ones + cond (marks k && n == 0) 1 0;
  twos = c.twos + cond (marks k && n == 1) 1 0;
}

-- these numbers as 32 bits hold them: none above 4,294,967,295
abbrev pub capped : Counts → Counts
capped c = record { items = min c.items 4294967295; ones = min c.ones 4294967295; twos = min c.twos 4294967295 }

-- a walk within a group, by numbers
abbrev pub tally_of : Walk → Tally
tally_of w = record { state = state_of w.position; used = w.used; counts = counts_of w.items }

-- an entry before the group's last
abbrev pub stepped : ℕ → ℕ → Tally → Entry → Result Tally IndexFault
stepped limit i t p =
    cond (known p.kind)
    (cond (permits t.state p.kind)
    (cond (count_fits limit t.used (parts_sum t.state) p.count p.kind)
    (Ok (record { state = moved t.state p.kind (length p.bytes) p.warned; used = t.used + length p.bytes; counts = counted t.counts p.kind p.count }))
    (Err (Count i)))
    (Err (Succession i)))
    (Err (Flag i))

-- the group's last entry
abbrev pub closed : ℕ → ℕ → Tally → Entry → Result Tally IndexFault
closed limit i t p =
    cond (known p.kind)
    (cond (ends t.state p.kind)
    (cond (count_fits limit t.used (parts_sum t.state) p.count p.kind)
    (Ok (record { state = ended t.state; used = t.used; counts = t.counts }))
    (Err (Count i)))
    (Err (Succession i)))
    (Err (Flag i))

-- all entries of a group
unfoldable pub tallied : ℕ → ℕ → Tally → List Entry → Result Tally IndexFault
tallied limit i t [] = Err EntryCount
tallied limit i t (p ∷ ps) = cond (none ps) (closed limit i t p) (next (stepped limit i t p) (λ u. tallied limit (suc i) u ps))

-- the table's numbers, in their order
abbrev pub table_checked : ℕ → Table → Result (Unit {0}) IndexFault
table_checked n t =
    cond (t.number == n)
    (cond (nat_lt 0 t.entries && nat_le t.entries 31650)
    (cond (nat_lt t.last 2) (cond t.zeros (Ok tt) (Err TableZeros)) (Err LastByte))
    (Err EntryCount))
    (Err GroupNumber)

-- after the entries: the table's totals, then an open record
abbrev pub totals_checked : Table → Tally → Result Tally IndexFault
totals_checked a t =
    cond (a.counts.items == t.counts.items && (a.counts.ones == t.counts.ones && a.counts.twos == t.counts.twos))
    (cond (left_open a.last t.state) (Err OpenRecord) (Ok t))
    (Err Totals)

-- a group's table
abbrev pub table_in : List ℕ → Table
table_in g = record {
  number = number 2 126600 g;
  entries = number 2 126602 g;
  counts = record { items = number 4 126604 g; ones = number 4 126608 g; twos = number 4 126612 g };
  last = slice_index g 126616;
  zeros = empty g 126617 15;
}

-- a tally at the opening of a group
abbrev pub opened : State → Counts → Tally
opened s c = record { state = s; used = 0; counts = c }

-- the entries of a group, as many as its table says
abbrev pub entries_tallied : Tally → List ℕ → Result Tally IndexFault
entries_tallied t g = tallied (126600 - 4 * number 2 126602 g) 1 t (read_entries g (number 2 126602 g) 126600 0)

-- one group, which should have the number n, from its bytes
unfoldable pub group_tallied : ℕ → State → Counts → List ℕ → Result Tally IndexFault
group_tallied n s c g =
    next (table_checked n (table_in g)) (λ u. next (entries_tallied (opened s c) g) (λ t. totals_checked (table_in g) t))

-- a result by numbers
abbrev pub on_ok : {A B : Type 0} → (A → B) → Result A IndexFault → Result B IndexFault
on_ok f (Ok a) = Ok (f a)
on_ok f (Err e) = Err e

-- of a walk between groups, the state and the numbers
abbrev pub numbers_of : Between → State × Counts
numbers_of b = (state_of b.position, counts_of b.items)

-- of a tally, the state and the numbers
abbrev pub numbers_in : Tally → State × Counts
numbers_in t = (t.state, t.counts)

-- walking a group by numbers gives the state and the numbers of walking it
abbrev pub Agreed : Type 0
Agreed = (n : ℕ) (b : Between) (g : List ℕ)
    → on_ok numbers_of (walk_group n b (read_group g)) ≡ on_ok numbers_in (group_tallied n (state_of b.position) (counts_of b.items) g)

-- what a call that changes a tally in place has done
abbrev pub outcome : Result (Unit {0}) IndexFault → Tally → Result Tally IndexFault
outcome (Ok u) t = Ok t
outcome (Err e) t = Err e

-- numbers that stay far from the limits of their types
pub record Small (t : Tally) : Type 0 where
  pub sum : parts_sum t.state < 2 ^ 63
  pub used : t.used ≤ 126632
  pub items : t.counts.items < 2 ^ 32 - 1
  pub ones : t.counts.ones < 2 ^ 32 - 1
  pub twos : t.counts.twos < 2 ^ 32 - 1

-- a tally after an entry that names n bytes
pub record Grown (t u : Tally) (n : ℕ) : Type 0 where
  pub sum : parts_sum u.state ≤ parts_sum t.state + n
  pub used : u.used ≡ t.used + n
  pub items : u.counts.items ≤ t.counts.items + 1
  pub ones : u.counts.ones ≤ t.counts.ones + 1
  pub twos : u.counts.twos ≤ t.counts.twos + 1

-- a tally at a group's opening, with numbers far from the limits of their types
pub record Starts (t : Tally) (place : ℕ) : Type 0 where
  pub sum : parts_sum t.state < 2 ^ 62
  pub used : t.used ≡ place
  pub items : t.counts.items < 2 ^ 31
  pub ones : t.counts.ones < 2 ^ 31
  pub twos : t.counts.twos < 2 ^ 31
