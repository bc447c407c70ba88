-- Laying items into groups.
use Rattle.std.specs.Prelude.{◌≡◌, ℕ, zero, suc, ◌+◌, ◌-◌, ◌*◌, ◌/◌, ◌≤◌, true, cond, ◌&&◌, List, [], ◌∷◌, ◌++◌, length, take, drop, ◌==◌, nat_le}
use Rattle.index.specs.declared.kind.Kind.{Kind}
use Rattle.index.specs.declared.kind.Kind.TheVariants.{Total, Mark, Middle, Start, Last, Entire, Skip}
use Rattle.index.specs.Writing.{group_with}
use Rattle.index.specs.Entries.{Entry, Group, used, finishes, marks}

-- an open recording: the groups completed, the entries of the open one, totals since group 1, 1 after a warning, and G
pub record Recording : Type 0 where
  pub done : List Group
  pub open' : List Entry
  pub items : ℕ
  pub ones : ℕ
  pub twos : ℕ
  pub warned : ℕ
  pub limit : ℕ

-- the number of the open group
abbrev pub current : Recording → ℕ
current s = suc (length s.done)

-- what is free in a group for further entries and their bytes; the skip's room is set aside
abbrev pub free : Recording → ℕ
free s = 126596 - used s.open' - 4 * length s.open'

abbrev pub entry : Recording → Kind → ℕ → List ℕ → Entry
entry s k n bs = record { kind = k; count = n; warned = s.warned; bytes = bs }

-- an entry that names its bytes by their number
abbrev pub part : Recording → Kind → List ℕ → Entry
part s k bs = entry s k (length bs) bs

abbrev pub put : Entry → Recording → Recording
put p s = record {
  done = s.done;
  open' = s.open' ++ (p ∷ []);
  items = s.items + finishes p.kind;
  ones = s.ones + cond (marks p.kind && p.count == 0) 1 0;
  twos = s.twos + cond (marks p.kind && p.count == 1) 1 0;
  warned = s.warned;
  limit = s.limit;
}

-- the open group as it is stored
abbrev pub stored : ℕ → Recording → Group
stored final s = record {
  number = current s;
  items = s.items;
  ones = s.ones;
  twos = s.twos;
  final = final;
  padded = true;
  entries = s.open' ++ (entry s Skip (126632 - used s.open') [] ∷ []);
}

abbrev pub complete : Recording → Recording
complete s = record {
  done = s.done ++ (stored 0 s ∷ []);
  open' = [];
  items = s.items;
  ones = s.ones;
  twos = s.twos;
  warned = s.warned;
  limit = s.limit;
}

-- an item that needs n free begins here, or in a new group
abbrev pub room : ℕ → Recording → Recording
room n s = cond (nat_le n (free s)) s (complete s)

abbrev pub lay_mark : ℕ → Recording → Recording
lay_mark k s = put (entry (room 4 s) Mark (k - 1) []) (room 4 s)

-- the rest of a record of n bytes, from the opening of a group on; the first number bounds the groups that it may take
unfoldable pub lay_rest : ℕ → ℕ → List ℕ → Recording → Recording
lay_rest zero n bs s = s
lay_rest (suc f) n bs s =
    cond (nat_le (length bs + 8) (free s))
    (put (entry s Total n []) (put (part s Last bs) s))
    (cond (nat_le (length bs + 4) (free s))
    (put (entry s Total n []) (complete (put (part s Last bs) s)))
    (lay_rest f n (drop (free s - 4) bs) (complete (put (part s Middle (take (free s - 4) bs)) s))))

abbrev pub lay_parts : List ℕ → Recording → Recording
lay_parts bs s = lay_rest (length bs) (length bs) (drop (free s - 4) bs) (complete (put (part s Start (take (free s - 4) bs)) s))

abbrev pub lay_begun : List ℕ → Recording → Recording
lay_begun bs s = cond (nat_le (length bs + 4) (free s)) (put (part s Entire bs) s) (lay_parts bs s)

abbrev pub lay_record : List ℕ → Recording → Recording
lay_record bs s = lay_begun bs (room 5 s)

-- the group in which the last entry of a rest of r bytes stands, if the rest opens group g
abbrev pub rest_ends : ℕ → ℕ → ℕ
rest_ends g r = g + (r + 3) / 126592

abbrev pub begun_ends : ℕ → Recording → ℕ
begun_ends n s = cond (nat_le (n + 4) (free s)) (current s) (rest_ends (suc (current s)) (n - (free s - 4)))

-- the group in which the last entry of a record of n bytes would stand
abbrev pub record_ends : ℕ → Recording → ℕ
record_ends n s = begun_ends n (room 5 s)

abbrev pub mark_ends : Recording → ℕ
mark_ends s = current (room 4 s)

-- the last entry of the open group finishes an item
pub record Finishes (s : Recording) : Type 0 where
  pub before : List Entry
  pub last : Entry
  pub is : s.open' ≡ before ++ (last ∷ [])
  pub item : finishes last.kind ≡ 1

-- any bound from the rest's length on lays the same
abbrev pub BoundFree : Type 0
BoundFree = (f h n : ℕ) (bs : List ℕ) (s : Recording) → 5 ≤ free s → 1 ≤ length bs → length bs ≤ f → length bs ≤ h
    → lay_rest f n bs s ≡ lay_rest h n bs s

-- the open group of a recording, completed, is the group that it stores
abbrev pub StoresOpen : Type 0
StoresOpen = (final : ℕ) (s : Recording)
    → group_with s.open' s.warned (current s) (record { items = s.items; ones = s.ones; twos = s.twos }) final ≡ stored final s
