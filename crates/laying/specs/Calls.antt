-- Calls on an open recording, and the list that follows from those carried out.
use Rattle.std.specs.Prelude.{◌≡◌, ℕ, ◌+◌, ◌-◌, ◌*◌, ◌≤◌, cond, ◌&&◌, ◌||◌, List, [], ◌∷◌, ◌++◌, map, length, Ok, ◌==◌, nat_lt}
use Rattle.index.specs.Entries.{Item, Group, used}
use Rattle.index.specs.Walk.{Position.idle, Between, walk, walk_groups, of_kind}
use Rattle.std.specs.List.{AllByRecursion}
use Rattle.laying.specs.Lay.{Recording, lay_mark, lay_record, record_ends, mark_ends, current, stored, Finishes}
use Rattle.index.specs.Bytes.{Small, group_of, read_group}

pub data Call : Type 0 where
  record' : List ℕ → Call
  mark' : ℕ → Call
  warn' : Call

-- what is recorded are bytes
abbrev pub Sends : Call → Type 0
Sends (record' bs) = Small bs
Sends (mark' k) = Unit {0}
Sends warn' = Unit {0}

abbrev pub made : ℕ → Recording
made g = record { done = []; open' = []; items = 0; ones = 0; twos = 0; warned = 0; limit = g }

-- the number with which the recording declines a call, or 0
abbrev pub declines : Recording → Call → ℕ
declines s (record' bs) =
    cond (length bs == 0 || nat_lt 16777215 (length bs)) 11 (cond (nat_lt s.limit (record_ends (length bs) s)) 12 0)
declines s (mark' k) = cond (k == 1 || k == 2) (cond (nat_lt s.limit (mark_ends s)) 12 0) 13
declines s warn' = 0

abbrev pub warning : Recording → Recording
warning s = record
    { done = s.done; open' = s.open'; items = s.items; ones = s.ones; twos = s.twos; warned = 1; limit = s.limit }

-- a call carried out
abbrev pub carried : Recording → Call → Recording
carried s (record' bs) = lay_record bs s
carried s (mark' k) = lay_mark k s
carried s warn' = warning s

-- a list and its warning
pub record Listed : Type 0 where
  pub items : List Item
  pub warned : ℕ

abbrev pub nothing : Listed
nothing = record { items = []; warned = 0 }

-- a list after a call that was carried out
abbrev pub listed : Listed → Call → Listed
listed l (record' bs) = record { items = l.items ++ (record { kind = 0; bytes = bs; warned = l.warned } ∷ []); warned = l.warned }
listed l (mark' k) = record { items = l.items ++ (record { kind = k; bytes = []; warned = l.warned } ∷ []); warned = l.warned }
listed l warn' = record { items = l.items; warned = 1 }

-- a recording, and its list
pub record Running : Type 0 where
  pub state : Recording
  pub list : Listed

-- one call; the first number is 0, or that of a decline for the sake of lent memory or the tape
abbrev pub called : Running → ℕ × Call → Running
called r c =
    cond (c.0 == 0 && declines r.state c.1 == 0) (record { state = carried r.state c.1; list = listed r.list c.1 }) r

unfoldable pub ran : Running → List (ℕ × Call) → Running
ran r [] = r
ran r (c ∷ cs) = ran (called r c) cs

abbrev pub begin : ℕ → Running
begin g = record { state = made g; list = nothing }

-- walking the groups completed so far, and then the entries of the open one, gives the list and stands at idle
pub record Holds (s : Recording) (l : Listed) : Type 0 where
  pub before : Between
  pub groups : walk_groups 1 (record { position = idle; items = [] }) s.done ≡ Ok before
  pub open'' : walk (126596 - 4 * length s.open') 1 (record { position = before.position; used = 0; items = before.items }) s.open'
      ≡ Ok (record { position = idle; used = used s.open'; items = l.items })
  pub fits : used s.open' + 4 * length s.open' ≤ 126596
  pub items : s.items ≡ length l.items
  pub ones : s.ones ≡ of_kind 1 l.items
  pub twos : s.twos ≡ of_kind 2 l.items
  pub warned : s.warned ≡ l.warned
  pub within : current s ≤ s.limit

-- after any calls, carried out or declined
abbrev pub Faithful : Type 0
Faithful = (g : ℕ) (cs : List (ℕ × Call)) → AllByRecursion (λ c. Sends c.1) cs → 1 ≤ g → Holds (ran (begin g) cs).state (ran (begin g) cs).list

-- the groups of a recording that is closed
abbrev pub closed : Recording → List Group
closed s = s.done ++ (stored 1 s ∷ [])

-- as bytes
abbrev pub groups_of : Recording → List (List ℕ)
groups_of s = map group_of (closed s)

-- the groups of a closed recording are read from their bytes, there are at most as many as the limit, and walking them gives the list and ends outside any record
pub record Closes (s : Recording) (l : Listed) : Type 0 where
  pub read : map read_group (groups_of s) ≡ closed s
  pub walked : walk_groups 1 (record { position = idle; items = [] }) (closed s) ≡ Ok (record { position = idle; items = l.items })
  pub number : length (closed s) ≤ s.limit
  pub on : AllByRecursion (λ g. g.final ≡ 0) s.done

abbrev pub Recorded : Type 0
Recorded = (g : ℕ) (cs : List (ℕ × Call)) → AllByRecursion (λ c. Sends c.1) cs → 1 ≤ g → g ≤ 65535 → Closes (ran (begin g) cs).state (ran (begin g) cs).list

-- the last entry of a record stands in the group that was predicted, which is then the open one
abbrev pub Predicted : Type 0
Predicted = (g : ℕ) (cs : List (ℕ × Call)) (bs : List ℕ) → AllByRecursion (λ c. Sends c.1) cs → Small bs → 1 ≤ g → 1 ≤ length bs → length bs ≤ 16777215
    → (current (lay_record bs (ran (begin g) cs).state) ≡ record_ends (length bs) (ran (begin g) cs).state) × Finishes (lay_record bs (ran (begin g) cs).state)
