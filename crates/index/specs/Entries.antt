-- Entries of a group's index, each with the user bytes that it names, and what a group and a list of items are.
use Rattle.std.specs.Prelude.{◌≡◌, ℕ, suc, ◌+◌, Bool, true, false, List, [], ◌∷◌, length}
use Rattle.index.specs.declared.kind.Kind.{Kind}
use Rattle.index.specs.declared.kind.Kind.TheVariants.{Total, Mark, Middle, Start, Last, Entire, Skip, Unknown}

-- an entry: its kind, its count, 1 after a warning and else 0, and the user bytes that it names
pub record Entry : Type 0 where
  pub kind : Kind
  pub count : ℕ
  pub warned : ℕ
  pub bytes : List ℕ

-- an item of a recording: kind 0 is a record, 1 and 2 are marks
pub record Item : Type 0 where
  pub kind : ℕ
  pub bytes : List ℕ
  pub warned : ℕ

-- a group: the table's numbers (items, marks of kind 1 and of kind 2 since group 1, and its last byte), whether the
-- table ends in zeros, and the entries with the skip
pub record Group : Type 0 where
  pub number : ℕ
  pub items : ℕ
  pub ones : ℕ
  pub twos : ℕ
  pub final : ℕ
  pub padded : Bool
  pub entries : List Entry

-- how many user bytes some entries name
unfoldable pub used : List Entry → ℕ
used [] = 0
used (p ∷ ps) = length p.bytes + used ps

-- 1 for an entry that finishes an item
abbrev pub finishes : Kind → ℕ
finishes Total = 1
finishes Mark = 1
finishes Middle = 0
finishes Start = 0
finishes Last = 0
finishes Entire = 1
finishes Skip = 0
finishes Unknown = 0

-- the entry is a mark
abbrev pub marks : Kind → Bool
marks Total = false
marks Mark = true
marks Middle = false
marks Start = false
marks Last = false
marks Entire = false
marks Skip = false
marks Unknown = false

-- groups numbered from n on
abbrev pub Numbered : ℕ → List Group → Type 0
Numbered n [] = Unit {0}
Numbered n (g ∷ gs) = (g.number ≡ n) × Numbered (suc n) gs
