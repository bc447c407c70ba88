-- A group as bytes: user bytes, zeros, entries with the first nearest to the table, the table.
use Rattle.std.specs.Prelude.{◌≡◌, ℕ, zero, suc, ◌+◌, ◌-◌, ◌*◌, ◌/◌, ◌%◌, ◌<◌, ◌≤◌, Bool, true, false, cond, ◌&&◌, List, [], ◌∷◌, ◌++◌, length, take, drop, replicate, ◌==◌, slice_index}
use Rattle.std.specs.List.{AllByRecursion}
use Rattle.index.specs.declared.kind.Kind.{Kind}
use Rattle.index.specs.declared.kind.Kind.TheVariants.{Total, Mark, Middle, Start, Last, Entire, Skip, Unknown}
use Rattle.index.specs.Entries.{Entry, Group, used}

-- shut, since many zeros would compute out
unfoldable pub zeros : ℕ → List ℕ
zeros n = replicate n 0

abbrev pub flag_of : Kind → ℕ
flag_of Total = 0x01
flag_of Mark = 0x07
flag_of Middle = 0x40
flag_of Start = 0x42
flag_of Last = 0x60
flag_of Entire = 0x63
flag_of Skip = 0x80
flag_of Unknown = 0

abbrev pub kind_of : ℕ → Kind
kind_of f =
    cond (f == 0x01) Total (cond (f == 0x07) Mark (cond (f == 0x40) Middle (cond (f == 0x42) Start
    (cond (f == 0x60) Last (cond (f == 0x63) Entire (cond (f == 0x80) Skip Unknown))))))

-- numbers of two, three and four bytes, highest first
abbrev pub two : ℕ → List ℕ
two n = n / 256 % 256 ∷ n % 256 ∷ []

abbrev pub three : ℕ → List ℕ
three n = n / 256 / 256 % 256 ∷ n / 256 % 256 ∷ n % 256 ∷ []

abbrev pub four : ℕ → List ℕ
four n = n / 256 / 256 / 256 % 256 ∷ n / 256 / 256 % 256 ∷ n / 256 % 256 ∷ n % 256 ∷ []

-- the number that k bytes from place i on write
unfoldable pub number : ℕ → ℕ → List ℕ → ℕ
number zero i g = 0
number (suc k) i g = number k i g * 256 + slice_index g (i + k)

abbrev pub entry_bytes : Entry → List ℕ
entry_bytes p = (flag_of p.kind + 8 * p.warned) ∷ three p.count

unfoldable pub index_bytes : List Entry → List ℕ
index_bytes [] = []
index_bytes (p ∷ ps) = index_bytes ps ++ entry_bytes p

unfoldable pub user_bytes : List Entry → List ℕ
user_bytes [] = []
user_bytes (p ∷ ps) = p.bytes ++ user_bytes ps

abbrev pub table_bytes : Group → List ℕ
table_bytes g = two g.number ++ (two (length g.entries) ++ (four g.items ++ (four g.ones ++ (four g.twos ++ (g.final ∷ zeros 15)))))

unfoldable pub group_of : Group → List ℕ
group_of g = user_bytes g.entries ++ (zeros (126600 - used g.entries - 4 * length g.entries) ++ (index_bytes g.entries ++ table_bytes g))

-- ---- reading

abbrev pub named : Kind → Bool
named Total = false
named Mark = false
named Middle = true
named Start = true
named Last = true
named Entire = true
named Skip = false
named Unknown = false

-- the entry at place e, with the user bytes from place at on that it names
abbrev pub entry_with : Kind → ℕ → ℕ → List ℕ → Entry
entry_with k w n bs = record { kind = k; count = n; warned = w; bytes = cond (named k) (take n bs) [] }

abbrev pub read_entry : List ℕ → ℕ → ℕ → Entry
read_entry g e at = entry_with (kind_of (slice_index g e - 8 * (slice_index g e / 8 % 2))) (slice_index g e / 8 % 2) (number 3 (e + 1) g) (drop at g)

-- the entry in the last four bytes of an index, with the user bytes of group g from place at on that it names
abbrev pub read_at : List ℕ → List ℕ → ℕ → Entry
read_at xs g at =
    entry_with (kind_of (slice_index xs (length xs - 4) - 8 * (slice_index xs (length xs - 4) / 8 % 2))) (slice_index xs (length xs - 4) / 8 % 2)
    (number 3 (length xs - 4 + 1) xs) (drop at g)

-- the entry in the last four bytes of an index: its flag, its count, and the rest of the index
pub record EntryTaken (xs : List ℕ) (f n : ℕ) (ys : List ℕ) : Type 0 where
  pub long : 4 ≤ length xs
  pub flag : f ≡ slice_index xs (length xs - 4)
  pub count : n ≡ number 3 (length xs - 4 + 1) xs
  pub rest : ys ≡ take (length xs - 4) xs

-- k entries that end at place e, the first last, their user bytes from place at on
unfoldable pub read_entries : List ℕ → ℕ → ℕ → ℕ → List Entry
read_entries g zero e at = []
read_entries g (suc k) e at = read_entry g (e - 4) at ∷ read_entries g k (e - 4) (at + length (read_entry g (e - 4) at).bytes)

-- n bytes from place i on are 0
unfoldable pub empty : List ℕ → ℕ → ℕ → Bool
empty g i zero = true
empty g i (suc n) = slice_index g i == 0 && empty g (suc i) n

unfoldable pub read_group : List ℕ → Group
read_group g = record {
  number = number 2 126600 g;
  items = number 4 126604 g;
  ones = number 4 126608 g;
  twos = number 4 126612 g;
  final = slice_index g 126616;
  padded = empty g 126617 15;
  entries = read_entries g (number 2 126602 g) 126600 0;
}

-- bytes
abbrev pub Small : List ℕ → Type 0
Small bs = AllByRecursion (λ b. b < 256) bs

-- an entry that four bytes can hold, and whose count is that of its bytes
pub record Sound (p : Entry) : Type 0 where
  pub known : p.kind ≡ kind_of (flag_of p.kind)
  pub count : p.count < 16777216
  pub warned : p.warned < 2
  pub bytes : p.bytes ≡ cond (named p.kind) p.bytes []
  pub length' : cond (named p.kind) p.count 0 ≡ length p.bytes
  pub small : Small p.bytes

pub record Whole (g : Group) : Type 0 where
  pub number : g.number < 65536
  pub items : g.items < 4294967296
  pub ones : g.ones < 4294967296
  pub twos : g.twos < 4294967296
  pub final : g.final < 256
  pub padded : g.padded ≡ true
  pub entries : AllByRecursion Sound g.entries
  pub fits : used g.entries + 4 * length g.entries ≤ 126600

-- a group laid into bytes fills them, and is read again
abbrev pub Reread : Type 0
Reread = (g : Group) → Whole g → (length (group_of g) ≡ 126632) × (read_group (group_of g) ≡ g) × Small (group_of g)
