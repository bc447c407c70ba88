-- Writing an index: bytes put in the place of others, and an open group as it fills.
use Rattle.std.specs.Prelude.{◌≡◌, ℕ, ◌+◌, ◌-◌, ◌*◌, true, cond, List, [], ◌∷◌, ◌++◌, length, take, drop, Ok, Err, Result, ◌==◌, nat_le, nat_lt}
use Rattle.index.specs.declared.fault.LayFault.{LayFault}
use Rattle.index.specs.declared.fault.LayFault.TheVariants.{GroupLength, Warning, NoRoom}
use Rattle.index.specs.declared.kind.Kind.TheVariants.{Skip}
use Rattle.index.specs.declared.table.Table.{Table}
use Rattle.index.specs.declared.tally.Counts.{Counts}
use Rattle.index.specs.declared.writer.Fill.{Fill}
use Rattle.index.specs.Entries.{Entry, Group, used}
use Rattle.index.specs.Bytes.{zeros, two, four, entry_bytes, index_bytes, user_bytes}

-- the bytes g with ys in the place of as many from place at on
unfoldable pub replaced : List ℕ → ℕ → List ℕ → List ℕ
replaced g at ys = take at g ++ (ys ++ drop (at + length ys) g)

-- an open group: user bytes, zeros, entries, and an empty table
unfoldable pub open_group : List Entry → List ℕ
open_group ps = user_bytes ps ++ (zeros (126600 - used ps - 4 * length ps) ++ (index_bytes ps ++ zeros 32))

-- how full an open group with these entries is
pub record Filled (g : List ℕ) (f : Fill) (ps : List Entry) : Type 0 where
  pub bytes : g ≡ open_group ps
  pub entries : f.entries ≡ length ps
  pub used' : f.used ≡ used ps

-- whether an entry with n user bytes and the warning w is laid into an open group, or why not, in the order of looking
abbrev pub laying : List ℕ → Fill → ℕ → ℕ → Result (Unit {0}) LayFault
laying g f n w =
    cond (length g == 126632)
    (cond (nat_lt w 2) (cond (nat_le (f.used + n + 4 * (f.entries + 1)) 126600) (Ok tt) (Err NoRoom)) (Err Warning))
    (Err GroupLength)

-- the place of the next entry
abbrev pub entry_place : Fill → ℕ
entry_place f = 126600 - 4 * (f.entries + 1)

-- a group with an entry laid into it
abbrev pub entry_laid : List ℕ → Fill → Entry → List ℕ
entry_laid g f p = replaced (replaced g f.used p.bytes) (entry_place f) (entry_bytes p)

-- the bytes of a table
abbrev pub table_of : Table → List ℕ
table_of t =
    two t.number ++ (two t.entries ++ (four t.counts.items ++ (four t.counts.ones ++ (four t.counts.twos ++ (t.last ∷ zeros 15)))))

-- the skip of a group with u user bytes
abbrev pub skip_of : ℕ → ℕ → Entry
skip_of w u = record { kind = Skip; count = 126632 - u; warned = w; bytes = [] }

-- a group completed with its skip and its table
abbrev pub completed : List ℕ → Fill → ℕ → ℕ → Counts → ℕ → List ℕ
completed g f w n c last =
    replaced (entry_laid g f (skip_of w f.used)) 126600 (table_of (record { number = n; entries = f.entries + 1; counts = c; last = last; zeros = true }))

-- the group that is completed so
abbrev pub group_with : List Entry → ℕ → ℕ → Counts → ℕ → Group
group_with ps w n c last = record {
  number = n;
  items = c.items;
  ones = c.ones;
  twos = c.twos;
  final = last;
  padded = true;
  entries = ps ++ (skip_of w (used ps) ∷ []);
}

-- a group of zeros is an open group without entries
abbrev pub OpensEmpty : Type 0
OpensEmpty = open_group [] ≡ zeros 126632
