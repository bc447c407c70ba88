-- The settled examples: what the definitions give, beside the numbers that it has to be.
use Rattle.std.specs.Prelude.{◌≡◌, ℕ, ◌+◌, ◌*◌, List, [], ◌∷◌, ◌++◌, map, length, replicate}
use mathlib.Core.List.{flat_map}
use Rattle.std.specs.List.{AllByRecursion}
use Rattle.galois.specs.Galois.{alpha}
use Rattle.layout.specs.Randomizer.{randomized}
use Rattle.layout.specs.Placing.{Place, place_d}
use Rattle.layout.specs.Reading.{filling, byte_at}
use Rattle.layout.specs.Writing.{c3_checks}
use Rattle.index.specs.Entries.{Entry, Group}
use Rattle.index.specs.Bytes.{flag_of, index_bytes, table_bytes}
use Rattle.laying.specs.Calls.{Call, Call.record', begin, ran, closed}

-- an example: the numbers given, and those expected
abbrev pub Example : Type 0
Example = List ℕ × List ℕ

-- a place as three numbers
abbrev pub numbers : Place → List ℕ
numbers p = p.sign ∷ p.block ∷ p.serial ∷ []

-- the C3 word before its check bytes: 0, but 1 at track 43
unfoldable pub one43 : List ℕ
one43 = replicate 43 0 ++ (1 ∷ 0 ∷ 0 ∷ [])

-- the groups of a recording that is made on a tape of 65,535 groups, called so, and closed
unfoldable pub groups_after : List Call → List Group
groups_after cs = closed (ran (begin 65535) (map (λ (a : Call). (0, a)) cs)).state

-- the bytes of an index, and of the table behind it
unfoldable pub index_of : List Group → List ℕ
index_of gs = flat_map (λ (g : Group). index_bytes g.entries) gs

unfoldable pub index_and_table : List Group → List ℕ
index_and_table gs = flat_map (λ (g : Group). index_bytes g.entries ++ table_bytes g) gs

-- of each group its number and how many entries it has, and of each of these the flag and the count
abbrev pub flag_count : Entry → List ℕ
flag_count p = (flag_of p.kind + 8 * p.warned) ∷ p.count ∷ []

unfoldable pub outline : List Group → List ℕ
outline gs = flat_map (λ (g : Group). g.number ∷ length g.entries ∷ flat_map flag_count g.entries) gs

-- r gives some record of each length
abbrev pub examples : (ℕ → List ℕ) → List Example
examples r =
    -- α^8
    (alpha 8 ∷ [], 29 ∷ [])
    -- the bytes that tap 3 and start 1 give
    ∷ (randomized 3 1 (0 ∷ 0 ∷ []), 1 ∷ 128 ∷ [])
    -- the places of D_0 and D_5755: sign (0 is PLUS, 1 is MINUS), block, serial
    ∷ (numbers (place_d 0), 1 ∷ 76 ∷ 2 ∷ [])
    ∷ (numbers (place_d 5755), 0 ∷ 111 ∷ 21 ∷ [])
    -- the check bytes of the C3 word with 1 at track 43 and 0 at the tracks before
    ∷ (byte_at 44 (filling 2 c3_checks one43) ∷ byte_at 45 (filling 2 c3_checks one43) ∷ [], 3 ∷ 2 ∷ [])
    -- the index of a recording with no items
    ∷ (index_of (groups_after []), 0x80 ∷ 0x01 ∷ 0xEE ∷ 0xA8 ∷ [])
    -- the index and the table with one record of 5 bytes
    ∷ (
      index_and_table (groups_after (record' (r 5) ∷ [])),
      0x80 ∷ 0x01 ∷ 0xEE ∷ 0xA3 ∷ 0x63 ∷ 0x00 ∷ 0x00 ∷ 0x05 ∷ 0x00 ∷ 0x01 ∷ 0x00 ∷ 0x02 ∷ 0x00 ∷ 0x00 ∷ 0x00 ∷ 0x01
          ∷ 0 ∷ 0 ∷ 0 ∷ 0 ∷ 0 ∷ 0 ∷ 0 ∷ 0 ∷ 0x01 ∷ 0 ∷ 0 ∷ 0 ∷ 0 ∷ 0 ∷ 0 ∷ 0 ∷ 0 ∷ 0 ∷ 0 ∷ 0 ∷ 0 ∷ 0 ∷ 0 ∷ 0 ∷ [],
    )
    -- one record of 126,592 bytes: entire, skip 40
    ∷ (outline (groups_after (record' (r 126592) ∷ [])), 1 ∷ 2 ∷ 0x63 ∷ 126592 ∷ 0x80 ∷ 40 ∷ [])
    -- of 126,593: start 126,592, skip 40; last 1, total, skip
    ∷ (
      outline (groups_after (record' (r 126593) ∷ [])),
      1 ∷ 2 ∷ 0x42 ∷ 126592 ∷ 0x80 ∷ 40 ∷ 2 ∷ 3 ∷ 0x60 ∷ 1 ∷ 0x01 ∷ 126593 ∷ 0x80 ∷ 126631 ∷ [],
    )
    -- of 253,180: the total stands in group 2
    ∷ (
      outline (groups_after (record' (r 253180) ∷ [])),
      1 ∷ 2 ∷ 0x42 ∷ 126592 ∷ 0x80 ∷ 40 ∷ 2 ∷ 3 ∷ 0x60 ∷ 126588 ∷ 0x01 ∷ 253180 ∷ 0x80 ∷ 44 ∷ [],
    )
    -- of 253,181: the total stands in group 3
    ∷ (
      outline (groups_after (record' (r 253181) ∷ [])),
      1 ∷ 2 ∷ 0x42 ∷ 126592 ∷ 0x80 ∷ 40 ∷ 2 ∷ 2 ∷ 0x60 ∷ 126589 ∷ 0x80 ∷ 43 ∷ 3 ∷ 2 ∷ 0x01 ∷ 253181 ∷ 0x80 ∷ 126632 ∷ [],
    )
    -- of 253,185: a middle part in group 2
    ∷ (
      outline (groups_after (record' (r 253185) ∷ [])),
      1 ∷ 2 ∷ 0x42 ∷ 126592 ∷ 0x80 ∷ 40 ∷ 2 ∷ 2 ∷ 0x40 ∷ 126592 ∷ 0x80 ∷ 40 ∷ 3 ∷ 3 ∷ 0x60 ∷ 1 ∷ 0x01 ∷ 253185 ∷ 0x80 ∷ 126631 ∷ [],
    )
    ∷ []

-- whatever the bytes of the records
abbrev pub Settled : Type 0
Settled = (r : ℕ → List ℕ) → ((n : ℕ) → length (r n) ≡ n) → AllByRecursion (λ e. e.0 ≡ e.1) (examples r)
