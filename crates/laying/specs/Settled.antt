-- What a recording with one record, or none, is when it is closed.
use Rattle.std.specs.Prelude.{◌≡◌, ℕ, List, [], ◌∷◌, map, length}
use Rattle.index.specs.declared.kind.Kind.{Kind}
use Rattle.index.specs.declared.kind.Kind.TheVariants.{Total, Middle, Start, Last, Entire, Skip}
use Rattle.index.specs.Entries.{Entry, Group}
use Rattle.laying.specs.Lay.{Recording, lay_record, entry}
use Rattle.index.specs.Bytes.{entry_bytes}
use Rattle.laying.specs.Calls.{made, closed}

-- an entry's kind and count
abbrev pub KindCount : Type 0
KindCount = Kind × ℕ

abbrev pub kind_count : Entry → KindCount
kind_count p = (p.kind, p.count)

-- the entries of each group
abbrev pub outline : Recording → List (List KindCount)
outline s = map (λ (g : Group). map kind_count g.entries) (closed s)

-- a record of n bytes, whatever they are, in a new recording
abbrev pub Alone : ℕ → List (List KindCount) → Type 0
Alone n gs = (g : ℕ) (bs : List ℕ) → length bs ≡ n → outline (lay_record bs (made g)) ≡ gs

pub record Settled : Type 0 where
  pub none : (g : ℕ) → outline (made g) ≡ ((Skip, 126632) ∷ []) ∷ []
  pub none-bytes : (g : ℕ) → entry_bytes (entry (made g) Skip 126632 []) ≡ 0x80 ∷ 0x01 ∷ 0xEE ∷ 0xA8 ∷ []
  pub entire' : Alone 126592 (((Entire, 126592) ∷ (Skip, 40) ∷ []) ∷ [])
  pub parts : Alone 126593 (((Start, 126592) ∷ (Skip, 40) ∷ []) ∷ ((Last, 1) ∷ (Total, 126593) ∷ (Skip, 126631) ∷ []) ∷ [])
  pub second : Alone 253180 (((Start, 126592) ∷ (Skip, 40) ∷ []) ∷ ((Last, 126588) ∷ (Total, 253180) ∷ (Skip, 44) ∷ []) ∷ [])
  pub third : Alone 253181 (((Start, 126592) ∷ (Skip, 40) ∷ []) ∷ ((Last, 126589) ∷ (Skip, 43) ∷ []) ∷ ((Total, 253181) ∷ (Skip, 126632) ∷ []) ∷ [])
  pub middle' : Alone 253185 (((Start, 126592) ∷ (Skip, 40) ∷ []) ∷ ((Middle, 126592) ∷ (Skip, 40) ∷ []) ∷ ((Last, 1) ∷ (Total, 253185) ∷ (Skip, 126631) ∷ []) ∷ [])
