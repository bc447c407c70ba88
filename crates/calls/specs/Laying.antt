-- Laying items from an open recording on its tape.
use Rattle.std.specs.Prelude.{ℕ, zero, suc, ◌+◌, ◌-◌, cond, List, [], length, take, drop, replicate, nat_le}
use Rattle.tape.specs.Tape.{Track}
use Rattle.channel.specs.Line.{Code}
use Rattle.writing.specs.Groups.{with_group}
use Rattle.index.specs.declared.kind.Kind.{Kind}
use Rattle.index.specs.declared.kind.Kind.TheVariants.{Total, Mark, Middle, Start, Last, Entire}
use Rattle.index.specs.Writing.{entry_laid, completed}
use Rattle.calls.specs.Held.{Held, free, entered, turned}

-- an open recording and the tracks of its tape
pub record Desk : Type 0 where
  pub held : Held
  pub tracks : List Track

abbrev pub desk : Held → List Track → Desk
desk h ts = record { held = h; tracks = ts }

-- with an entry laid into the open group
abbrev pub laid : Kind → ℕ → List ℕ → Held → Held
laid k n bs h = record {
  book = entered k n (length bs) h.book;
  group = entry_laid h.group h.book.fill (record { kind = k; count = n; warned = h.book.warned; bytes = bs });
}

-- the open group completed: its skip and its table, with this last byte
abbrev pub closing : ℕ → Held → List ℕ
closing last h = completed h.group h.book.fill h.book.warned h.book.number h.book.counts last

-- the tape with the open group completed and stored
abbrev pub taped : Code → ℕ → Desk → List Track
taped c last d =
    with_group c d.held.book.settings.tap d.held.book.settings.start d.held.book.number (closing last d.held) d.tracks

-- the open group is stored, and a new one opened
abbrev pub stored_on : Code → Desk → Desk
stored_on c d = record {
  held = record { book = turned d.held.book; group = replicate (length d.held.group) 0 };
  tracks = taped c 0 d;
}

abbrev pub put : Kind → ℕ → List ℕ → Desk → Desk
put k n bs d = record { held = laid k n bs d.held; tracks = d.tracks }

-- a part of a record, or all of it
abbrev pub put_part : Kind → List ℕ → Desk → Desk
put_part k bs d = put k (length bs) bs d

-- an item that needs n free begins here, or in a new group
abbrev pub room : Code → ℕ → Desk → Desk
room c n d = cond (nat_le n (free d.held.book)) d (stored_on c d)

abbrev pub lay_mark : Code → ℕ → Desk → Desk
lay_mark c k d = put Mark (k - 1) [] (room c 4 d)

-- the rest of a record of n bytes, from the opening of a group on; the first number bounds the groups that it may take
unfoldable pub lay_rest : Code → ℕ → ℕ → List ℕ → Desk → Desk
lay_rest c zero n bs d = d
lay_rest c (suc f) n bs d =
    cond (nat_le (length bs + 4) (free d.held.book))
    (put Total n [] (room c 4 (put_part Last bs d)))
    (lay_rest c f n (drop (free d.held.book - 4) bs) (stored_on c (put_part Middle (take (free d.held.book - 4) bs) d)))

abbrev pub lay_parts : Code → List ℕ → Desk → Desk
lay_parts c bs d =
    lay_rest c (length bs) (length bs) (drop (free d.held.book - 4) bs) (stored_on c (put_part Start (take (free d.held.book - 4) bs) d))

abbrev pub lay_begun : Code → List ℕ → Desk → Desk
lay_begun c bs d = cond (nat_le (length bs + 4) (free d.held.book)) (put_part Entire bs d) (lay_parts c bs d)

abbrev pub lay_record : Code → List ℕ → Desk → Desk
lay_record c bs d = lay_begun c bs (room c 5 d)
