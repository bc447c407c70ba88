-- Playing a tape, group by group.
use Rattle.std.specs.Prelude.{ℕ, zero, suc, ◌+◌, ◌-◌, ◌/◌, min, cond, List, [], ◌∷◌, ◌++◌, length, drop, replicate, Some, None, Ok, Err, Option, Result, ◌==◌, nat_le, slice_index_or}
use Rattle.std.specs.List.{flat_map}
use Rattle.tape.specs.Tape.{Track}
use Rattle.channel.specs.Line.{Code}
use Rattle.layout.specs.Group.{Found, whole, third, unchecked}
use Rattle.layout.specs.declared.settings.Settings.{Settings}
use Rattle.losses.specs.declared.sheet.LossRow.{LossRow}
use Rattle.losses.specs.declared.fault.ReadFault.{ReadFault}
use Rattle.losses.specs.declared.fault.ReadFault.TheVariants.{TrackBuffer as NoBuffer, Setting as NoSetting, GroupBuffer as NoGroupBuffer, Bench as NoBench, NoGroup, ThirdLoss, Unchecked}
use Rattle.losses.specs.Losses.{no_loss}
use Rattle.losses.specs.Faults.{size_decline}
use Rattle.reading.specs.Groups.{found, findings}
use Rattle.index.specs.declared.fault.IndexFault.{IndexFault}
use Rattle.index.specs.Entries.{Item}
use Rattle.index.specs.Bytes.{read_group}
use Rattle.index.specs.Walk.{Position, Position.idle, Position.begun, Position.inside, Position.owing, Position.owed, Between, walk_group, beginning}
use Rattle.playing.specs.declared.fault.GroupCause.{GroupCause}
use Rattle.playing.specs.declared.fault.GroupCause.TheVariants.{Absent, Tracks, Index, Output, Rows}
use Rattle.playing.specs.declared.fault.PlayFault.{PlayFault}
use Rattle.playing.specs.declared.fault.PlayFault.TheVariants.{TrackBuffer, Setting, GroupBuffer, Bench, Group}
use Rattle.playing.specs.declared.rows.Row.{Row}
use Rattle.playing.specs.declared.rows.Played.{Played}

-- ---- what is given

-- the bytes of an unfinished record
abbrev pub parts_in : Position → List ℕ
parts_in idle = []
parts_in (begun a w) = a
parts_in (inside a w) = a
parts_in (owing a w) = a
parts_in (owed a w) = a

-- the bytes of items, one after the other
unfoldable pub bytes_given : List Item → List ℕ
bytes_given l = flat_map (λ (i : Item). i.bytes) l

-- their rows, with so many bytes before the first
unfoldable pub rows_given : ℕ → List Item → List Row
rows_given place [] = []
rows_given place (i ∷ l) =
    record { kind = i.kind; place = place; length = length i.bytes; warned = i.warned } ∷ rows_given (place + length i.bytes) l

-- the bytes given of a walk: those of its items, and of an unfinished record
abbrev pub given : Between → List ℕ
given b = bytes_given b.items ++ parts_in b.position

-- ---- group by group

-- the lengths of what is lent
pub record Sizes : Type 0 where
  pub track : ℕ
  pub group : ℕ
  pub bench : ℕ
  pub output : ℕ
  pub rows : ℕ

-- how playing ends: the fault, the last group fetched or 0, and what was given
pub record End : Type 0 where
  pub fault : Option PlayFault
  pub fetched : ℕ
  pub upto : Between

abbrev pub stopped : ℕ → GroupCause → ℕ → Between → End
stopped n cause fetched b = record { fault = Some (Group n cause); fetched = fetched; upto = b }

-- the walk c of group n fits into what is lent: then e, else nothing of the group is given
abbrev pub fitting : Sizes → ℕ → Between → Between → End → End
fitting z n b c e =
    cond (nat_le (length (given c)) z.output) (cond (nat_le (length c.items) z.rows) e (stopped n Rows n b)) (stopped n Output n b)

-- after group n, with this last byte, walked from b to c: playing ends, or goes on by e
abbrev pub goes : Sizes → ℕ → Between → ℕ → Between → End → End
goes z n b final c e = fitting z n b c (cond (final == 1) (record { fault = None; fetched = n; upto = c }) e)

abbrev pub on_walk : {A B : Type 0} → Result A IndexFault → (IndexFault → B) → (A → B) → B
on_walk (Ok a) f h = h a
on_walk (Err e) f h = f e

-- a group that is read, or the fault of its tracks
abbrev pub on_found : {B : Type 0} → List LossRow → Found → (ReadFault → B) → (List ℕ → B) → B
on_found sheet (whole bs) f h = h bs
on_found sheet (third k) f h = f (ThirdLoss k (slice_index_or sheet k no_loss))
on_found sheet (unchecked b s) f h = f (Unchecked b s)

-- groups from number n on, of a tape that has as many more as the first number says
unfoldable pub plays : Code → Settings → List Track → Sizes → ℕ → ℕ → Between → End
plays c x ts z zero n b = stopped n Absent (n - 1) b
plays c x ts z (suc k) n b =
    on_found (findings c n ts) (found c x.tap x.start n ts) (λ f. stopped n (Tracks f) n b)
    (λ bs. on_walk (walk_group n b (read_group bs)) (λ e. stopped n (Index e) n b)
    (λ w. goes z n b (read_group bs).final w (plays c x ts z k (suc n) w)))

-- ---- a whole play

-- the tests of what is lent and of the settings
abbrev pub size_fault : Option ReadFault → Option PlayFault
size_fault None = None
size_fault (Some NoBuffer) = Some TrackBuffer
size_fault (Some NoSetting) = Some Setting
size_fault (Some NoGroupBuffer) = Some GroupBuffer
size_fault (Some NoBench) = Some Bench
size_fault (Some NoGroup) = None
size_fault (Some (ThirdLoss k r)) = None
size_fault (Some (Unchecked b s)) = None

abbrev pub lent_fault : Settings → Sizes → Option PlayFault
lent_fault x z = size_fault (size_decline z.track x.tap x.start z.group z.bench)

-- what there is where nothing is declined so, and else
abbrev pub past : {A : Type 0} → Option PlayFault → A → (PlayFault → A) → A
past None a f = a
past (Some e) a f = f e

abbrev pub played : Code → Settings → List Track → Sizes → End
played c x ts z =
    past (lent_fault x z) (plays c x ts z (min 65535 (length ts / 46)) 1 beginning) (λ e. record { fault = Some e; fetched = 0; upto = beginning })

-- the answer
abbrev pub answered : End → Played
answered e = record { rows = length e.upto.items; bytes = length (given e.upto); fault = e.fault }

-- the output and the rows
abbrev pub output_after : End → List ℕ → List ℕ
output_after e out = given e.upto ++ drop (length (given e.upto)) out

abbrev pub rows_after : End → List Row → List Row
rows_after e rows = rows_given 0 e.upto.items ++ drop (length e.upto.items) rows

-- the loss sheet: the findings of the last group fetched
abbrev pub sheet_after : Code → List Track → End → List LossRow → List LossRow
sheet_after c ts e old = cond (e.fetched == 0) old (findings c e.fetched ts)

-- the track buffer, the group buffer and the bench: zero once past the tests
abbrev pub wiped : Settings → Sizes → List ℕ → List ℕ
wiped x z xs = past (lent_fault x z) (replicate (length xs) 0) (λ e. xs)
