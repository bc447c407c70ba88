-- Whether there is room for a group.
use Rattle.std.proofs.Common.{◌≡◌, ℕ, ◌+◌, ◌<◌, ◌≤◌, Bool, true, false, cond, leb, List, length, Ok, Err, Result, sym, refl, ap, ◌∙◌, subst, arith}
use Rattle.std.proofs.lemmas.Bool.{leb-true, leb-false}
use Rattle.playing.specs.declared.fault.GroupCause.{GroupCause}
use Rattle.playing.specs.declared.fault.GroupCause.TheVariants.{Output, Rows}
use Rattle.index.specs.Entries.{Entry}
use Rattle.index.specs.Bytes.{number, read_group}
use Rattle.index.specs.Cursors.{Cursor, Sound, started, remaining}
use Rattle.index.proofs.Grouping.{reads-group}
use Rattle.player.specs.Shelves.{Shelf, laid_all, size_in, finished_in, room_for, after_all}

abbrev Answer : Type 0
Answer = Result (Unit {0}) GroupCause

-- an answer, and what there is then
pub record Gave (s t : Shelf) (ps : List Entry) (r : Answer) : Type 0 where
  pub answer : r ≡ room_for s ps
  pub then : t ≡ after_all s ps

module _ (s : Shelf) (ps : List Entry) where
  pub no_output : length s.output < s.giving.bytes + size_in ps → Gave s s ps (Err Output)
  no_output h = let g = go (leb (s.giving.bytes + size_in ps) (length s.output)) refl in record { answer = g.0; then = g.1 }
    where
      go : (x : Bool) → leb (s.giving.bytes + size_in ps) (length s.output) ≡ x
          → (◌≡◌ {A = Answer} (Err Output) (cond x (cond (leb (s.giving.rows + finished_in ps) (length s.rows)) (Ok tt) (Err Rows)) (Err Output)))
          × (s ≡ cond x (cond (leb (s.giving.rows + finished_in ps) (length s.rows)) (laid_all s ps) s) s)
      go true e = absurd (let l = leb-true (s.giving.bytes + size_in ps) (length s.output) e in omega arith)
      go false e = (refl, refl)

  pub no_rows : s.giving.bytes + size_in ps ≤ length s.output → length s.rows < s.giving.rows + finished_in ps → Gave s s ps (Err Rows)
  no_rows k h =
      let g = go (leb (s.giving.bytes + size_in ps) (length s.output)) refl (leb (s.giving.rows + finished_in ps) (length s.rows)) refl in record { answer = g.0; then = g.1 }
    where
      go : (x : Bool) → leb (s.giving.bytes + size_in ps) (length s.output) ≡ x → (y : Bool) → leb (s.giving.rows + finished_in ps) (length s.rows) ≡ y
          → (◌≡◌ {A = Answer} (Err Rows) (cond x (cond y (Ok tt) (Err Rows)) (Err Output))) × (s ≡ cond x (cond y (laid_all s ps) s) s)
      go true e true f = absurd (let l = leb-true (s.giving.rows + finished_in ps) (length s.rows) f in omega arith)
      go true e false f = (refl, refl)
      go false e y f = absurd (let l = leb-false (s.giving.bytes + size_in ps) (length s.output) e in omega arith)

  pub room : s.giving.bytes + size_in ps ≤ length s.output → s.giving.rows + finished_in ps ≤ length s.rows → (t : Shelf) → t ≡ laid_all s ps → Gave s t ps (Ok tt)
  room k h t q =
      let g = go (leb (s.giving.bytes + size_in ps) (length s.output)) refl (leb (s.giving.rows + finished_in ps) (length s.rows)) refl in record { answer = g.0; then = g.1 }
    where
      go : (x : Bool) → leb (s.giving.bytes + size_in ps) (length s.output) ≡ x → (y : Bool) → leb (s.giving.rows + finished_in ps) (length s.rows) ≡ y
          → (◌≡◌ {A = Answer} (Ok tt) (cond x (cond y (Ok tt) (Err Rows)) (Err Output))) × (t ≡ cond x (cond y (laid_all s ps) s) s)
      go true e true f = (refl, q)
      go true e false f = absurd (let l = leb-false (s.giving.rows + finished_in ps) (length s.rows) f in omega arith)
      go false e y f = absurd (let l = leb-false (s.giving.bytes + size_in ps) (length s.output) e in omega arith)

-- a reader at a group's first entry
module _ (g : List ℕ) (d : Cursor) (size : length g ≡ 126632) (few : number 2 126602 g ≤ 31650) (e : d ≡ started g) where
  pub starts-sound : Sound d
  starts-sound = subst Sound (sym e) (reads-group g size few).0

  pub starts_with : remaining d ≡ (read_group g).entries
  starts_with = ap remaining e ∙ (reads-group g size few).1
