-- One more group: walked, and given if there is room.
use Rattle.std.proofs.Common.{◌≡◌, ℕ, ◌+◌, ◌≤◌, Bool, true, false, cond, eqb, leb, List, length, get_or, Ok, Err, Result, sym, refl, ap, ◌∙◌, subst, ap₂, arith}
use Rattle.std.proofs.lemmas.Bool.{leb-true}
use Rattle.index.specs.declared.fault.IndexFault.{IndexFault}
use Rattle.index.specs.declared.fault.GroupFault.{GroupFault}
use Rattle.index.specs.declared.fault.GroupFault.TheVariants.{WrongLength}
use Rattle.index.specs.declared.succession.State.{State}
use Rattle.index.specs.declared.tally.Counts.{Counts}
use Rattle.index.specs.declared.walk.Walk.{Walk}
use Rattle.index.specs.declared.walk.Ending.{Ending}
use Rattle.index.specs.Entries.{Entry}
use Rattle.index.specs.Bytes.{number, read_group}
use Rattle.index.specs.Walk.{Between, walk_group}
use Rattle.index.specs.Counted.{numbers_of}
use Rattle.index.specs.Answers.{standing, state_counts, tally_from, ending_of, ending, answered, moved_on, standing_after, Gave}
use Rattle.index.proofs.Counting.{length-read}
use Rattle.playing.specs.declared.fault.GroupCause.{GroupCause}
use Rattle.playing.specs.declared.fault.GroupCause.TheVariants.{Absent, Index, Output, Rows}
use Rattle.playing.specs.declared.rows.Row.{Row}
use Rattle.playing.specs.Play.{given}
use Rattle.player.specs.Shelves.{Shelf, laid_all, size_in, finished_in, room_for, after_all, Roomy}
use Rattle.player.specs.Standing.{Holds, Stands, cause_in, Fitted, Went}
use Rattle.player.proofs.Shelving.{Added, Goes, group-goes, output-long, table-long}

no-cause : {B : Type 0} (e : Ending) (x : GroupCause) → ◌≡◌ {A = Result Ending GroupCause} (Ok e) (Err x) → B
no-cause e x h = let z : ◌≡◌ {A = ℕ} 0 1 = cc in absurd (omega arith)

same-ending : (d e : Ending) → ◌≡◌ {A = Result Ending GroupCause} (Ok d) (Ok e) → d ≡ e
same-ending d e h = cc

-- the answer for a group that was walked
abbrev pub and_ending : Ending → Result (Unit {0}) GroupCause → Result Ending GroupCause
and_ending e (Ok u) = Ok e
and_ending e (Err x) = Err x

-- a walk without a fault is one group on
pub number-on : (w : Walk) (g : List ℕ) (e : Ending) → Ok e ≡ cause_in (answered w g) → (standing_after w g).0 ≡ (standing w).0 + 1
number-on w g e h = go (eqb (length g) 126632) (tally_from w g) h
  where
    go : (b : Bool) (t : Result _ IndexFault) → Ok e ≡ cause_in (cond b (ending (get_or g 126616 0) t) (Err WrongLength)) → (cond b (moved_on (standing w) t) (standing w)).0 ≡ (standing w).0 + 1
    go true (Ok t) h = refl
    go true (Err x) h = no-cause e (Index x) h
    go false t h = no-cause e Absent h

few-entries : (g : List ℕ) → length (read_group g).entries ≤ 31650 → number 2 126602 g ≤ 31650
unfolding read_group
few-entries g h = omega (arith, length-read g (number 2 126602 g) 126600 0)

module _ (out : List ℕ) (old : List Row) (b : Between) (w : Walk) (s : Shelf) (t : Stands out old b w s) (n : ℕ) (g : List ℕ) (e : Ending) (a : Result Ending GroupFault) (st : State × Counts)
    (final : ℕ) (q : Ok e ≡ cause_in a) where
  long : length s.output ≡ length out
  long = output-long out old b s t.holds t.bytes

  tall : length s.rows ≡ length old
  tall = table-long out old b s t.holds t.items

  pub next-roomy : (r : Result Between IndexFault) → walk_group n b (read_group g) ≡ r → Gave final a st r → (number 2 126602 g ≤ 31650) × Roomy s (read_group g).entries
  next-roomy (Err x) h k = no-cause e (Index x) (q ∙ ap cause_in k)
  next-roomy (Ok c) h k =
      let f = group-goes n b c (read_group g) h in
      let p = t.holds.bytes in let o = t.holds.count in let u = long in let v = tall in let y = t.bytes in let z = t.items in (
        few-entries g f.2,
        record {
          bytes = omega arith;
          rows = omega arith;
          fits = λ i j. (f.1 out old s t.holds (omega arith) (omega arith)).0;
        },
      )

  -- the same tests
  module _ (c : Between) (f : Added b c (read_group g).entries × Goes b c (read_group g).entries × (length (read_group g).entries ≤ 31650)) where
    abbrev ps : List Entry
    ps = (read_group g).entries

    bytes-test : leb (s.giving.bytes + size_in ps) (length s.output) ≡ leb (length (given c)) (length out)
    bytes-test = let x : s.giving.bytes + size_in ps ≡ length (given c) = omega (arith, t.holds.bytes, f.0.bytes) in ap₂ leb x long

    rows-test : leb (s.giving.rows + finished_in ps) (length s.rows) ≡ leb (length c.items) (length old)
    rows-test = let x : s.giving.rows + finished_in ps ≡ length c.items = omega (arith, t.holds.count, f.0.rows) in ap₂ leb x tall

    fitted : (w' : Walk) (s' : Shelf) (r : Result Ending GroupCause) → a ≡ Ok (ending_of final) → numbers_of c ≡ state_counts (standing w') → (standing w').0 ≡ n + 1
        → r ≡ and_ending e (room_for s ps) → s' ≡ after_all s ps → Fitted out old b c n final w' s' r
    fitted w' s' r aa num on rr ss = record {
      no_output = λ i. by (leb (s.giving.bytes + size_in ps) (length s.output)) (leb (s.giving.rows + finished_in ps) (length s.rows)) (bytes-test ∙ i) rr ss;
      no_rows = λ i j. by₂ (leb (s.giving.bytes + size_in ps) (length s.output)) (leb (s.giving.rows + finished_in ps) (length s.rows)) (bytes-test ∙ i) (rows-test ∙ j) rr ss;
      some = λ i j. by₃ (leb (s.giving.bytes + size_in ps) (length s.output)) (leb (s.giving.rows + finished_in ps) (length s.rows)) (bytes-test ∙ i) (rows-test ∙ j) rr ss
          (leb-true (length (given c)) (length out) i) (leb-true (length c.items) (length old) j);
    }
      where
        answer : Bool → Bool → Result Ending GroupCause
        answer x y = and_ending e (cond x (cond y (Ok tt) (Err Rows)) (Err Output))

        left : Bool → Bool → Shelf
        left x y = cond x (cond y (laid_all s ps) s) s

        no : {B : Type 0} (x : Bool) → x ≡ true → x ≡ false → B
        no x i j = let z : ◌≡◌ {A = ℕ} 0 1 = cc in absurd (omega arith)

        by : (x y : Bool) → x ≡ false → r ≡ answer x y → s' ≡ left x y → (r ≡ Err Output) × Holds out old b s'
        by true y i p k = no true refl i
        by false y i p k = (p, subst (Holds out old b) (sym k) t.holds)

        by₂ : (x y : Bool) → x ≡ true → y ≡ false → r ≡ answer x y → s' ≡ left x y → (r ≡ Err Rows) × Holds out old b s'
        by₂ false y i j p k = no false i refl
        by₂ true true i j p k = no true refl j
        by₂ true false i j p k = (p, subst (Holds out old b) (sym k) t.holds)

        by₃ : (x y : Bool) → x ≡ true → y ≡ true → r ≡ answer x y → s' ≡ left x y → length (given c) ≤ length out → length c.items ≤ length old
            → (r ≡ Ok (ending_of final)) × Stands out old c w' s' × ((standing w').0 ≡ n + 1)
        by₃ false y i j p k l m = no false i refl
        by₃ true false i j p k l m = no false j refl
        by₃ true true i j p k l m = (
          p ∙ ap (λ (d : Ending). Ok d) (same-ending e (ending_of final) (q ∙ ap cause_in aa)),
          record {
            numbers = num;
            holds = subst (Holds out old c) (sym k) (f.1 out old s t.holds (omega (arith, f.0.bytes)) (omega (arith, f.0.rows))).1;
            bytes = l;
            items = m;
          },
          on,
        )

  pub next-went : (w' : Walk) (s' : Shelf) (r : Result Ending GroupCause) → st ≡ state_counts (standing w') → (standing w').0 ≡ n + 1 → r ≡ and_ending e (room_for s (read_group g).entries)
      → s' ≡ after_all s (read_group g).entries → (v : Result Between IndexFault) → walk_group n b (read_group g) ≡ v → Gave final a st v → Went out old b n final w' s' r v
  next-went w' s' r num on rr ss (Err x) h k = no-cause e (Index x) (q ∙ ap cause_in k)
  next-went w' s' r num on rr ss (Ok c) h k = fitted c (group-goes n b c (read_group g) h) w' s' r k.0 (k.1 ∙ num) on rr ss
