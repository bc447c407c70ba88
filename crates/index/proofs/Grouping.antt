-- A group by numbers, step by step.
use Rattle.std.proofs.Common.{◌≡◌, ℕ, zero, suc, ◌+◌, ◌-◌, ◌*◌, ◌≤◌, Bool, true, false, cond, ◌&&◌, eqb, ltb, leb, List, [], ◌∷◌, length, take, drop, Ok, Err, Result, refl, ap, ◌∙◌, subst, arith, length-drop, length-take}
use Rattle.std.proofs.lemmas.List.{length-take-le}
use Rattle.std.proofs.lemmas.Bool.{leb-true, and_parts}
use Rattle.index.specs.declared.fault.IndexFault.{IndexFault}
use Rattle.index.specs.declared.fault.IndexFault.TheVariants.{GroupNumber, EntryCount, LastByte, TableZeros, Totals, OpenRecord}
use Rattle.index.specs.declared.succession.State.{State}
use Rattle.index.specs.declared.table.Table.{Table}
use Rattle.index.specs.declared.tally.Counts.{Counts}
use Rattle.index.specs.declared.tally.Tally.{Tally}
use Rattle.index.specs.Entries.{Entry, used}
use Rattle.index.specs.Succession.{parts_sum}
use Rattle.index.specs.Walk.{next, none, left_open}
use Rattle.index.specs.Bytes.{number, named, read_entry, read_entries, read_group}
use Rattle.index.specs.Cursors.{Cursor, started_with, remaining, ReadsGroup, ReadsAll}
use Rattle.index.specs.Counted.{stepped, closed, tallied, table_checked, totals_checked, table_in, opened, entries_tallied, group_tallied}
use Rattle.index.proofs.Growing.{stepped-grown, closed-kept}
use Rattle.index.proofs.Counting.{length-read}
use Rattle.index.proofs.Coming.{started-sound, sound-advanced, remaining-more, remaining-none}

-- a result is not both
pub no-fault : {A : Type 0} {B : Type 0} (x : IndexFault) (y : A) → ◌≡◌ {A = Result A IndexFault} (Err x) (Ok y) → B
no-fault x y e = let z : ◌≡◌ {A = ℕ} 0 1 = cc in absurd (omega arith)

pub table-few : (n : ℕ) (t : Table) (u : Unit {0}) → table_checked n t ≡ Ok u → t.entries ≤ 31650
table-few n t u = go (eqb t.number n) (ltb 0 t.entries && leb t.entries 31650) refl
  where
    go : (a b : Bool) → (ltb 0 t.entries && leb t.entries 31650) ≡ b
        → cond a (cond b (cond (ltb t.last 2) (cond t.zeros (Ok tt) (Err TableZeros)) (Err LastByte)) (Err EntryCount)) (Err GroupNumber) ≡ Ok u → t.entries ≤ 31650
    go false b h e = no-fault GroupNumber u e
    go true false h e = no-fault EntryCount u e
    go true true h e = leb-true t.entries 31650 (and_parts _ _ h).1

-- the entries of a group are those that a reader has at its opening
pub entries-read : (k : ℕ) (g : List ℕ) → length g ≡ 126632 → remaining (started_with k g) ≡ read_entries g k 126600 0
entries-read k g l = ap (λ (n : ℕ). read_entries g k n 0) (length-take-le 126600 g (omega arith))

module _ (n : ℕ) (s : State) (c : Counts) (g : List ℕ) where
  -- a fault of the table
  pub table-fault : (t : Table) (x : IndexFault) → t ≡ table_in g → Err x ≡ table_checked n t → Err x ≡ group_tallied n s c g
  unfolding group_tallied
  table-fault t x e h =
      ap (λ (r : Result (Unit {0}) IndexFault). next r (λ u. next (entries_tallied (opened s c) g) (λ t. totals_checked (table_in g) t)))
      (h ∙ ap (table_checked n) e)

  -- no fault of the table
  pub table-right : (t : Table) (u : Unit {0}) → t ≡ table_in g → Ok u ≡ table_checked n t
      → next (entries_tallied (opened s c) g) (λ t. totals_checked (table_in g) t) ≡ group_tallied n s c g
  unfolding group_tallied
  table-right t u e h =
      ap (λ (r : Result (Unit {0}) IndexFault). next r (λ u. next (entries_tallied (opened s c) g) (λ t. totals_checked (table_in g) t)))
      (h ∙ ap (table_checked n) e)

  -- the entries as the code walks them
  pub entries-walked : (t : Table) (d : Cursor) (r : Result Tally IndexFault) → length g ≡ 126632 → t ≡ table_in g → d ≡ started_with t.entries g
      → r ≡ tallied (126600 - 4 * t.entries) 1 (opened s c) (remaining d) → r ≡ entries_tallied (opened s c) g
  entries-walked t d r l e f h =
      h ∙ (ap (λ (x : Cursor). tallied (126600 - 4 * t.entries) 1 (opened s c) (remaining x)) f
      ∙ (ap (λ (x : List Entry). tallied (126600 - 4 * t.entries) 1 (opened s c) x) (entries-read t.entries g l)
      ∙ ap (λ (k : ℕ). tallied (126600 - 4 * k) 1 (opened s c) (read_entries g k 126600 0)) (ap (λ (x : Table). x.entries) e)))

-- ---- how much a group adds

read-used : (g : List ℕ) (k e at : ℕ) → used (read_entries g k e at) ≤ length g - at
unfolding used read_entries
read-used g zero e at = omega arith
read-used g (suc k) e at =
    let ih = read-used g k (e - 4) (at + length (read_entry g (e - 4) at).bytes) in
    let h = bytes-few (named (read_entry g (e - 4) at).kind) (number 3 (e - 4 + 1) g) in
    omega arith
  where
    bytes-few : (b : Bool) (n : ℕ) → length (cond b (take n (drop at g)) []) ≤ length g - at
    bytes-few true n = omega (arith, length-take n (drop at g), length-drop at g)
    bytes-few false n = omega arith

-- a tally has grown by m bytes and k entries at most
pub record Within (t u : Tally) (m k : ℕ) : Type 0 where
  pub sum : parts_sum u.state ≤ parts_sum t.state + m
  pub items : u.counts.items ≤ t.counts.items + k
  pub ones : u.counts.ones ≤ t.counts.ones + k
  pub twos : u.counts.twos ≤ t.counts.twos + k

tallied-within : (ps : List Entry) (limit i : ℕ) (t u : Tally) → tallied limit i t ps ≡ Ok u → Within t u (used ps) (length ps)
unfolding tallied used
tallied-within [] limit i t u e = no-fault EntryCount u e
tallied-within (p ∷ ps) limit i t u e = go (none ps) (stepped limit i t p) refl e (λ v. tallied-within ps limit (suc i) v u)
  where
    go : (b : Bool) (r : Result Tally IndexFault) → stepped limit i t p ≡ r
        → cond b (closed limit i t p) (next r (λ v. tallied limit (suc i) v ps)) ≡ Ok u
        → ((v : Tally) → tallied limit (suc i) v ps ≡ Ok u → Within v u (used ps) (length ps))
        → Within t u (length p.bytes + used ps) (suc (length ps))
    go true r q h ih =
        let k = closed-kept limit i t u p h in
        record {
          sum = omega (arith, k.0);
          items = omega (arith, ap (λ (x : Counts). x.items) k.1);
          ones = omega (arith, ap (λ (x : Counts). x.ones) k.1);
          twos = omega (arith, ap (λ (x : Counts). x.twos) k.1);
        }
    go false (Ok v) q h ih =
        let a = stepped-grown limit i t v p q in
        let b = ih v h in
        record { sum = omega arith; items = omega arith; ones = omega arith; twos = omega arith }
    go false (Err x) q h ih = no-fault x u h

totals-same : (a : Table) (t u : Tally) → totals_checked a t ≡ Ok u → t ≡ u
totals-same a t u =
    go (eqb a.counts.items t.counts.items && (eqb a.counts.ones t.counts.ones && eqb a.counts.twos t.counts.twos)) (left_open a.last t.state)
  where
    go : (x y : Bool) → cond x (cond y (Err OpenRecord) (Ok t)) (Err Totals) ≡ Ok u → t ≡ u
    go false y e = no-fault Totals u e
    go true true e = no-fault OpenRecord u e
    go true false e = cc

pub group-within : (n : ℕ) (s : State) (c : Counts) (g : List ℕ) (u : Tally) → length g ≡ 126632 → group_tallied n s c g ≡ Ok u
    → Within (opened s c) u 126632 31650
unfolding group_tallied
group-within n s c g u l = go (table_checked n (table_in g)) refl (entries_tallied (opened s c) g) refl
  where
    k : ℕ
    k = number 2 126602 g

    go : (a : Result (Unit {0}) IndexFault) → table_checked n (table_in g) ≡ a → (b : Result Tally IndexFault) → entries_tallied (opened s c) g ≡ b
        → next a (λ v. next b (λ t. totals_checked (table_in g) t)) ≡ Ok u → Within (opened s c) u 126632 31650
    go (Err x) p b q e = no-fault x u e
    go (Ok v) p (Err x) q e = no-fault x u e
    go (Ok v) p (Ok t) q e =
        let w = tallied-within (read_entries g k 126600 0) (126600 - 4 * k) 1 (opened s c) t q in
        let r = read-used g k 126600 0 in
        let m = length-read g k 126600 0 in
        let f = table-few n (table_in g) v p in
        subst (λ (x : Tally). Within (opened s c) x 126632 31650) (totals-same (table_in g) t u e)
        (record { sum = omega (arith, w.sum); items = omega (arith, w.items); ones = omega (arith, w.ones); twos = omega (arith, w.twos) })

-- ---- readers

pub reads-group : ReadsGroup
unfolding read_group
reads-group g l h = (started-sound (number 2 126602 g) g l h, entries-read (number 2 126602 g) g l)

pub reads_all : ReadsAll
reads_all c s = record { some = λ a. (sound-advanced c s a, remaining-more c s a); none = λ a. (remaining-none c s a).1 }
