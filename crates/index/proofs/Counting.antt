-- Walking by numbers agrees with walking.
use Rattle.std.proofs.Common.{◌≡◌, ℕ, zero, suc, ◌+◌, ◌-◌, ◌*◌, ◌<◌, Bool, true, false, cond, ◌&&◌, eqb, ltb, leb, List, [], ◌∷◌, ◌++◌, length, get_or, Ok, Err, Result, sym, refl, ap, ◌∙◌, ap₂, add-zero, arith, length-append}
use Rattle.std.proofs.lemmas.List.{append-nil}
use Rattle.std.proofs.lemmas.Bool.{ltb-true}
use Rattle.index.specs.declared.kind.Kind.{Kind}
use Rattle.index.specs.declared.kind.Kind.TheVariants.{Total, Mark, Middle, Start, Last, Entire, Skip, Unknown}
use Rattle.index.specs.declared.fault.IndexFault.{IndexFault}
use Rattle.index.specs.declared.fault.IndexFault.TheVariants.{GroupNumber, EntryCount, LastByte, TableZeros, Flag, Succession, Count, Totals, OpenRecord}
use Rattle.index.specs.declared.succession.State.{State}
use Rattle.index.specs.declared.tally.Counts.{Counts}
use Rattle.index.specs.declared.tally.Tally.{Tally}
use Rattle.index.specs.Entries.{Entry, Item}
use Rattle.index.specs.Succession.{known, begins, continues, totals, ended, moved, moved_inside, moved_idle, count_fits}
use Rattle.index.specs.Walk.{Position, Position.idle, Position.begun, Position.inside, Position.owing, Position.owed, Walk, Between, state_of, allowed, closes, skipped, counts, after, from_idle, from_inside, gives, idle_gives, next, step, close, whole, none, of_kind, opening, left_open, summed, walk_group}
use Rattle.index.specs.Bytes.{number, empty, read_entries, read_group, read_entry}
use Rattle.index.specs.Counted.{counts_of, counted, tally_of, stepped, closed, tallied, totals_checked, table_in, opened, entries_tallied, group_tallied, on_ok, numbers_of, numbers_in, Agreed}
use Rattle.index.proofs.Walks.{length-snoc, of_kind-snoc}

-- the state after an entry
idle-moved : (bs : List ℕ) (w : ℕ) (k : Kind) → state_of (from_idle bs w k) ≡ moved_idle k (length bs) w
idle-moved bs w Total = refl
idle-moved bs w Mark = refl
idle-moved bs w Middle = refl
idle-moved bs w Start = refl
idle-moved bs w Last = refl
idle-moved bs w Entire = refl
idle-moved bs w Skip = refl
idle-moved bs w Unknown = refl

inside-moved : (bs : List ℕ) (w : ℕ) (k : Kind) → state_of (from_inside bs w k) ≡ moved_inside k (length bs) w
inside-moved bs w Total = refl
inside-moved bs w Mark = refl
inside-moved bs w Middle = refl
inside-moved bs w Start = refl
inside-moved bs w Last = refl
inside-moved bs w Entire = refl
inside-moved bs w Skip = refl
inside-moved bs w Unknown = refl

after-moved : (s : Position) (p : Entry) → state_of (after s p) ≡ moved (state_of s) p.kind (length p.bytes) p.warned
after-moved idle p = idle-moved p.bytes p.warned p.kind
after-moved (begun a w) p = refl
after-moved (inside a w) p =
    inside-moved (a ++ p.bytes) w p.kind ∙ ap (λ (n : ℕ). moved_inside p.kind n w) (length-append a p.bytes)
after-moved (owing a w) p = refl
after-moved (owed a w) p = refl

skipped-ended : (s : Position) → state_of (skipped s) ≡ ended (state_of s)
skipped-ended idle = refl
skipped-ended (begun a w) = refl
skipped-ended (inside a w) = refl
skipped-ended (owing a w) = refl
skipped-ended (owed a w) = refl

-- the numbers of items and marks after an entry
three-numbers : (a b c d e f : ℕ) → a ≡ d → b ≡ e → c ≡ f → ◌≡◌ {A = Counts} (record { items = a; ones = b; twos = c }) (record { items = d; ones = e; twos = f })
three-numbers a b c d e f p q r = λ i. record { items = p i; ones = q i; twos = r i }

nothing-more : (l : List Item) → counts_of (l ++ []) ≡ record { items = length l + 0; ones = of_kind 1 l + 0; twos = of_kind 2 l + 0 }
nothing-more l =
    ap counts_of (append-nil l)
    ∙ three-numbers _ _ _ _ _ _ (sym (add-zero (length l))) (sym (add-zero (of_kind 1 l))) (sym (add-zero (of_kind 2 l)))

one_more : (l : List Item) (x : Item)
    → counts_of (l ++ (x ∷ [])) ≡ record { items = length l + 1; ones = of_kind 1 l + cond (eqb x.kind 1) 1 0; twos = of_kind 2 l + cond (eqb x.kind 2) 1 0 }
one_more l x = three-numbers _ _ _ _ _ _ (length-snoc l x ∙ omega arith) (of_kind-snoc 1 l x) (of_kind-snoc 2 l x)

first_kind : (k : ℕ) → k < 2 → ◌≡◌ {A = ℕ} (cond (eqb (k + 1) 1) 1 0) (cond (eqb k 0) 1 0)
first_kind zero h = refl
first_kind (suc zero) h = refl
first_kind (suc (suc k)) h = absurd (omega arith)

second-kind : (k : ℕ) → k < 2 → ◌≡◌ {A = ℕ} (cond (eqb (k + 1) 2) 1 0) (cond (eqb k 1) 1 0)
second-kind zero h = refl
second-kind (suc zero) h = refl
second-kind (suc (suc k)) h = absurd (omega arith)

never : {A : Type 0} → false ≡ true → A
never e = let z : ◌≡◌ {A = ℕ} 0 1 = cc in absurd (omega arith)

idle-counted : (limit at sum : ℕ) (p : Entry) (k : Kind) (l : List Item) → begins k ≡ true → count_fits limit at sum p.count k ≡ true
    → counts_of (l ++ idle_gives p k) ≡ counted (counts_of l) k p.count
idle-counted limit at sum p Total l h c = never h
idle-counted limit at sum p Mark l h c =
    let n = ltb-true p.count 2 c in
    one_more l (record { kind = p.count + 1; bytes = []; warned = p.warned })
    ∙ three-numbers _ _ _ _ _ _ refl (ap (λ (x : ℕ). of_kind 1 l + x) (first_kind p.count n)) (ap (λ (x : ℕ). of_kind 2 l + x) (second-kind p.count n))
idle-counted limit at sum p Middle l h c = never h
idle-counted limit at sum p Start l h c = nothing-more l
idle-counted limit at sum p Last l h c = never h
idle-counted limit at sum p Entire l h c = one_more l (record { kind = 0; bytes = p.bytes; warned = p.warned })
idle-counted limit at sum p Skip l h c = never h
idle-counted limit at sum p Unknown l h c = never h

inside-counted : (n : ℕ) (k : Kind) (l : List Item) → continues k ≡ true → counts_of (l ++ []) ≡ counted (counts_of l) k n
inside-counted n Total l h = never h
inside-counted n Mark l h = never h
inside-counted n Middle l h = nothing-more l
inside-counted n Start l h = never h
inside-counted n Last l h = nothing-more l
inside-counted n Entire l h = never h
inside-counted n Skip l h = never h
inside-counted n Unknown l h = never h

total-counted : (n : ℕ) (k : Kind) (l : List Item) (bs : List ℕ) (w : ℕ) → totals k ≡ true
    → counts_of (l ++ (record { kind = 0; bytes = bs; warned = w } ∷ [])) ≡ counted (counts_of l) k n
total-counted n Total l bs w h = one_more l (record { kind = 0; bytes = bs; warned = w })
total-counted n Mark l bs w h = never h
total-counted n Middle l bs w h = never h
total-counted n Start l bs w h = never h
total-counted n Last l bs w h = never h
total-counted n Entire l bs w h = never h
total-counted n Skip l bs w h = never h
total-counted n Unknown l bs w h = never h

gives-counted : (limit at : ℕ) (s : Position) (p : Entry) (l : List Item) → allowed s p.kind ≡ true → counts limit at s p ≡ true
    → counts_of (l ++ gives s p) ≡ counted (counts_of l) p.kind p.count
gives-counted limit at idle p l h c = idle-counted limit at 0 p p.kind l h c
gives-counted limit at (begun a w) p l h c = never h
gives-counted limit at (inside a w) p l h c = inside-counted p.count p.kind l h
gives-counted limit at (owing a w) p l h c = total-counted p.count p.kind l a w h
gives-counted limit at (owed a w) p l h c = total-counted p.count p.kind l a w h

-- one entry
step-agrees : (limit i : ℕ) (w : Walk) (p : Entry) → on_ok tally_of (step limit i w p) ≡ stepped limit i (tally_of w) p
step-agrees limit i w p = go (known p.kind) (allowed w.position p.kind) refl (counts limit w.used w.position p) refl
  where
    go : (a b : Bool) → allowed w.position p.kind ≡ b → (c : Bool) → counts limit w.used w.position p ≡ c
        → on_ok tally_of (cond a (cond b (cond c (Ok (record { position = after w.position p; used = w.used + length p.bytes; items = w.items ++ gives w.position p })) (Err (Count i))) (Err (Succession i))) (Err (Flag i)))
        ≡ cond a (cond b (cond c (Ok (record { state = moved (state_of w.position) p.kind (length p.bytes) p.warned; used = w.used + length p.bytes; counts = counted (counts_of w.items) p.kind p.count })) (Err (Count i))) (Err (Succession i))) (Err (Flag i))
    go false b e c f = refl
    go true false e c f = refl
    go true true e false f = refl
    go true true e true f =
        ap₂ (λ (s : State) (n : Counts). Ok (record { state = s; used = w.used + length p.bytes; counts = n }))
        (after-moved w.position p) (gives-counted limit w.used w.position p w.items e f)

close-agrees : (limit i : ℕ) (w : Walk) (p : Entry) → on_ok tally_of (close limit i w p) ≡ closed limit i (tally_of w) p
close-agrees limit i w p = go (known p.kind) (closes w.position p.kind) (counts limit w.used w.position p)
  where
    go : (a b c : Bool)
        → on_ok tally_of (cond a (cond b (cond c (Ok (record { position = skipped w.position; used = w.used; items = w.items })) (Err (Count i))) (Err (Succession i))) (Err (Flag i)))
        ≡ cond a (cond b (cond c (Ok (record { state = ended (state_of w.position); used = w.used; counts = counts_of w.items })) (Err (Count i))) (Err (Succession i))) (Err (Flag i))
    go false b c = refl
    go true false c = refl
    go true true false = refl
    go true true true = ap (λ (s : State). Ok (record { state = s; used = w.used; counts = counts_of w.items })) (skipped-ended w.position)

-- all entries of a group
pub whole-agrees : (ps : List Entry) (limit i : ℕ) (w : Walk) → on_ok tally_of (whole limit i w ps) ≡ tallied limit i (tally_of w) ps
unfolding whole tallied
whole-agrees [] limit i w = refl
whole-agrees (p ∷ ps) limit i w =
    go (none ps) (step limit i w p) (stepped limit i (tally_of w) p) (step-agrees limit i w p) (λ v. whole-agrees ps limit (suc i) v)
  where
    go : (b : Bool) (r : Result Walk IndexFault) (s : Result Tally IndexFault) → on_ok tally_of r ≡ s
        → ((v : Walk) → on_ok tally_of (whole limit (suc i) v ps) ≡ tallied limit (suc i) (tally_of v) ps)
        → on_ok tally_of (cond b (close limit i w p) (next r (λ v. whole limit (suc i) v ps)))
        ≡ cond b (closed limit i (tally_of w) p) (next s (λ u. tallied limit (suc i) u ps))
    go true r s e ih = close-agrees limit i w p
    go false (Ok v) s e ih = ih v ∙ ap (λ (x : Result Tally IndexFault). next x (λ u. tallied limit (suc i) u ps)) e
    go false (Err x) s e ih = ap (λ (x : Result Tally IndexFault). next x (λ u. tallied limit (suc i) u ps)) e

pub length-read : (g : List ℕ) (k e at : ℕ) → length (read_entries g k e at) ≡ k
unfolding read_entries
length-read g zero e at = refl
length-read g (suc k) e at = ap suc (length-read g k (e - 4) (at + length (read_entry g (e - 4) at).bytes))

-- the table's totals and an open record
summed-agrees : (g : List ℕ) (w : Walk) → on_ok numbers_of (summed (read_group g) w) ≡ on_ok numbers_in (totals_checked (table_in g) (tally_of w))
unfolding read_group
summed-agrees g w =
    go (eqb (number 4 126604 g) (length w.items) && (eqb (number 4 126608 g) (of_kind 1 w.items) && eqb (number 4 126612 g) (of_kind 2 w.items)))
    (left_open (get_or g 126616 0) (state_of w.position))
  where
    go : (a b : Bool) → on_ok numbers_of (cond a (cond b (Err OpenRecord) (Ok (record { position = w.position; items = w.items }))) (Err Totals))
        ≡ on_ok numbers_in (cond a (cond b (Err OpenRecord) (Ok (tally_of w))) (Err Totals))
    go false b = refl
    go true true = refl
    go true false = refl

final-agrees : (g : List ℕ) (r : Result Walk IndexFault) (s : Result Tally IndexFault) → on_ok tally_of r ≡ s
    → on_ok numbers_of (next r (λ w. summed (read_group g) w)) ≡ on_ok numbers_in (next s (λ t. totals_checked (table_in g) t))
final-agrees g (Ok w) s e = summed-agrees g w ∙ ap (λ (x : Result Tally IndexFault). on_ok numbers_in (next x (λ t. totals_checked (table_in g) t))) e
final-agrees g (Err x) s e = ap (λ (x : Result Tally IndexFault). on_ok numbers_in (next x (λ t. totals_checked (table_in g) t))) e

pub agreed : Agreed
unfolding walk_group group_tallied read_group
agreed n b g =
    number-for (length ps) (length-read g k 126600 0)
    ∙ go (eqb (number 2 126600 g) n) (ltb 0 k && leb k 31650) (ltb (get_or g 126616 0) 2) (empty g 126617 15)
  where
    k : ℕ
    k = number 2 126602 g

    ps : List Entry
    ps = read_entries g k 126600 0

    by : ℕ → Result Between IndexFault
    by m =
        cond (eqb (number 2 126600 g) n)
        (cond (ltb 0 m && leb m 31650)
        (cond (ltb (get_or g 126616 0) 2)
        (cond (empty g 126617 15) (next (whole (126600 - 4 * m) 1 (opening b) ps) (λ w. summed (read_group g) w)) (Err TableZeros))
        (Err LastByte))
        (Err EntryCount))
        (Err GroupNumber)

    number-for : (m : ℕ) → m ≡ k → on_ok numbers_of (by m) ≡ on_ok numbers_of (by k)
    number-for m e = ap (λ (x : ℕ). on_ok numbers_of (by x)) e

    go : (a c d e : Bool)
        → on_ok numbers_of (cond a (cond c (cond d (cond e (next (whole (126600 - 4 * k) 1 (opening b) ps) (λ w. summed (read_group g) w)) (Err TableZeros)) (Err LastByte)) (Err EntryCount)) (Err GroupNumber))
        ≡ on_ok numbers_in (next {A = Unit {0}} (cond a (cond c (cond d (cond e (Ok tt) (Err TableZeros)) (Err LastByte)) (Err EntryCount)) (Err GroupNumber)) (λ u. next (entries_tallied (opened (state_of b.position) (counts_of b.items)) g) (λ t. totals_checked (table_in g) t)))
    go false c d e = refl
    go true false d e = refl
    go true true false e = refl
    go true true true false = refl
    go true true true true = final-agrees g (whole (126600 - 4 * k) 1 (opening b) ps) _ (whole-agrees ps (126600 - 4 * k) 1 (opening b))
