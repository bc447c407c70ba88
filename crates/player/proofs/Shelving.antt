-- Entries given one by one give what a walk over them gives.
use Rattle.std.proofs.Common.{◌≡◌, ℕ, zero, suc, ◌+◌, ◌-◌, ◌*◌, ◌<◌, ◌≤◌, Bool, true, false, cond, ◌&&◌, eqb, ltb, leb, List, [], ◌∷◌, ◌++◌, length, drop, set, Ok, Err, Result, sym, refl, ap, ◌∙◌, subst, ap₂, add-zero, zero-add, arith, length-append, length-drop}
use Rattle.std.proofs.lemmas.List.{append-nil, append_assoc}
use Rattle.std.proofs.lemmas.Bool.{ltb-true, leb-true, and_parts}
use Rattle.index.specs.declared.kind.Kind.{Kind}
use Rattle.index.specs.declared.kind.Kind.TheVariants.{Total, Mark, Middle, Start, Last, Entire, Skip, Unknown}
use Rattle.index.specs.declared.succession.State.{State}
use Rattle.index.specs.declared.succession.State.TheVariants.{Idle, Begun, Inside, Owing, Owed}
use Rattle.index.specs.declared.fault.IndexFault.{IndexFault}
use Rattle.index.specs.declared.fault.IndexFault.TheVariants.{GroupNumber, EntryCount, LastByte, TableZeros, Totals, OpenRecord}
use Rattle.index.specs.Entries.{Entry, Item, Group, finishes}
use Rattle.index.specs.Bytes.{named}
use Rattle.index.specs.Succession.{known, begins, continues, totals, skips, ends, count_fits}
use Rattle.index.specs.Walk.{Position, Position.idle, Position.begun, Position.inside, Position.owing, Position.owed, Between, state_of, allowed, closes, skipped, counts, from_idle, from_inside, after, idle_gives, gives, Walk, next, step, close, whole, none, of_kind, opening, left_open, summed, walk_group}
use Rattle.index.specs.Writing.{replaced}
use Rattle.index.proofs.Replacing.{replaced-none, replaced-then}
use Rattle.playing.specs.declared.rows.Row.{Row}
use Rattle.playing.specs.Play.{parts_in, bytes_given, rows_given, given}
use Rattle.player.specs.declared.giving.Giving.{Giving}
use Rattle.player.specs.Standing.{Opened, Holds}
use Rattle.player.specs.Shelves.{Shelf, shelf, part, turned, tabled, laid, laid_all, FitsOne, Fits, size_in, finished_in}

no : {B : Type 0} → false ≡ true → B
no h = let z : ◌≡◌ {A = ℕ} 0 1 = cc in absurd (omega arith)

-- ---- over plain lists

pub bytes-append : (l m : List Item) → bytes_given (l ++ m) ≡ bytes_given l ++ bytes_given m
unfolding bytes_given
bytes-append [] m = refl
bytes-append (i ∷ l) m = ap (λ (x : List ℕ). i.bytes ++ x) (bytes-append l m) ∙ sym (append_assoc i.bytes (bytes_given l) (bytes_given m))

abbrev row_at : ℕ → Item → Row
row_at place i = record { kind = i.kind; place = place; length = length i.bytes; warned = i.warned }

length-rows : (place : ℕ) (l : List Item) → length (rows_given place l) ≡ length l
unfolding rows_given
length-rows place [] = refl
length-rows place (i ∷ l) = ap suc (length-rows (place + length i.bytes) l)

rows_snoc : (place : ℕ) (l : List Item) (i : Item) → rows_given place (l ++ (i ∷ [])) ≡ rows_given place l ++ (row_at (place + length (bytes_given l)) i ∷ [])
unfolding rows_given bytes_given
rows_snoc place [] i = ap (λ (n : ℕ). row_at n i ∷ []) (sym (add-zero place))
rows_snoc place (j ∷ l) i =
    ap (λ (x : List Row). row_at place j ∷ x)
    (rows_snoc (place + length j.bytes) l i
    ∙ ap (λ (n : ℕ). rows_given (place + length j.bytes) l ++ (row_at n i ∷ [])) (omega (arith, length-append j.bytes (bytes_given l))))

set-behind : (xs ys : List Row) (y : Row) → set (xs ++ ys) (length xs) y ≡ xs ++ set ys 0 y
set-behind [] ys y = refl
set-behind (x ∷ xs) ys y = ap (λ (l : List Row). x ∷ l) (set-behind xs ys y)

set_first : (n : ℕ) (rows : List Row) (r : Row) → n < length rows → set (drop n rows) 0 r ≡ r ∷ drop (suc n) rows
set_first n [] r h = absurd (omega arith)
set_first zero (x ∷ rows) r h = refl
set_first (suc n) (x ∷ rows) r h = set_first n rows r (omega arith)

-- a row more
rows-added : (rows now : List Row) (l : List Item) (n : ℕ) (r : Row) (i : Item) → now ≡ rows_given 0 l ++ drop (length l) rows → n ≡ length l → length l < length rows
    → r ≡ row_at (length (bytes_given l)) i → set now n r ≡ rows_given 0 (l ++ (i ∷ [])) ++ drop (length (l ++ (i ∷ []))) rows
rows-added rows now l n r i e f h g =
    ap₂ (λ (x : List Row) (m : ℕ). set x m r) e (f ∙ sym (length-rows 0 l))
    ∙ (set-behind (rows_given 0 l) (drop (length l) rows) r
    ∙ (ap (λ (x : List Row). rows_given 0 l ++ x) (set_first (length l) rows r h)
    ∙ (sym (append_assoc (rows_given 0 l) (r ∷ []) (drop (suc (length l)) rows))
    ∙ ap₂ (λ (x : List Row) (m : ℕ). x ++ drop m rows)
    (ap (λ (x : Row). rows_given 0 l ++ (x ∷ [])) (g ∙ ap (λ (m : ℕ). row_at m i) (sym (zero-add (length (bytes_given l))))) ∙ sym (rows_snoc 0 l i))
    more)))
  where
    more : suc (length l) ≡ length (l ++ (i ∷ []))
    more = omega (arith, length-append l (i ∷ []))

rows_same : (rows now : List Row) (l : List Item) → now ≡ rows_given 0 l ++ drop (length l) rows → now ≡ rows_given 0 (l ++ []) ++ drop (length (l ++ [])) rows
rows_same rows now l e = e ∙ ap (λ (x : List Item). rows_given 0 x ++ drop (length x) rows) (sym (append-nil l))

front : (out xs : List ℕ) → replaced out 0 xs ≡ xs ++ drop (length xs) out
unfolding replaced
front out xs = ap (λ (n : ℕ). xs ++ drop n out) (zero-add (length xs))

-- bytes more
output-added : (out now : List ℕ) (g bs : List ℕ) (n : ℕ) → now ≡ g ++ drop (length g) out → n ≡ length g → length g + length bs ≤ length out
    → replaced now n bs ≡ (g ++ bs) ++ drop (length (g ++ bs)) out
output-added out now g bs n e f h =
    replaced-then out now (replaced now n bs) 0 n g bs (e ∙ sym (front out g)) refl (omega arith) (omega arith) ∙ front out (g ++ bs)

-- ---- one entry

-- an entry before the group's last: its part is added
parts_added : (st : Position) (p : Entry) → allowed st p.kind ≡ true → bytes_given (gives st p) ++ parts_in (after st p) ≡ parts_in st ++ part p
unfolding bytes_given
parts_added idle p h = go p.kind h
  where
    go : (k : Kind) → begins k ≡ true → bytes_given (idle_gives p k) ++ parts_in (from_idle p.bytes p.warned k) ≡ cond (named k) p.bytes []
    go Total h = no h
    go Mark h = refl
    go Middle h = no h
    go Start h = refl
    go Last h = no h
    go Entire h = append-nil (p.bytes ++ []) ∙ append-nil p.bytes
    go Skip h = no h
    go Unknown h = no h
parts_added (begun a w) p h = no h
parts_added (inside a w) p h = go p.kind h
  where
    go : (k : Kind) → continues k ≡ true → parts_in (from_inside (a ++ p.bytes) w k) ≡ a ++ cond (named k) p.bytes []
    go Total h = no h
    go Mark h = no h
    go Middle h = refl
    go Start h = no h
    go Last h = refl
    go Entire h = no h
    go Skip h = no h
    go Unknown h = no h
parts_added (owing a w) p h = go p.kind h
  where
    go : (k : Kind) → totals k ≡ true → (a ++ []) ++ [] ≡ a ++ cond (named k) p.bytes []
    go Total h = append-nil (a ++ [])
    go Mark h = no h
    go Middle h = no h
    go Start h = no h
    go Last h = no h
    go Entire h = no h
    go Skip h = no h
    go Unknown h = no h
parts_added (owed a w) p h = go p.kind h
  where
    go : (k : Kind) → totals k ≡ true → (a ++ []) ++ [] ≡ a ++ cond (named k) p.bytes []
    go Total h = append-nil (a ++ [])
    go Mark h = no h
    go Middle h = no h
    go Start h = no h
    go Last h = no h
    go Entire h = no h
    go Skip h = no h
    go Unknown h = no h

-- and what it finishes
items-added : (st : Position) (p : Entry) → allowed st p.kind ≡ true → length (gives st p) ≡ finishes p.kind
items-added idle p h = go p.kind h
  where
    go : (k : Kind) → begins k ≡ true → length (idle_gives p k) ≡ finishes k
    go Total h = no h
    go Mark h = refl
    go Middle h = no h
    go Start h = refl
    go Last h = no h
    go Entire h = refl
    go Skip h = no h
    go Unknown h = no h
items-added (begun a w) p h = no h
items-added (inside a w) p h = go p.kind h
  where
    go : (k : Kind) → continues k ≡ true → 0 ≡ finishes k
    go Total h = no h
    go Mark h = no h
    go Middle h = refl
    go Start h = no h
    go Last h = refl
    go Entire h = no h
    go Skip h = no h
    go Unknown h = no h
items-added (owing a w) p h = go p.kind h
  where
    go : (k : Kind) → totals k ≡ true → 1 ≡ finishes k
    go Total h = refl
    go Mark h = no h
    go Middle h = no h
    go Start h = no h
    go Last h = no h
    go Entire h = no h
    go Skip h = no h
    go Unknown h = no h
items-added (owed a w) p h = go p.kind h
  where
    go : (k : Kind) → totals k ≡ true → 1 ≡ finishes k
    go Total h = refl
    go Mark h = no h
    go Middle h = no h
    go Start h = no h
    go Last h = no h
    go Entire h = no h
    go Skip h = no h
    go Unknown h = no h

-- the walk after it
abbrev pub stepped : Between → Entry → Between
stepped b p = record { position = after b.position p; items = b.items ++ gives b.position p }

pub given-added : (b : Between) (p : Entry) → allowed b.position p.kind ≡ true → given (stepped b p) ≡ given b ++ part p
given-added b p h =
    ap (λ (x : List ℕ). x ++ parts_in (after b.position p)) (bytes-append b.items (gives b.position p))
    ∙ (append_assoc (bytes_given b.items) (bytes_given (gives b.position p)) (parts_in (after b.position p))
    ∙ (ap (λ (x : List ℕ). bytes_given b.items ++ x) (parts_added b.position p h)
    ∙ sym (append_assoc (bytes_given b.items) (parts_in b.position) (part p))))

pub size-added : (b : Between) (p : Entry) → allowed b.position p.kind ≡ true → length (given (stepped b p)) ≡ length (given b) + length (part p)
size-added b p h = ap length (given-added b p h) ∙ length-append (given b) (part p)

pub count-added : (b : Between) (p : Entry) → allowed b.position p.kind ≡ true → length (stepped b p).items ≡ length b.items + finishes p.kind
count-added b p h = length-append b.items (gives b.position p) ∙ ap (λ (n : ℕ). length b.items + n) (items-added b.position p h)

module _ (out : List ℕ) (rows : List Row) (b : Between) (s : Shelf) (h : Holds out rows b s) where
  pub output-long : length (given b) ≤ length out → length s.output ≡ length out
  output-long l = ap length h.output ∙ (length-append (given b) (drop (length (given b)) out) ∙ omega (arith, length-drop (length (given b)) out))

  pub table-long : length b.items ≤ length rows → length s.rows ≡ length rows
  table-long l =
      ap length h.table
      ∙ (length-append (rows_given 0 b.items) (drop (length b.items) rows) ∙ omega (arith, length-rows 0 b.items, length-drop (length b.items) rows))

turned-bytes : (g : Giving) (k : Kind) (n w : ℕ) → (turned g k n w).bytes ≡ g.bytes + n
turned-bytes g Total n w = refl
turned-bytes g Mark n w = refl
turned-bytes g Middle n w = refl
turned-bytes g Start n w = refl
turned-bytes g Last n w = refl
turned-bytes g Entire n w = refl
turned-bytes g Skip n w = refl
turned-bytes g Unknown n w = refl

turned_rows : (g : Giving) (k : Kind) (n w : ℕ) → (turned g k n w).rows ≡ g.rows + finishes k
turned_rows g Total n w = refl
turned_rows g Mark n w = refl
turned_rows g Middle n w = sym (add-zero g.rows)
turned_rows g Start n w = sym (add-zero g.rows)
turned_rows g Last n w = sym (add-zero g.rows)
turned_rows g Entire n w = refl
turned_rows g Skip n w = sym (add-zero g.rows)
turned_rows g Unknown n w = sym (add-zero g.rows)

turned-below : (g : Giving) (k : Kind) (n w : ℕ) → g.length ≤ g.bytes → (turned g k n w).length ≤ (turned g k n w).bytes
turned-below g Total n w h = omega arith
turned-below g Mark n w h = omega arith
turned-below g Middle n w h = omega arith
turned-below g Start n w h = omega arith
turned-below g Last n w h = omega arith
turned-below g Entire n w h = omega arith
turned-below g Skip n w h = omega arith
turned-below g Unknown n w h = omega arith

turned-open : (st : Position) (p : Entry) (g : Giving) → allowed st p.kind ≡ true → Opened st g → Opened (after st p) (turned g p.kind (length (part p)) p.warned)
turned-open idle p g h o = go p.kind h
  where
    go : (k : Kind) → begins k ≡ true → Opened (from_idle p.bytes p.warned k) (turned g k (length (cond (named k) p.bytes [])) p.warned)
    go Total h = no h
    go Mark h = tt
    go Middle h = no h
    go Start h = (refl, refl)
    go Last h = no h
    go Entire h = tt
    go Skip h = no h
    go Unknown h = no h
turned-open (begun a w) p g h o = no h
turned-open (inside a w) p g h o = go p.kind h
  where
    go : (k : Kind) → continues k ≡ true → Opened (from_inside (a ++ p.bytes) w k) (turned g k (length (cond (named k) p.bytes [])) p.warned)
    go Total h = no h
    go Mark h = no h
    go Middle h = (omega (arith, o.0, length-append a p.bytes), o.1)
    go Start h = no h
    go Last h = (omega (arith, o.0, length-append a p.bytes), o.1)
    go Entire h = no h
    go Skip h = no h
    go Unknown h = no h
turned-open (owing a w) p g h o = tt
turned-open (owed a w) p g h o = tt

mark-kind : (c : ℕ) → ltb c 2 ≡ true → ◌≡◌ {A = ℕ} (cond (eqb c 0) 1 2) (c + 1)
mark-kind zero h = refl
mark-kind (suc zero) h = refl
mark-kind (suc (suc c)) h = let l = ltb-true (suc (suc c)) 2 h in absurd (omega arith)

-- the row of a whole record whose bytes were given
total-row : (g : Giving) (l : List Item) (a : List ℕ) (w : ℕ) → g.bytes ≡ length (bytes_given l ++ a) → g.length ≡ length a → g.warned ≡ w
    → ◌≡◌ {A = Row} (record { kind = 0; place = g.bytes - g.length; length = g.length; warned = g.warned }) (row_at (length (bytes_given l)) (record { kind = 0; bytes = a; warned = w }))
total-row g l a w p q r =
    let e : g.bytes - g.length ≡ length (bytes_given l) = omega (arith, length-append (bytes_given l) a) in
    λ i. record { kind = 0; place = e i; length = q i; warned = r i }

module _ (rows : List Row) (l : List Item) (s : Shelf) (table : s.rows ≡ rows_given 0 l ++ drop (length l) rows) (count : s.giving.rows ≡ length l) where
  -- a total
  total-tabled : (p : Entry) (a : List ℕ) (w : ℕ) → totals p.kind ≡ true → s.giving.bytes ≡ length (bytes_given l ++ a) → s.giving.length ≡ length a → s.giving.warned ≡ w
      → length l + finishes p.kind ≤ length rows
      → tabled s.giving p.kind p.count (length (part p)) p.warned s.rows
      ≡ rows_given 0 (l ++ (record { kind = 0; bytes = a; warned = w } ∷ [])) ++ drop (length (l ++ (record { kind = 0; bytes = a; warned = w } ∷ []))) rows
  total-tabled p a w h b q r f = go p.kind h f
    where
      go : (k : Kind) → totals k ≡ true → length l + finishes k ≤ length rows → tabled s.giving k p.count (length (cond (named k) p.bytes [])) p.warned s.rows
          ≡ rows_given 0 (l ++ (record { kind = 0; bytes = a; warned = w } ∷ [])) ++ drop (length (l ++ (record { kind = 0; bytes = a; warned = w } ∷ []))) rows
      go Total h f = rows-added rows s.rows l s.giving.rows _ (record { kind = 0; bytes = a; warned = w }) table count (omega arith) (total-row s.giving l a w b q r)
      go Mark h f = no h
      go Middle h f = no h
      go Start h f = no h
      go Last h f = no h
      go Entire h f = no h
      go Skip h f = no h
      go Unknown h f = no h

  tabled-rows : (limit at : ℕ) (st : Position) (p : Entry) → allowed st p.kind ≡ true → counts limit at st p ≡ true
      → s.giving.bytes ≡ length (bytes_given l ++ parts_in st) → Opened st s.giving → length l + finishes p.kind ≤ length rows
      → tabled s.giving p.kind p.count (length (part p)) p.warned s.rows ≡ rows_given 0 (l ++ gives st p) ++ drop (length (l ++ gives st p)) rows
  tabled-rows limit at idle p a c b o f = go p.kind a c f
    where
      place : s.giving.bytes ≡ length (bytes_given l)
      place = b ∙ ap length (append-nil (bytes_given l))

      go : (k : Kind) → begins k ≡ true → count_fits limit at 0 p.count k ≡ true → length l + finishes k ≤ length rows
          → tabled s.giving k p.count (length (cond (named k) p.bytes [])) p.warned s.rows ≡ rows_given 0 (l ++ idle_gives p k) ++ drop (length (l ++ idle_gives p k)) rows
      go Total a c f = no a
      go Mark a c f = rows-added rows s.rows l s.giving.rows _ (record { kind = p.count + 1; bytes = []; warned = p.warned }) table count (omega arith)
          (λ i. record { kind = mark-kind p.count c i; place = place i; length = 0; warned = p.warned })
      go Middle a c f = no a
      go Start a c f = rows_same rows s.rows l table
      go Last a c f = no a
      go Entire a c f = rows-added rows s.rows l s.giving.rows _ (record { kind = 0; bytes = p.bytes; warned = p.warned }) table count (omega arith)
          (λ i. record { kind = 0; place = place i; length = length p.bytes; warned = p.warned })
      go Skip a c f = no a
      go Unknown a c f = no a
  tabled-rows limit at (begun x w) p a c b o f = no a
  tabled-rows limit at (inside x w) p a c b o f = go p.kind a
    where
      go : (k : Kind) → continues k ≡ true → tabled s.giving k p.count (length (cond (named k) p.bytes [])) p.warned s.rows ≡ rows_given 0 (l ++ []) ++ drop (length (l ++ [])) rows
      go Total a = no a
      go Mark a = no a
      go Middle a = rows_same rows s.rows l table
      go Start a = no a
      go Last a = rows_same rows s.rows l table
      go Entire a = no a
      go Skip a = no a
      go Unknown a = no a
  tabled-rows limit at (owing x w) p a c b o f = total-tabled p x w a b o.0 o.1 f
  tabled-rows limit at (owed x w) p a c b o f = total-tabled p x w a b o.0 o.1 f

-- an entry before the group's last
module _ (out : List ℕ) (rows : List Row) (limit at : ℕ) (b : Between) (s : Shelf) (p : Entry) (a : allowed b.position p.kind ≡ true) (c : counts limit at b.position p ≡ true)
    (h : Holds out rows b s) (l : length (given b) + length (part p) ≤ length out) (m : length b.items + finishes p.kind ≤ length rows) where
  pub step-holds : Holds out rows (stepped b p) (laid s p)
  step-holds = record {
    output = output-added out s.output (given b) (part p) s.giving.bytes h.output h.bytes l ∙ ap (λ (x : List ℕ). x ++ drop (length x) out) (sym (given-added b p a));
    table = tabled-rows rows b.items s h.table h.count limit at b.position p a c h.bytes h.open' m;
    bytes = omega (arith, turned-bytes s.giving p.kind (length (part p)) p.warned, h.bytes, size-added b p a);
    count = omega (arith, turned_rows s.giving p.kind (length (part p)) p.warned, h.count, count-added b p a);
    open' = turned-open b.position p s.giving a h.open';
    below = turned-below s.giving p.kind (length (part p)) p.warned h.below;
  }

  pub step_fits : FitsOne s p
  step_fits = record {
    bytes = omega (arith, h.bytes, output-long out rows b s h (omega arith));
    rows = omega (arith, h.count, table-long out rows b s h (omega arith));
    open' = h.below;
  }

-- ---- the group's last entry

only-skip : (st : State) (k : Kind) → ends st k ≡ true → skips k ≡ true
only-skip Idle k h = h
only-skip (Begun n w) k h = h
only-skip (Inside n w) k h = no h
only-skip (Owing n w) k h = h
only-skip (Owed n w) k h = no h

pub record Nothing (s : Shelf) (p : Entry) : Type 0 where
  pub part' : length (part p) ≡ 0
  pub none : finishes p.kind ≡ 0
  pub same : laid s p ≡ s

skip-nothing : (s : Shelf) (p : Entry) → skips p.kind ≡ true → Nothing s p
skip-nothing s p h = record { part' = (all p.kind h).0; none = (all p.kind h).1; same = (all p.kind h).2 }
  where
    laid_by : Kind → Shelf
    laid_by k = shelf (turned s.giving k (length (cond (named k) p.bytes [])) p.warned) (replaced s.output s.giving.bytes (cond (named k) p.bytes []))
        (tabled s.giving k p.count (length (cond (named k) p.bytes [])) p.warned s.rows)

    fact : Kind → Type 0
    fact k = (length (cond (named k) p.bytes []) ≡ 0) × (finishes k ≡ 0) × (laid_by k ≡ s)

    all : (k : Kind) → skips k ≡ true → fact k
    all Total h = no h
    all Mark h = no h
    all Middle h = no h
    all Start h = no h
    all Last h = no h
    all Entire h = no h
    all Skip h = (
      refl,
      refl,
      ap₂ (λ (n : ℕ) (o : List ℕ). shelf (record { bytes = n; rows = s.giving.rows; length = s.giving.length; warned = s.giving.warned }) o s.rows)
          (add-zero s.giving.bytes) (replaced-none s.output s.giving.bytes),
    )
    all Unknown h = no h

holds-skipped : (out : List ℕ) (rows : List Row) (st : Position) (l : List Item) (s : Shelf) → Holds out rows (record { position = st; items = l }) s
    → Holds out rows (record { position = skipped st; items = l }) s
holds-skipped out rows idle l s h = h
holds-skipped out rows (begun a w) l s h = record { output = h.output; table = h.table; bytes = h.bytes; count = h.count; open' = h.open'; below = h.below }
holds-skipped out rows (inside a w) l s h = h
holds-skipped out rows (owing a w) l s h = record { output = h.output; table = h.table; bytes = h.bytes; count = h.count; open' = h.open'; below = h.below }
holds-skipped out rows (owed a w) l s h = h

parts-skipped : (st : Position) → parts_in (skipped st) ≡ parts_in st
parts-skipped idle = refl
parts-skipped (begun a w) = refl
parts-skipped (inside a w) = refl
parts-skipped (owing a w) = refl
parts-skipped (owed a w) = refl

-- ---- all entries of a group

passed : {A : Type 0} (b : Bool) (r : Result A IndexFault) (e : IndexFault) (v : A) → cond b r (Err e) ≡ Ok v → (b ≡ true) × (r ≡ Ok v)
passed true r e v h = (refl, h)
passed {A} false r e v h = (let z : ◌≡◌ {A = ℕ} 0 1 = cc in absurd (omega arith), let z : ◌≡◌ {A = ℕ} 0 1 = cc in absurd (omega arith))

ok_same : {A : Type 0} (a b : A) → ◌≡◌ {A = Result A IndexFault} (Ok a) (Ok b) → a ≡ b
ok_same a b e = cc

abbrev pub between : Walk → Between
between w = record { position = w.position; items = w.items }

-- how much entries add
pub record Added (b c : Between) (ps : List Entry) : Type 0 where
  pub bytes : length (given c) ≡ length (given b) + size_in ps
  pub rows : length c.items ≡ length b.items + finished_in ps

-- what holds after entries, where there is room for them
abbrev pub Goes : Between → Between → List Entry → Type 0
Goes b c ps = (out : List ℕ) (rows : List Row) (s : Shelf) → Holds out rows b s → length (given b) + size_in ps ≤ length out → length b.items + finished_in ps ≤ length rows
    → Fits s ps × Holds out rows c (laid_all s ps)

step-goes : (limit i : ℕ) (w u v : Walk) (p : Entry) (ps : List Entry) → step limit i w p ≡ Ok u
    → Added (between u) (between v) ps × Goes (between u) (between v) ps → Added (between w) (between v) (p ∷ ps) × Goes (between w) (between v) (p ∷ ps)
unfolding size_in finished_in Fits laid_all
step-goes limit i w u v p ps h t =
    let a = passed (known p.kind) _ _ u h in
    let b = passed (allowed w.position p.kind) _ _ u a.1 in
    let c = passed (counts limit w.used w.position p) (Ok x) _ u b.1 in
    subst (λ (y : Walk). Added (between y) (between v) ps × Goes (between y) (between v) ps → Added (between w) (between v) (p ∷ ps) × Goes (between w) (between v) (p ∷ ps))
    (ok_same x u c.1) (λ t. (
      record {
        bytes = omega (arith, t.0.bytes, size-added (between w) p b.0);
        rows = omega (arith, t.0.rows, count-added (between w) p b.0);
      },
      λ out rows s k l m.
          let r = t.1 out rows (laid s p) (step-holds out rows limit w.used (between w) s p b.0 c.0 k (omega arith) (omega arith))
          (omega (arith, size-added (between w) p b.0)) (omega (arith, count-added (between w) p b.0)) in
          ((step_fits out rows limit w.used (between w) s p b.0 c.0 k (omega arith) (omega arith), r.0), r.1),
    )) t
  where
    x : Walk
    x = record { position = after w.position p; used = w.used + length p.bytes; items = w.items ++ gives w.position p }

close-goes : (limit i : ℕ) (w v : Walk) (p : Entry) (ps : List Entry) → none ps ≡ true → close limit i w p ≡ Ok v → Added (between w) (between v) (p ∷ ps) × Goes (between w) (between v) (p ∷ ps)
unfolding size_in finished_in Fits laid_all
close-goes limit i w v p (q ∷ ps) n h = no n
close-goes limit i w v p [] n h =
    let a = passed (known p.kind) _ _ v h in
    let b = passed (closes w.position p.kind) _ _ v a.1 in
    let c = passed (counts limit w.used w.position p) (Ok x) _ v b.1 in
    let k = only-skip (state_of w.position) p.kind b.0 in
    subst (λ (y : Walk). Added (between w) (between y) (p ∷ []) × Goes (between w) (between y) (p ∷ [])) (ok_same x v c.1) (
      record {
        bytes = let z = (skip-nothing some p k).part' in omega (arith, ap length (ap (λ (y : List ℕ). bytes_given w.items ++ y) (parts-skipped w.position)));
        rows = let z = (skip-nothing some p k).none in omega arith;
      },
      λ out rows s f l m.
          let z = skip-nothing s p k in (
            (
              record {
                bytes = omega (arith, f.bytes, z.part', output-long out rows (between w) s f (omega arith));
                rows = omega (arith, f.count, z.none, table-long out rows (between w) s f (omega arith));
                open' = f.below;
              },
              tt,
            ),
            subst (Holds out rows (between x)) (sym z.same) (holds-skipped out rows w.position w.items s f),
          ),
    )
  where
    x : Walk
    x = record { position = skipped w.position; used = w.used; items = w.items }

    some : Shelf
    some = shelf (record { bytes = 0; rows = 0; length = 0; warned = 0 }) [] []

pub whole-goes : (ps : List Entry) (limit i : ℕ) (w v : Walk) → whole limit i w ps ≡ Ok v → Added (between w) (between v) ps × Goes (between w) (between v) ps
unfolding whole
whole-goes [] limit i w v h = absurd (let z : ◌≡◌ {A = ℕ} 0 1 = cc in omega arith)
whole-goes (p ∷ ps) limit i w v h = go (none ps) refl h (λ u f. whole-goes ps limit (suc i) u v f)
  where
    on : (r : Result Walk IndexFault) → step limit i w p ≡ r → next r (λ u. whole limit (suc i) u ps) ≡ Ok v
        → ((u : Walk) → whole limit (suc i) u ps ≡ Ok v → Added (between u) (between v) ps × Goes (between u) (between v) ps)
        → Added (between w) (between v) (p ∷ ps) × Goes (between w) (between v) (p ∷ ps)
    on (Ok u) e f ih = step-goes limit i w u v p ps e (ih u f)
    on (Err x) e f ih = absurd (let z : ◌≡◌ {A = ℕ} 0 1 = cc in omega arith)

    go : (b : Bool) → none ps ≡ b → cond b (close limit i w p) (next (step limit i w p) (λ u. whole limit (suc i) u ps)) ≡ Ok v
        → ((u : Walk) → whole limit (suc i) u ps ≡ Ok v → Added (between u) (between v) ps × Goes (between u) (between v) ps)
        → Added (between w) (between v) (p ∷ ps) × Goes (between w) (between v) (p ∷ ps)
    go true n f ih = close-goes limit i w v p ps n f
    go false n f ih = on (step limit i w p) refl f ih

-- ---- a group

unless-open : (b : Bool) (c d : Between) → ◌≡◌ {A = Result Between IndexFault} (cond b (Err OpenRecord) (Ok c)) (Ok d) → c ≡ d
unless-open true c d h = absurd (let z : ◌≡◌ {A = ℕ} 0 1 = cc in omega arith)
unless-open false c d h = ok_same c d h

pub group-goes : (n : ℕ) (b c : Between) (g : Group) → walk_group n b g ≡ Ok c → Added b c g.entries × Goes b c g.entries × (length g.entries ≤ 31650)
unfolding walk_group
group-goes n b c g h =
    let p = passed (eqb g.number n) _ GroupNumber c h in
    let q = passed (ltb 0 (length g.entries) && leb (length g.entries) 31650) _ EntryCount c p.1 in
    let r = passed (ltb g.final 2) _ LastByte c q.1 in
    let s = passed g.padded _ TableZeros c r.1 in
    let t = on (whole (126600 - 4 * length g.entries) 1 (opening b) g.entries) refl s.1 in
    (t.0, t.1, leb-true (length g.entries) 31650 (and_parts _ _ q.0).1)
  where
    sum : (w : Walk) → summed g w ≡ Ok c → between w ≡ c
    sum w f = unless-open (left_open g.final (state_of w.position)) (between w) c
        (passed (eqb g.items (length w.items) && (eqb g.ones (of_kind 1 w.items) && eqb g.twos (of_kind 2 w.items))) _ Totals c f).1

    on : (r : Result Walk IndexFault) → whole (126600 - 4 * length g.entries) 1 (opening b) g.entries ≡ r → next r (λ w. summed g w) ≡ Ok c → Added b c g.entries × Goes b c g.entries
    on (Ok w) e f = subst (λ (x : Between). Added b x g.entries × Goes b x g.entries) (sum w f) (whole-goes g.entries _ 1 (opening b) w e)
    on (Err x) e f = absurd (let z : ◌≡◌ {A = ℕ} 0 1 = cc in omega arith)
