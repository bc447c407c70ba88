-- A walk never takes back what it has given.
use Rattle.std.proofs.Common.{◌≡◌, ℕ, suc, ◌+◌, ◌-◌, ◌*◌, ◌≤◌, Bool, true, false, cond, ◌&&◌, eqb, ltb, leb, List, [], ◌∷◌, ◌++◌, length, Ok, Err, Result, sym, refl, ap, ◌∙◌, subst, arith, length-append}
use Rattle.std.proofs.lemmas.List.{append_assoc}
use Rattle.index.specs.declared.kind.Kind.{Kind}
use Rattle.index.specs.declared.kind.Kind.TheVariants.{Total, Mark, Middle, Start, Last, Entire, Skip, Unknown}
use Rattle.index.specs.declared.fault.IndexFault.{IndexFault}
use Rattle.index.specs.declared.fault.IndexFault.TheVariants.{GroupNumber, EntryCount, LastByte, TableZeros, Totals, OpenRecord}
use Rattle.index.specs.Entries.{Entry, Item, Group}
use Rattle.index.specs.Succession.{known, continues}
use Rattle.index.specs.Walk.{Position, Position.idle, Position.begun, Position.inside, Position.owing, Position.owed, Walk, Between, state_of, allowed, closes, skipped, counts, from_inside, after, gives, next, step, close, whole, none, of_kind, opening, left_open, summed, walk_group, walk_groups}
use Rattle.playing.specs.Play.{parts_in, bytes_given, given}

bytes-append : (l m : List Item) → bytes_given (l ++ m) ≡ bytes_given l ++ bytes_given m
unfolding bytes_given
bytes-append [] m = refl
bytes-append (i ∷ l) m = ap (λ (x : List ℕ). i.bytes ++ x) (bytes-append l m) ∙ sym (append_assoc i.bytes (bytes_given l) (bytes_given m))

-- more is given
pub record More (b c : Between) : Type 0 where
  pub rows : length b.items ≤ length c.items
  pub bytes : length (given b) ≤ length (given c)

pub more_same : (b : Between) → More b b
more_same b = record { rows = omega arith; bytes = omega arith }

pub more-then : (b c d : Between) → More b c → More c d → More b d
more-then b c d p q = record { rows = omega arith; bytes = omega arith }

abbrev between : Walk → Between
between w = record { position = w.position; items = w.items }

-- a test that was passed
passed : {A : Type 0} (b : Bool) (r : Result A IndexFault) (e : IndexFault) (v : A) → cond b r (Err e) ≡ Ok v → (b ≡ true) × (r ≡ Ok v)
passed true r e v h = (refl, h)
passed {A} false r e v h = (let z : ◌≡◌ {A = ℕ} 0 1 = cc in absurd (omega arith), let z : ◌≡◌ {A = ℕ} 0 1 = cc in absurd (omega arith))

-- an allowed entry keeps a record's bytes
parts-kept : (st : Position) (p : Entry) → allowed st p.kind ≡ true → length (parts_in st) ≤ length (bytes_given (gives st p)) + length (parts_in (after st p))
unfolding bytes_given
parts-kept idle p h = omega arith
parts-kept (begun a w) p h = let z : ◌≡◌ {A = ℕ} 0 1 = cc in absurd (omega arith)
parts-kept (inside a w) p h = go p.kind h
  where
    go : (k : Kind) → continues k ≡ true → length a ≤ 0 + length (parts_in (from_inside (a ++ p.bytes) w k))
    go Total h = let z : ◌≡◌ {A = ℕ} 0 1 = cc in absurd (omega arith)
    go Mark h = let z : ◌≡◌ {A = ℕ} 0 1 = cc in absurd (omega arith)
    go Middle h = omega (arith, length-append a p.bytes)
    go Start h = let z : ◌≡◌ {A = ℕ} 0 1 = cc in absurd (omega arith)
    go Last h = omega (arith, length-append a p.bytes)
    go Entire h = let z : ◌≡◌ {A = ℕ} 0 1 = cc in absurd (omega arith)
    go Skip h = let z : ◌≡◌ {A = ℕ} 0 1 = cc in absurd (omega arith)
    go Unknown h = let z : ◌≡◌ {A = ℕ} 0 1 = cc in absurd (omega arith)
parts-kept (owing a w) p h = omega (arith, length-append a [])
parts-kept (owed a w) p h = omega (arith, length-append a [])

parts-skipped : (st : Position) → parts_in (skipped st) ≡ parts_in st
parts-skipped idle = refl
parts-skipped (begun a w) = refl
parts-skipped (inside a w) = refl
parts-skipped (owing a w) = refl
parts-skipped (owed a w) = refl

ok_same : {A : Type 0} (a b : A) → ◌≡◌ {A = Result A IndexFault} (Ok a) (Ok b) → a ≡ b
ok_same a b e = cc

step-more : (limit i : ℕ) (w v : Walk) (p : Entry) → step limit i w p ≡ Ok v → More (between w) (between v)
step-more limit i w v p h =
    let a = passed (known p.kind) _ _ v h in
    let b = passed (allowed w.position p.kind) _ _ v a.1 in
    let c = passed (counts limit w.used w.position p) (Ok u) _ v b.1 in
    let m : More (between w) (between u) = record {
      rows = omega (arith, length-append w.items (gives w.position p));
      bytes = omega (
        arith,
        ap length (bytes-append w.items (gives w.position p)),
        length-append (bytes_given w.items) (bytes_given (gives w.position p)),
        length-append (bytes_given w.items) (parts_in w.position),
        length-append (bytes_given (w.items ++ gives w.position p)) (parts_in (after w.position p)),
        parts-kept w.position p b.0,
      );
    } in
    subst (λ (x : Walk). More (between w) (between x)) (ok_same u v c.1) m
  where
    u : Walk
    u = record { position = after w.position p; used = w.used + length p.bytes; items = w.items ++ gives w.position p }

close_more : (limit i : ℕ) (w v : Walk) (p : Entry) → close limit i w p ≡ Ok v → More (between w) (between v)
close_more limit i w v p h =
    let a = passed (known p.kind) _ _ v h in
    let b = passed (closes w.position p.kind) _ _ v a.1 in
    let c = passed (counts limit w.used w.position p) (Ok u) _ v b.1 in
    let m : More (between w) (between u) = record {
      rows = omega arith;
      bytes = omega (arith, ap length (ap (λ (x : List ℕ). bytes_given w.items ++ x) (parts-skipped w.position)));
    } in
    subst (λ (x : Walk). More (between w) (between x)) (ok_same u v c.1) m
  where
    u : Walk
    u = record { position = skipped w.position; used = w.used; items = w.items }

whole-more : (ps : List Entry) (limit i : ℕ) (w v : Walk) → whole limit i w ps ≡ Ok v → More (between w) (between v)
unfolding whole
whole-more [] limit i w v h = let z : ◌≡◌ {A = ℕ} 0 1 = cc in absurd (omega arith)
whole-more (p ∷ ps) limit i w v h = go (none ps) h (λ u f. whole-more ps limit (suc i) u v f)
  where
    on : (r : Result Walk IndexFault) → step limit i w p ≡ r → next r (λ u. whole limit (suc i) u ps) ≡ Ok v → ((u : Walk) → whole limit (suc i) u ps ≡ Ok v → More (between u) (between v)) → More (between w) (between v)
    on (Ok u) e f ih = more-then (between w) (between u) (between v) (step-more limit i w u p e) (ih u f)
    on (Err x) e f ih = let z : ◌≡◌ {A = ℕ} 0 1 = cc in absurd (omega arith)

    go : (b : Bool) → cond b (close limit i w p) (next (step limit i w p) (λ u. whole limit (suc i) u ps)) ≡ Ok v → ((u : Walk) → whole limit (suc i) u ps ≡ Ok v → More (between u) (between v)) → More (between w) (between v)
    go true f ih = close_more limit i w v p f
    go false f ih = on (step limit i w p) refl f ih

-- the same with the test for a fault
unless-open : (b : Bool) (c d : Between) → ◌≡◌ {A = Result Between IndexFault} (cond b (Err OpenRecord) (Ok c)) (Ok d) → c ≡ d
unless-open true c d h = let z : ◌≡◌ {A = ℕ} 0 1 = cc in absurd (omega arith)
unless-open false c d h = ok_same c d h

group-more : (n : ℕ) (b c : Between) (g : Group) → walk_group n b g ≡ Ok c → More b c
unfolding walk_group
group-more n b c g h =
    let p = passed (eqb g.number n) _ GroupNumber c h in
    let q = passed (ltb 0 (length g.entries) && leb (length g.entries) 31650) _ EntryCount c p.1 in
    let r = passed (ltb g.final 2) _ LastByte c q.1 in
    let s = passed g.padded _ TableZeros c r.1 in
    on (whole (126600 - 4 * length g.entries) 1 (opening b) g.entries) refl s.1
  where
    sum : (w : Walk) → summed g w ≡ Ok c → between w ≡ c
    sum w f = unless-open (left_open g.final (state_of w.position)) (between w) c
        (passed (eqb g.items (length w.items) && (eqb g.ones (of_kind 1 w.items) && eqb g.twos (of_kind 2 w.items))) _ Totals c f).1

    on : (r : Result Walk IndexFault) → whole (126600 - 4 * length g.entries) 1 (opening b) g.entries ≡ r → next r (λ w. summed g w) ≡ Ok c → More b c
    on (Ok w) e f = subst (λ (x : Between). More b x) (sum w f) (whole-more g.entries _ 1 (opening b) w e)
    on (Err x) e f = let z : ◌≡◌ {A = ℕ} 0 1 = cc in absurd (omega arith)

pub groups-more : (gs : List Group) (n : ℕ) (b c : Between) → walk_groups n b gs ≡ Ok c → More b c
unfolding walk_groups
groups-more [] n b c h = let e : b ≡ c = cc in subst (λ (x : Between). More b x) e (more_same b)
groups-more (g ∷ gs) n b c h = on (walk_group n b g) refl h (λ u f. groups-more gs (suc n) u c f)
  where
    on : (r : Result Between IndexFault) → walk_group n b g ≡ r → next r (λ u. walk_groups (suc n) u gs) ≡ Ok c → ((u : Between) → walk_groups (suc n) u gs ≡ Ok c → More u c) → More b c
    on (Ok u) e f ih = more-then b u c (group-more n b u g e) (ih u f)
    on (Err x) e f ih = let z : ◌≡◌ {A = ℕ} 0 1 = cc in absurd (omega arith)
