-- A recording with one record, or none, for any record of the length.
use Rattle.std.proofs.Common.{◌≡◌, ℕ, suc, ◌+◌, ◌-◌, ◌<◌, ◌≤◌, cond, ◌||◌, eqb, ltb, List, [], ◌∷◌, ◌++◌, length, take, drop, refl, ap, ◌∙◌, ap₂, arith, length-drop, length-take}
use mathlib.Core.List.{flat_map}
use Rattle.std.proofs.lemmas.Bool.{le-leb, lt-leb, cond-true, cond-false}
use Rattle.index.specs.declared.kind.Kind.TheVariants.{Total, Middle, Start, Last, Entire}
use Rattle.index.specs.Entries.{Group, used}
use Rattle.index.specs.Bytes.{zeros, three, index_bytes}
use Rattle.laying.specs.Lay.{Recording, free, entry, part, put, complete, lay_rest, lay_record, record_ends}
use Rattle.laying.specs.Calls.{Call.record', Running, made, closed, ran}
use Rattle.laying.proofs.Bounds.{new-free}
use Rattle.settled.specs.Examples.{groups_after, index_of, index_and_table, outline}

-- ---- the ways of a rest

rest-same : (f n : ℕ) (bs : List ℕ) (s : Recording) → length bs + 8 ≤ free s → lay_rest (suc f) n bs s ≡ put (entry s Total n []) (put (part s Last bs) s)
unfolding lay_rest
rest-same f n bs s h = cond-true _ _ _ (le-leb (length bs + 8) (free s) h)

rest-late : (f n : ℕ) (bs : List ℕ) (s : Recording) → free s < length bs + 8 → length bs + 4 ≤ free s → lay_rest (suc f) n bs s ≡ put (entry s Total n []) (complete (put (part s Last bs) s))
unfolding lay_rest
rest-late f n bs s h k = cond-false _ _ _ (lt-leb (length bs + 8) (free s) h) ∙ cond-true _ _ _ (le-leb (length bs + 4) (free s) k)

rest_more : (f n : ℕ) (bs : List ℕ) (s : Recording) → free s < length bs + 4 → lay_rest (suc f) n bs s ≡ lay_rest f n (drop (free s - 4) bs) (complete (put (part s Middle (take (free s - 4) bs)) s))
unfolding lay_rest
rest_more f n bs s h = cond-false _ _ _ (lt-leb (length bs + 8) (free s) (omega arith)) ∙ cond-false _ _ _ (lt-leb (length bs + 4) (free s) h)

-- ---- a record alone

abbrev new : Recording
new = made 65535

-- the number with which a record of n bytes is declined
abbrev declined_at : ℕ → ℕ
declined_at n = cond (eqb n 0 || ltb 16777215 n) 11 (cond (ltb 65535 (record_ends n new)) 12 0)

groups-alone : (n : ℕ) (bs : List ℕ) → length bs ≡ n → declined_at n ≡ 0 → groups_after (record' bs ∷ []) ≡ closed (lay_record bs new)
unfolding groups_after ran
groups-alone n bs e h = ap (λ (t : Running). closed t.state) (cond-true _ _ _ (ap (λ (k : ℕ). eqb k 0) (ap declined_at e ∙ h)))

-- the first group of a record in parts
abbrev first : List ℕ → Recording
first bs = complete (put (part new Start (take 126592 bs)) new)

alone-entire : (bs : List ℕ) → length bs + 4 ≤ 126596 → lay_record bs new ≡ put (part new Entire bs) new
unfolding used
alone-entire bs h = cond-true _ _ _ (le-leb (length bs + 4) 126596 h)

alone-parts : (n : ℕ) (bs : List ℕ) → length bs ≡ n → 126596 < n + 4 → lay_record bs new ≡ lay_rest n n (drop 126592 bs) (first bs)
unfolding used
alone-parts n bs e h =
    cond-false _ _ _ (lt-leb (length bs + 4) 126596 (omega arith))
    ∙ ap (λ (x : ℕ). lay_rest x x (drop 126592 bs) (first bs)) e

-- what a recording with one record of n bytes is as numbers
abbrev Alone : (List Group → List ℕ) → ℕ → List ℕ → Type 0
Alone f n ns = (bs : List ℕ) → length bs ≡ n → f (groups_after (record' bs ∷ [])) ≡ ns

pub no_items : index_of (groups_after []) ≡ 0x80 ∷ 0x01 ∷ 0xEE ∷ 0xA8 ∷ []
unfolding groups_after index_of flat_map ran used index_bytes
no_items = refl

pub five : Alone index_and_table 5 (0x80 ∷ 0x01 ∷ 0xEE ∷ 0xA3 ∷ 0x63 ∷ 0x00 ∷ 0x00 ∷ 0x05 ∷ 0x00 ∷ 0x01 ∷ 0x00 ∷ 0x02 ∷ 0x00 ∷ 0x00 ∷ 0x00 ∷ 0x01
    ∷ 0 ∷ 0 ∷ 0 ∷ 0 ∷ 0 ∷ 0 ∷ 0 ∷ 0 ∷ 0x01 ∷ 0 ∷ 0 ∷ 0 ∷ 0 ∷ 0 ∷ 0 ∷ 0 ∷ 0 ∷ 0 ∷ 0 ∷ 0 ∷ 0 ∷ 0 ∷ 0 ∷ 0 ∷ [])
unfolding index_and_table flat_map used index_bytes zeros
five bs e =
    ap index_and_table (groups-alone 5 bs e refl)
    ∙ (ap (λ (s : Recording). index_and_table (closed s)) (alone-entire bs (omega arith))
    ∙ ap (λ (n : ℕ). 0x80 ∷ (three (126632 - (n + 0)) ++ (0x63 ∷ (three n ++ (0 ∷ 1 ∷ 0 ∷ 2 ∷ 0 ∷ 0 ∷ 0 ∷ 1 ∷ 0 ∷ 0 ∷ 0 ∷ 0 ∷ 0 ∷ 0 ∷ 0 ∷ 0 ∷ 1 ∷ zeros 15))))) e)

pub entire-alone : Alone outline 126592 (1 ∷ 2 ∷ 0x63 ∷ 126592 ∷ 0x80 ∷ 40 ∷ [])
unfolding outline flat_map used
entire-alone bs e =
    ap outline (groups-alone 126592 bs e refl)
    ∙ (ap (λ (s : Recording). outline (closed s)) (alone-entire bs (omega arith))
    ∙ ap (λ (n : ℕ). 1 ∷ 2 ∷ 0x63 ∷ n ∷ 0x80 ∷ (126632 - (n + 0)) ∷ []) e)

-- the rest is a last part, and the total stands beside it
pub two-groups : (n m : ℕ) → n ≡ suc m → 126592 < n → n ≤ 253180 → declined_at n ≡ 0
    → Alone outline n (1 ∷ 2 ∷ 0x42 ∷ 126592 ∷ 0x80 ∷ 40 ∷ 2 ∷ 3 ∷ 0x60 ∷ (n - 126592) ∷ 0x01 ∷ n ∷ 0x80 ∷ (126632 - (n - 126592 + 0)) ∷ [])
unfolding outline flat_map used
two-groups n m s a b d bs e =
    ap outline (groups-alone n bs e d)
    ∙ (ap (λ (s : Recording). outline (closed s)) (alone-parts n bs e (omega arith)
    ∙ (ap (λ (x : ℕ). lay_rest x n (drop 126592 bs) (first bs)) s
    ∙ rest-same m n (drop 126592 bs) (first bs) (omega (arith, length-drop 126592 bs, new-free (put (part new Start (take 126592 bs)) new)))))
    ∙ ap₂ (λ (x y : ℕ). 1 ∷ 2 ∷ 0x42 ∷ x ∷ 0x80 ∷ (126632 - (x + 0)) ∷ 2 ∷ 3 ∷ 0x60 ∷ y ∷ 0x01 ∷ n ∷ 0x80 ∷ (126632 - (y + 0)) ∷ [])
    (length-take 126592 bs ∙ omega arith) (length-drop 126592 bs ∙ ap (λ (x : ℕ). x - 126592) e))

-- the total opens the third group
pub late-total : (n m : ℕ) → n ≡ suc m → 253180 < n → n ≤ 253184 → declined_at n ≡ 0
    → Alone outline n (1 ∷ 2 ∷ 0x42 ∷ 126592 ∷ 0x80 ∷ 40 ∷ 2 ∷ 2 ∷ 0x60 ∷ (n - 126592) ∷ 0x80 ∷ (126632 - (n - 126592 + 0)) ∷ 3 ∷ 2 ∷ 0x01 ∷ n ∷ 0x80 ∷ 126632 ∷ [])
unfolding outline flat_map used
late-total n m s a b d bs e =
    ap outline (groups-alone n bs e d)
    ∙ (ap (λ (s : Recording). outline (closed s)) (alone-parts n bs e (omega arith)
    ∙ (ap (λ (x : ℕ). lay_rest x n (drop 126592 bs) (first bs)) s
    ∙ rest-late m n (drop 126592 bs) (first bs) (omega (arith, length-drop 126592 bs, new-free o)) (omega (arith, length-drop 126592 bs, new-free o))))
    ∙ ap₂ (λ (x y : ℕ). 1 ∷ 2 ∷ 0x42 ∷ x ∷ 0x80 ∷ (126632 - (x + 0)) ∷ 2 ∷ 2 ∷ 0x60 ∷ y ∷ 0x80 ∷ (126632 - (y + 0)) ∷ 3 ∷ 2 ∷ 0x01 ∷ n ∷ 0x80 ∷ 126632 ∷ [])
    (length-take 126592 bs ∙ omega arith) (length-drop 126592 bs ∙ ap (λ (x : ℕ). x - 126592) e))
  where
    o : Recording
    o = put (part new Start (take 126592 bs)) new

-- a middle part
pub with-middle : (n m : ℕ) → n ≡ suc (suc m) → 253184 < n → n ≤ 379772 → declined_at n ≡ 0
    → Alone outline n (1 ∷ 2 ∷ 0x42 ∷ 126592 ∷ 0x80 ∷ 40 ∷ 2 ∷ 2 ∷ 0x40 ∷ 126592 ∷ 0x80 ∷ 40 ∷ 3 ∷ 3 ∷ 0x60 ∷ (n - 253184) ∷ 0x01 ∷ n ∷ 0x80 ∷ (126632 - (n - 253184 + 0)) ∷ [])
unfolding outline flat_map used
with-middle n m s a b d bs e =
    ap outline (groups-alone n bs e d)
    ∙ (ap (λ (s : Recording). outline (closed s)) (alone-parts n bs e (omega arith)
    ∙ (ap (λ (x : ℕ). lay_rest x n r (first bs)) s
    ∙ (rest_more (suc m) n r (first bs) (omega (arith, length-drop 126592 bs, new-free o))
    ∙ rest-same m n (drop 126592 r) (complete (put (part (first bs) Middle (take 126592 r)) (first bs)))
    (omega (arith, length-drop 126592 bs, length-drop 126592 r, new-free (put (part (first bs) Middle (take 126592 r)) (first bs)))))))
    ∙ (ap₂ (λ (x y : ℕ). numbers x y (length (drop 126592 r))) (length-take 126592 bs ∙ omega arith) (length-take 126592 r ∙ omega (arith, length-drop 126592 bs))
    ∙ ap (numbers 126592 126592) (length-drop 126592 r ∙ omega (arith, length-drop 126592 bs))))
  where
    o : Recording
    o = put (part new Start (take 126592 bs)) new

    r : List ℕ
    r = drop 126592 bs

    numbers : ℕ → ℕ → ℕ → List ℕ
    numbers x y z =
        1 ∷ 2 ∷ 0x42 ∷ x ∷ 0x80 ∷ (126632 - (x + 0)) ∷ 2 ∷ 2 ∷ 0x40 ∷ y ∷ 0x80 ∷ (126632 - (y + 0)) ∷ 3 ∷ 3 ∷ 0x60 ∷ z ∷ 0x01 ∷ n ∷ 0x80 ∷ (126632 - (z + 0)) ∷ []
