-- An entry laid into an open group, and a group completed.
use Rattle.std.proofs.Common.{◌≡◌, ℕ, zero, suc, ◌+◌, ◌-◌, ◌*◌, ◌<◌, ◌≤◌, Bool, true, false, cond, eqb, ltb, leb, Ok, Err, List, [], ◌∷◌, ◌++◌, length, sym, refl, ap, ◌∙◌, ap₂, arith, length-append}
use Rattle.std.proofs.lemmas.List.{append-nil, append_assoc}
use Rattle.std.proofs.lemmas.Bool.{eqb-true, ltb-true, leb-true}
use Rattle.index.specs.declared.table.Table.{Table}
use Rattle.index.specs.declared.tally.Counts.{Counts}
use Rattle.index.specs.declared.writer.Fill.{Fill}
use Rattle.index.specs.declared.fault.LayFault.TheVariants.{GroupLength, Warning, NoRoom}
use Rattle.index.specs.Entries.{Entry, Group, used}
use Rattle.index.specs.Bytes.{zeros, entry_bytes, index_bytes, user_bytes, table_bytes, group_of}
use Rattle.index.specs.Writing.{replaced, open_group, Filled, laying, entry_place, entry_laid, table_of, skip_of, completed, group_with, OpensEmpty}
use Rattle.index.proofs.Walks.{used-snoc, length-snoc}
use Rattle.index.proofs.Reread.{length-bytes, length-entries, length-zeros}
use Rattle.index.proofs.Replacing.{replaced-middle}

zeros-more : (m n : ℕ) → zeros (m + n) ≡ zeros m ++ zeros n
unfolding zeros
zeros-more zero n = ap (λ (k : ℕ). zeros k) (omega arith)
zeros-more (suc m) n = ap (λ (k : ℕ). zeros k) suc-out ∙ ap (λ (l : List ℕ). 0 ∷ l) (zeros-more m n)
  where
    suc-out : suc m + n ≡ suc (m + n)
    suc-out = omega arith

user-snoc : (ps : List Entry) (p : Entry) → user_bytes (ps ++ (p ∷ [])) ≡ user_bytes ps ++ p.bytes
unfolding user_bytes
user-snoc [] p = append-nil p.bytes
user-snoc (q ∷ ps) p = ap (λ (l : List ℕ). q.bytes ++ l) (user-snoc ps p) ∙ sym (append_assoc q.bytes (user_bytes ps) p.bytes)

index-snoc : (ps : List Entry) (p : Entry) → index_bytes (ps ++ (p ∷ [])) ≡ entry_bytes p ++ index_bytes ps
unfolding index_bytes
index-snoc [] p = refl
index-snoc (q ∷ ps) p = ap (λ (l : List ℕ). l ++ entry_bytes q) (index-snoc ps p) ∙ append_assoc (entry_bytes p) (index_bytes ps) (entry_bytes q)

-- user bytes, then bytes in the place of zeros, zeros, an entry in the place of zeros, the earlier entries, the table
laid-lists : (us bs is es ts : List ℕ) (m r u at : ℕ) → m ≡ length bs + (r + 4) → u ≡ length us → at ≡ length us + (length bs + r) → length es ≡ 4
    → replaced (replaced (us ++ (zeros m ++ (is ++ ts))) u bs) at es ≡ (us ++ bs) ++ (zeros r ++ ((es ++ is) ++ ts))
laid-lists us bs is es ts m r u at e f h k =
    ap (λ (x : List ℕ). replaced (replaced (us ++ (x ++ (is ++ ts))) u bs) at es) split
    ∙ (ap (λ (x : List ℕ). replaced (replaced (us ++ x) u bs) at es) (append_assoc (zeros (length bs)) (zeros r ++ zeros 4) (is ++ ts))
    ∙ (ap (λ (x : List ℕ). replaced x at es) (replaced-middle us (zeros (length bs)) ((zeros r ++ zeros 4) ++ (is ++ ts)) bs u f (length-zeros (length bs)))
    ∙ (ap (λ (x : List ℕ). replaced x at es) regroup
    ∙ (replaced-middle (us ++ (bs ++ zeros r)) (zeros 4) (is ++ ts) es at place (length-zeros 4 ∙ sym k)
    ∙ simp append_assoc))))
  where
    split : zeros m ≡ zeros (length bs) ++ (zeros r ++ zeros 4)
    split = ap zeros e ∙ (zeros-more (length bs) (r + 4) ∙ ap (λ (x : List ℕ). zeros (length bs) ++ x) (zeros-more r 4))

    regroup : us ++ (bs ++ ((zeros r ++ zeros 4) ++ (is ++ ts))) ≡ (us ++ (bs ++ zeros r)) ++ (zeros 4 ++ (is ++ ts))
    regroup = simp append_assoc

    place : at ≡ length (us ++ (bs ++ zeros r))
    place = omega (arith, length-append us (bs ++ zeros r), length-append bs (zeros r), length-zeros r)

pub entry-laid : (g : List ℕ) (f : Fill) (ps : List Entry) (p : Entry) → Filled g f ps → f.used + length p.bytes + 4 * (f.entries + 1) ≤ 126600
    → entry_laid g f p ≡ open_group (ps ++ (p ∷ []))
unfolding open_group
entry-laid g f ps p h r =
    ap (λ (x : List ℕ). replaced (replaced x f.used p.bytes) (entry_place f) (entry_bytes p)) h.bytes
    ∙ (laid-lists (user_bytes ps) p.bytes (index_bytes ps) (entry_bytes p) (zeros 32) _ left f.used (entry_place f)
    (omega (arith, h.entries, h.used', us, un)) (omega (arith, length-bytes ps, h.used')) (omega (arith, length-bytes ps, h.entries, h.used', us, un)) refl
    ∙ ap₂ (λ (x y : List ℕ). x ++ (zeros left ++ (y ++ zeros 32))) (sym (user-snoc ps p)) (sym (index-snoc ps p)))
  where
    us : used (ps ++ (p ∷ [])) ≡ used ps + length p.bytes
    us = used-snoc ps p

    un : length (ps ++ (p ∷ [])) ≡ suc (length ps)
    un = length-snoc ps p

    left : ℕ
    left = 126600 - used (ps ++ (p ∷ [])) - 4 * length (ps ++ (p ∷ []))

-- room for an entry
pub has_room : (g : List ℕ) (f : Fill) (n w : ℕ) → Ok (tt {0}) ≡ laying g f n w → (length g ≡ 126632) × (w < 2) × (f.used + n + 4 * (f.entries + 1) ≤ 126600)
has_room g f n w e =
    let t = tests (eqb (length g) 126632) (ltb w 2) (leb (f.used + n + 4 * (f.entries + 1)) 126600) e in
    (eqb-true (length g) 126632 t.0, ltb-true w 2 t.1, leb-true _ 126600 t.2)
  where
    tests : (a b c : Bool) → Ok (tt {0}) ≡ cond a (cond b (cond c (Ok (tt {0})) (Err NoRoom)) (Err Warning)) (Err GroupLength) → (a ≡ true) × (b ≡ true) × (c ≡ true)
    tests true true true e = (refl, refl, refl)
    tests true true false e = absurd (let no : ◌≡◌ {A = ℕ} 0 1 = cc in omega arith)
    tests true false c e = absurd (let no : ◌≡◌ {A = ℕ} 0 1 = cc in omega arith)
    tests false b c e = absurd (let no : ◌≡◌ {A = ℕ} 0 1 = cc in omega arith)

-- a table in the place of an empty one
table-put : (ps : List Entry) (g : Group) → g.entries ≡ ps → used ps + 4 * length ps ≤ 126600 → length (table_bytes g) ≡ 32
    → replaced (open_group ps) 126600 (table_bytes g) ≡ group_of g
unfolding open_group group_of
table-put ps g e h k =
    ap (λ (x : List ℕ). replaced x 126600 (table_bytes g)) front
    ∙ (replaced-middle before (zeros 32) [] (table_bytes g) 126600 place (length-zeros 32 ∙ sym k)
    ∙ (behind ∙ ap (λ (x : List Entry). user_bytes x ++ (zeros (126600 - used x - 4 * length x) ++ (index_bytes x ++ table_bytes g))) (sym e)))
  where
    z : ℕ
    z = 126600 - used ps - 4 * length ps

    before : List ℕ
    before = user_bytes ps ++ (zeros z ++ index_bytes ps)

    front : user_bytes ps ++ (zeros z ++ (index_bytes ps ++ zeros 32)) ≡ before ++ (zeros 32 ++ [])
    front = simp (append_assoc, append-nil)

    behind : before ++ (table_bytes g ++ []) ≡ user_bytes ps ++ (zeros z ++ (index_bytes ps ++ table_bytes g))
    behind = simp (append_assoc, append-nil)

    place : 126600 ≡ length before
    place = omega (arith, length-append (user_bytes ps) (zeros z ++ index_bytes ps), length-append (zeros z) (index_bytes ps), length-bytes ps, length-zeros z, length-entries ps)

-- a group completed
pub group-completed : (g : List ℕ) (f : Fill) (ps : List Entry) (w n : ℕ) (c : Counts) (last : ℕ) → Filled g f ps → f.used + 0 + 4 * (f.entries + 1) ≤ 126600
    → completed g f w n c last ≡ group_of (group_with ps w n c last)
group-completed g f ps w n c last h r =
    ap (λ (u : ℕ). replaced (entry_laid g f (skip_of w u)) 126600 (table_of table)) h.used'
    ∙ (ap (λ (x : List ℕ). replaced x 126600 (table_of table)) (entry-laid g f ps (skip_of w (used ps)) h r)
    ∙ (ap (λ (k : ℕ). replaced (open_group all) 126600 (table_of (record { number = n; entries = k; counts = c; last = last; zeros = true }))) entries
    ∙ table-put all (group_with ps w n c last) refl (omega (arith, used-snoc ps (skip_of w (used ps)), length-snoc ps (skip_of w (used ps)), h.entries, h.used')) table-long))
  where
    table : Table
    table = record { number = n; entries = f.entries + 1; counts = c; last = last; zeros = true }

    all : List Entry
    all = ps ++ (skip_of w (used ps) ∷ [])

    entries : f.entries + 1 ≡ length all
    entries = omega (arith, h.entries, length-snoc ps (skip_of w (used ps)))

    table-long : length (table_bytes (group_with ps w n c last)) ≡ 32
    table-long = omega (arith, length-zeros 15)

pub opens-empty : OpensEmpty
unfolding open_group user_bytes index_bytes used
opens-empty = sym (zeros-more 126600 32)
