-- A group laid into bytes is read again.
use Rattle.std.proofs.Common.{◌≡◌, ℕ, zero, suc, ◌+◌, ◌-◌, ◌*◌, ◌/◌, ◌%◌, ◌<◌, ◌≤◌, Bool, true, false, cond, ◌&&◌, eqb, List, [], ◌∷◌, ◌++◌, length, get_or, take, drop, sym, refl, ap, ◌∙◌, ap₂, arith, length-append}
use lib.ListN.{length-replicate}
use Rattle.std.specs.List.{AllByRecursion}
use Rattle.std.proofs.lemmas.List.{append_assoc, get_or-append-add}
use Rattle.index.specs.declared.kind.Kind.{Kind}
use Rattle.index.specs.declared.kind.Kind.TheVariants.{Total, Mark, Middle, Start, Last, Entire, Skip, Unknown}
use Rattle.index.specs.Entries.{Entry, Group, used}
use Rattle.index.specs.Bytes.{zeros, flag_of, kind_of, number, entry_bytes, index_bytes, user_bytes, table_bytes, group_of, named, read_entry, read_entries, empty, read_group, Small, Sound, Whole, Reread}

pub length-zeros : (n : ℕ) → length (zeros n) ≡ n
unfolding zeros
length-zeros n = length-replicate n 0

pub length-entries : (ps : List Entry) → length (index_bytes ps) ≡ 4 * length ps
unfolding index_bytes
length-entries [] = refl
length-entries (p ∷ ps) = let ih = length-entries ps in length-append (index_bytes ps) (entry_bytes p) ∙ omega arith

pub length-bytes : (ps : List Entry) → length (user_bytes ps) ≡ used ps
unfolding user_bytes used
length-bytes [] = refl
length-bytes (p ∷ ps) = length-append p.bytes (user_bytes ps) ∙ ap (λ (x : ℕ). length p.bytes + x) (length-bytes ps)

drop-append : (xs ys : List ℕ) → drop (length xs) (xs ++ ys) ≡ ys
drop-append [] ys = refl
drop-append (x ∷ xs) ys = drop-append xs ys

take-append : (xs ys : List ℕ) → take (length xs) (xs ++ ys) ≡ xs
take-append [] ys = refl
take-append (x ∷ xs) ys = ap (λ (l : List ℕ). x ∷ l) (take-append xs ys)

-- what stands at a place behind xs
at_place : (xs ys : List ℕ) (i j : ℕ) → i ≡ length xs + j → get_or (xs ++ ys) i 0 ≡ get_or ys j 0
at_place xs ys i j e = ap (λ (x : ℕ). get_or (xs ++ ys) x 0) e ∙ get_or-append-add xs ys j 0

-- a number behind xs
number_behind : (k : ℕ) (xs ys : List ℕ) (i j : ℕ) → i ≡ length xs + j → number k i (xs ++ ys) ≡ number k j ys
unfolding number
number_behind zero xs ys i j e = refl
number_behind (suc k) xs ys i j e = ap₂ (λ (x y : ℕ). x * 256 + y) (number_behind k xs ys i j e) (at_place xs ys (i + k) (j + k) (omega arith))

two_back : (n : ℕ) → n < 65536 → (0 + n / 256 % 256) * 256 + n % 256 ≡ n
two_back n h = omega arith

three_back : (n : ℕ) → n < 16777216 → ((0 + n / 256 / 256 % 256) * 256 + n / 256 % 256) * 256 + n % 256 ≡ n
three_back n h = let m : (0 + n / 256 / 256 % 256) * 256 + n / 256 % 256 ≡ n / 256 = two_back (n / 256) (omega arith) in omega arith

four-back : (n : ℕ) → n < 4294967296 → (((0 + n / 256 / 256 / 256 % 256) * 256 + n / 256 / 256 % 256) * 256 + n / 256 % 256) * 256 + n % 256 ≡ n
four-back n h = let m : ((0 + n / 256 / 256 / 256 % 256) * 256 + n / 256 / 256 % 256) * 256 + n / 256 % 256 ≡ n / 256 = three_back (n / 256) (omega arith) in omega arith

warned-back : (k : Kind) (w : ℕ) → w < 2 → (flag_of k + 8 * w) / 8 % 2 ≡ w
warned-back Total w h = omega arith
warned-back Mark w h = omega arith
warned-back Middle w h = omega arith
warned-back Start w h = omega arith
warned-back Last w h = omega arith
warned-back Entire w h = omega arith
warned-back Skip w h = omega arith
warned-back Unknown w h = omega arith

module _ (p : Entry) (h : Sound p) (ys : List ℕ) where
  -- the bytes of an entry
  count-back : number 3 1 (entry_bytes p ++ ys) ≡ p.count
  unfolding number
  count-back = three_back p.count h.count

  flag-back : (flag_of p.kind + 8 * p.warned) - 8 * p.warned ≡ flag_of p.kind
  flag-back = omega arith

part-back : (p : Entry) (h : Sound p) (zs : List ℕ) → cond (named p.kind) (take p.count (p.bytes ++ zs)) [] ≡ p.bytes
part-back p h zs = go (named p.kind) h.bytes h.length'
  where
    go : (b : Bool) → p.bytes ≡ cond b p.bytes [] → cond b p.count 0 ≡ length p.bytes → cond b (take p.count (p.bytes ++ zs)) [] ≡ p.bytes
    go true e l = ap (λ (n : ℕ). take n (p.bytes ++ zs)) l ∙ take-append p.bytes zs
    go false e l = sym e

-- an entry's four bytes at place e, its own bytes at place at
entry-back : (g : List ℕ) (p : Entry) (e at : ℕ) (zs : List ℕ) → Sound p → get_or g e 0 ≡ flag_of p.kind + 8 * p.warned → number 3 (e + 1) g ≡ p.count → drop at g ≡ p.bytes ++ zs
    → read_entry g e at ≡ p
entry-back g p e at zs h f n d = λ i. record {
  kind = (ap kind_of (ap₂ (λ (x y : ℕ). x - 8 * y) f w ∙ flag-back p h []) ∙ sym h.known) i;
  count = n i;
  warned = w i;
  bytes = bytes i;
}
  where
    w : get_or g e 0 / 8 % 2 ≡ p.warned
    w = ap (λ (x : ℕ). x / 8 % 2) f ∙ warned-back p.kind p.warned h.warned

    k : kind_of (get_or g e 0 - 8 * (get_or g e 0 / 8 % 2)) ≡ p.kind
    k = ap kind_of (ap₂ (λ (x y : ℕ). x - 8 * y) f w ∙ flag-back p h []) ∙ sym h.known

    bytes : cond (named (kind_of (get_or g e 0 - 8 * (get_or g e 0 / 8 % 2)))) (take (number 3 (e + 1) g) (drop at g)) [] ≡ p.bytes
    bytes = ap (λ (x : Kind). cond (named x) (take (number 3 (e + 1) g) (drop at g)) []) k
        ∙ (ap₂ (λ (x : ℕ) (y : List ℕ). cond (named p.kind) (take x y) []) n d ∙ part-back p h zs)

entries-back : (ps : List Entry) (g xs ys us vs : List ℕ) (i at : ℕ) → AllByRecursion Sound ps → g ≡ xs ++ (index_bytes ps ++ ys) → length xs + 4 * length ps ≡ i
    → g ≡ us ++ (user_bytes ps ++ vs) → at ≡ length us → read_entries g (length ps) i at ≡ ps
unfolding read_entries index_bytes user_bytes
entries-back [] g xs ys us vs i at s e n d a = refl
entries-back (p ∷ ps) g xs ys us vs i at s e n d a =
    ap₂ (λ (x : Entry) (y : List Entry). x ∷ y) r
    (ap (λ (x : Entry). read_entries g (length ps) (i - 4) (at + length x.bytes)) r
    ∙ entries-back ps g xs (entry_bytes p ++ ys) (us ++ p.bytes) vs (i - 4) (at + length p.bytes) s.1
    (e ∙ ap (λ (l : List ℕ). xs ++ l) (append_assoc (index_bytes ps) (entry_bytes p) ys))
    (omega arith)
    (d ∙ (ap (λ (l : List ℕ). us ++ l) (append_assoc p.bytes (user_bytes ps) vs) ∙ sym (append_assoc us p.bytes (user_bytes ps ++ vs))))
    (ap (λ (x : ℕ). x + length p.bytes) a ∙ sym (length-append us p.bytes)))
  where
    -- the entry's own bytes stand behind these
    front : List ℕ
    front = xs ++ index_bytes ps

    at_front : g ≡ front ++ (entry_bytes p ++ ys)
    at_front = e ∙ (ap (λ (l : List ℕ). xs ++ l) (append_assoc (index_bytes ps) (entry_bytes p) ys) ∙ sym (append_assoc xs (index_bytes ps) (entry_bytes p ++ ys)))

    place : i - 4 ≡ length front + 0
    place = omega (arith, length-append xs (index_bytes ps), length-entries ps)

    place₁ : i - 4 + 1 ≡ length front + 1
    place₁ = omega (arith, length-append xs (index_bytes ps), length-entries ps)

    r : read_entry g (i - 4) at ≡ p
    r = entry-back g p (i - 4) at (user_bytes ps ++ vs) s.0
        (ap (λ (l : List ℕ). get_or l (i - 4) 0) at_front ∙ at_place front (entry_bytes p ++ ys) (i - 4) 0 place)
        (ap (λ (l : List ℕ). number 3 (i - 4 + 1) l) at_front ∙ (number_behind 3 front (entry_bytes p ++ ys) (i - 4 + 1) 1 place₁ ∙ count-back p s.0 ys))
        (ap₂ (λ (x : ℕ) (l : List ℕ). drop x l) a d ∙ (drop-append us _ ∙ append_assoc p.bytes (user_bytes ps) vs))

empty-behind : (n : ℕ) (xs ys : List ℕ) (i j : ℕ) → i ≡ length xs + j → empty (xs ++ ys) i n ≡ empty ys j n
unfolding empty
empty-behind zero xs ys i j e = refl
empty-behind (suc n) xs ys i j e = ap₂ (λ (x : ℕ) (y : Bool). eqb x 0 && y) (at_place xs ys i j e) (empty-behind n xs ys (suc i) (suc j) (omega arith))

-- ---- bytes

low : (n : ℕ) → n % 256 < 256
low n = omega arith

small-append : (xs ys : List ℕ) → Small xs → Small ys → Small (xs ++ ys)
small-append [] ys p q = q
small-append (x ∷ xs) ys p q = (p.0, small-append xs ys p.1 q)

small-zeros : (n : ℕ) → Small (zeros n)
unfolding zeros
small-zeros zero = tt
small-zeros (suc n) = (omega arith, small-zeros n)

small_bytes : (ps : List Entry) → AllByRecursion Sound ps → Small (user_bytes ps)
unfolding user_bytes
small_bytes [] h = tt
small_bytes (p ∷ ps) h = small-append p.bytes (user_bytes ps) h.0.small (small_bytes ps h.1)

flag-few : (k : Kind) → flag_of k ≤ 128
flag-few Total = omega arith
flag-few Mark = omega arith
flag-few Middle = omega arith
flag-few Start = omega arith
flag-few Last = omega arith
flag-few Entire = omega arith
flag-few Skip = omega arith
flag-few Unknown = omega arith

small-entry : (p : Entry) → Sound p → Small (entry_bytes p)
small-entry p h = (omega (arith, flag-few p.kind, h.warned), (low (p.count / 256 / 256), (low (p.count / 256), (low p.count, tt))))

small-entries : (ps : List Entry) → AllByRecursion Sound ps → Small (index_bytes ps)
unfolding index_bytes
small-entries [] h = tt
small-entries (p ∷ ps) h = small-append (index_bytes ps) (entry_bytes p) (small-entries ps h.1) (small-entry p h.0)

module _ (g : Group) (h : Whole g) where
  gap : ℕ
  gap = 126600 - used g.entries - 4 * length g.entries

  -- what stands before the table
  front : List ℕ
  front = user_bytes g.entries ++ (zeros gap ++ index_bytes g.entries)

  length_front : length front ≡ 126600
  unfolding front gap
  length_front =
      length-append (user_bytes g.entries) (zeros gap ++ index_bytes g.entries)
      ∙ omega (arith, length-append (zeros gap) (index_bytes g.entries), length-bytes g.entries, length-zeros gap, length-entries g.entries, h.fits)

  at_table : group_of g ≡ front ++ table_bytes g
  unfolding group_of front gap
  at_table = sym (append_assoc (user_bytes g.entries) (zeros gap ++ index_bytes g.entries) (table_bytes g) ∙ ap (λ (l : List ℕ). user_bytes g.entries ++ l) (append_assoc (zeros gap) (index_bytes g.entries) (table_bytes g)))

  -- the bytes before the entries
  before : List ℕ
  before = user_bytes g.entries ++ zeros gap

  length_before : length before + 4 * length g.entries ≡ 126600
  unfolding before gap
  length_before = omega (arith, length-append (user_bytes g.entries) (zeros gap), length-bytes g.entries, length-zeros gap, h.fits)

  at-entries : group_of g ≡ before ++ (index_bytes g.entries ++ table_bytes g)
  unfolding group_of before gap
  at-entries = sym (append_assoc (user_bytes g.entries) (zeros gap) (index_bytes g.entries ++ table_bytes g))

  in_table : (k i j : ℕ) → i ≡ 126600 + j → number k i (group_of g) ≡ number k j (table_bytes g)
  in_table k i j e = ap (number k i) at_table ∙ number_behind k front (table_bytes g) i j (omega (arith, length_front))

  few : length g.entries < 65536
  few = omega (arith, h.fits)

  entry-number : number 2 126602 (group_of g) ≡ length g.entries
  unfolding number
  entry-number = in_table 2 126602 2 refl ∙ two_back (length g.entries) few

  all-entries : read_entries (group_of g) (number 2 126602 (group_of g)) 126600 0 ≡ g.entries
  unfolding group_of
  all-entries =
      ap (λ (n : ℕ). read_entries (group_of g) n 126600 0) entry-number
      ∙ entries-back g.entries (group_of g) before (table_bytes g) [] _ 126600 0 h.entries at-entries length_before refl refl

  group-back : read_group (group_of g) ≡ g
  unfolding read_group number empty zeros
  group-back = λ i. record {
    number = (in_table 2 126600 0 refl ∙ two_back g.number h.number) i;
    items = (in_table 4 126604 4 refl ∙ four-back g.items h.items) i;
    ones = (in_table 4 126608 8 refl ∙ four-back g.ones h.ones) i;
    twos = (in_table 4 126612 12 refl ∙ four-back g.twos h.twos) i;
    final = (ap (λ (l : List ℕ). get_or l 126616 0) at_table ∙ at_place front (table_bytes g) 126616 16 (omega (arith, length_front))) i;
    padded = (ap (λ (l : List ℕ). empty l 126617 15) at_table ∙ (empty-behind 15 front (table_bytes g) 126617 17 (omega (arith, length_front)) ∙ sym h.padded)) i;
    entries = all-entries i;
  }

  length-group : length (group_of g) ≡ 126632
  unfolding zeros
  length-group = ap length at_table ∙ (length-append front (table_bytes g) ∙ omega (arith, length_front))

  small-group : Small (group_of g)
  unfolding group_of zeros
  small-group =
      small-append (user_bytes g.entries) _ (small_bytes g.entries h.entries)
      (small-append (zeros gap') _ (small-zeros gap')
      (small-append (index_bytes g.entries) (table_bytes g) (small-entries g.entries h.entries)
      (low (g.number / 256), (low g.number, (low (length g.entries / 256), (low (length g.entries), (low (g.items / 256 / 256 / 256), (low (g.items / 256 / 256), (low (g.items / 256), (low g.items, (low (g.ones / 256 / 256 / 256), (low (g.ones / 256 / 256), (low (g.ones / 256), (low g.ones, (low (g.twos / 256 / 256 / 256), (low (g.twos / 256 / 256), (low (g.twos / 256), (low g.twos, (h.final, small-zeros 15)))))))))))))))))))
    where
      gap' : ℕ
      gap' = 126600 - used g.entries - 4 * length g.entries

pub reread : Reread
reread g h = (length-group g h, group-back g h, small-group g h)
