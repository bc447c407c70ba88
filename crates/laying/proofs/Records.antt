-- Marks and records, laid and walked.
use Rattle.std.proofs.Common.{◌≡◌, ℕ, zero, suc, ◌+◌, ◌-◌, ◌*◌, ◌/◌, ◌<◌, ◌≤◌, Bool, true, false, cond, eqb, leb, List, [], ◌∷◌, ◌++◌, length, take, drop, sym, refl, ap, ◌∙◌, subst, ap₂, subst₂, add-zero, arith, length-drop, length-take}
use Rattle.std.proofs.lemmas.List.{append-nil, append_assoc, take-append-drop}
use Rattle.std.proofs.lemmas.Bool.{eq-eqb, lt-ltb, le-leb, cond-true, cond-false, and_from, leb-true, leb-false, cond_both}
use Rattle.index.specs.declared.kind.Kind.{Kind}
use Rattle.index.specs.declared.kind.Kind.TheVariants.{Total, Mark, Middle, Start, Last, Entire}
use Rattle.index.specs.Entries.{Entry, Item, used, finishes}
use Rattle.index.specs.Walk.{Position, Position.idle, Position.begun, Position.inside, Position.owing, Position.owed, after, gives, of_kind}
use Rattle.laying.specs.Lay.{Recording, current, free, entry, part, put, stored, complete, room, lay_mark, Finishes, lay_rest, lay_parts, lay_begun, lay_record, rest_ends, begun_ends, record_ends, mark_ends}
use Rattle.index.proofs.Walks.{used-snoc, length-snoc, of_kind-snoc}
use Rattle.index.specs.Bytes.{Sound, Small, named, kind_of, flag_of}
use Rattle.laying.proofs.Lays.{Fits}
use Rattle.laying.proofs.Laid.{Laid, Laid.putting, Laid.completing, laid-fits, laid-warned, Grown, same-grown, one-grown, then-grown}

-- ---- entries that fit

abbrev rec : List ℕ → ℕ → Item
rec bs w = record { kind = 0; bytes = bs; warned = w }

fits-mark : (k w : ℕ) → k < 2 → Fits idle (record { kind = Mark; count = k; warned = w; bytes = [] })
fits-mark k w h = record {
  known' = refl;
  allowed' = refl;
  counted = λ at limit m. lt-ltb k 2 h;
  items = λ l. length-snoc l _ ∙ omega arith;
  ones = λ l. of_kind-snoc 1 l _ ∙ ap (λ (x : ℕ). of_kind 1 l + x) (one k h);
  twos = λ l. of_kind-snoc 2 l _ ∙ ap (λ (x : ℕ). of_kind 2 l + x) (two k h);
}
  where
    one : (k : ℕ) → k < 2 → ◌≡◌ {A = ℕ} (cond (eqb (k + 1) 1) 1 0) (cond (eqb k 0) 1 0)
    one zero h = refl
    one (suc zero) h = refl
    one (suc (suc k)) h = absurd (omega arith)

    two : (k : ℕ) → k < 2 → ◌≡◌ {A = ℕ} (cond (eqb (k + 1) 2) 1 0) (cond (eqb k 1) 1 0)
    two zero h = refl
    two (suc zero) h = refl
    two (suc (suc k)) h = absurd (omega arith)

-- a part that is no item yet adds none
same_length : (l : List Item) → length (l ++ []) ≡ length l + 0
same_length l = ap length (append-nil l) ∙ sym (add-zero (length l))

same_kind : (k : ℕ) (l : List Item) → of_kind k (l ++ []) ≡ of_kind k l + 0
same_kind k l = ap (of_kind k) (append-nil l) ∙ sym (add-zero (of_kind k l))

fits-entire : (s : Recording) (bs : List ℕ) → 1 ≤ length bs → Fits idle (part s Entire bs)
fits-entire s bs h = record {
  known' = refl;
  allowed' = refl;
  counted = λ at limit m. and_from _ _ (lt-ltb 0 (length bs) h) (le-leb (at + length bs) limit m);
  items = λ l. length-snoc l _ ∙ omega arith;
  ones = λ l. of_kind-snoc 1 l _;
  twos = λ l. of_kind-snoc 2 l _;
}

fits-start : (s : Recording) (bs : List ℕ) → 1 ≤ length bs → Fits idle (part s Start bs)
fits-start s bs h = record {
  known' = refl;
  allowed' = refl;
  counted = λ at limit m. and_from _ _ (lt-ltb 0 (length bs) h) (le-leb (at + length bs) limit m);
  items = same_length;
  ones = same_kind 1;
  twos = same_kind 2;
}

fits-middle : (s : Recording) (a bs : List ℕ) (w : ℕ) → 1 ≤ length bs → Fits (inside a w) (part s Middle bs)
fits-middle s a bs w h = record {
  known' = refl;
  allowed' = refl;
  counted = λ at limit m. and_from _ _ (lt-ltb 0 (length bs) h) (le-leb (at + length bs) limit m);
  items = same_length;
  ones = same_kind 1;
  twos = same_kind 2;
}

fits-ending : (s : Recording) (a bs : List ℕ) (w : ℕ) → 1 ≤ length bs → Fits (inside a w) (part s Last bs)
fits-ending s a bs w h = record {
  known' = refl;
  allowed' = refl;
  counted = λ at limit m. and_from _ _ (lt-ltb 0 (length bs) h) (le-leb (at + length bs) limit m);
  items = same_length;
  ones = same_kind 1;
  twos = same_kind 2;
}

fits-owing : (s : Recording) (n : ℕ) (a : List ℕ) (w : ℕ) → n ≡ length a → Fits (owing a w) (entry s Total n [])
fits-owing s n a w h = record {
  known' = refl;
  allowed' = refl;
  counted = λ at limit m. eq-eqb n (length a) h;
  items = λ l. length-snoc l _ ∙ omega arith;
  ones = λ l. of_kind-snoc 1 l _;
  twos = λ l. of_kind-snoc 2 l _;
}

fits-owed : (s : Recording) (n : ℕ) (a : List ℕ) (w : ℕ) → n ≡ length a → Fits (owed a w) (entry s Total n [])
fits-owed s n a w h = record {
  known' = refl;
  allowed' = refl;
  counted = λ at limit m. eq-eqb n (length a) h;
  items = λ l. length-snoc l _ ∙ omega arith;
  ones = λ l. of_kind-snoc 1 l _;
  twos = λ l. of_kind-snoc 2 l _;
}

small-take : (n : ℕ) (bs : List ℕ) → Small bs → Small (take n bs)
small-take zero bs q = tt
small-take (suc n) [] q = tt
small-take (suc n) (b ∷ bs) q = (q.0, small-take n bs q.1)

small-drop : (n : ℕ) (bs : List ℕ) → Small bs → Small (drop n bs)
small-drop zero bs q = q
small-drop (suc n) [] q = tt
small-drop (suc n) (b ∷ bs) q = small-drop n bs q.1

-- entries that four bytes hold
sound-part : (s : Recording) (k : Kind) (bs : List ℕ) → k ≡ kind_of (flag_of k) → named k ≡ true → s.warned < 2 → length bs < 16777216 → Small bs → Sound (part s k bs)
sound-part s k bs e n w h q = record {
  known = e;
  count = h;
  warned = w;
  bytes = sym (cond-true (named k) bs [] n);
  length' = cond-true (named k) (length bs) 0 n;
  small = q;
}

sound-bare : (s : Recording) (k : Kind) (n : ℕ) → k ≡ kind_of (flag_of k) → named k ≡ false → s.warned < 2 → n < 16777216 → Sound (entry s k n [])
sound-bare s k n e f w h = record {
  known = e;
  count = h;
  warned = w;
  bytes = sym (cond_same (named k));
  length' = cond-false (named k) n 0 f;
  small = tt;
}
  where
    cond_same : (b : Bool) → ◌≡◌ {A = List ℕ} (cond b [] []) []
    cond_same true = refl
    cond_same false = refl

-- an entry that finishes nothing
put-part : (s : Recording) (st st' : Position) (l : List Item) (p : Entry) → gives st p ≡ [] → after st p ≡ st' → Laid s st l → Fits st p → Sound p
    → used s.open' + length p.bytes + 4 * suc (length s.open') ≤ 126596 → Laid (put p s) st' l
put-part s st st' l p g a i f o h =
    subst (λ (x : Position). Laid (put p s) x l) a
    (subst (λ (x : List Item). Laid (put p s) (after st p) x) (ap (λ (x : List Item). l ++ x) g ∙ append-nil l) (putting p i f o h))

-- ---- an item laid whole: it stands in l, and its last entry in group g
pub record Ended (s t : Recording) (l : List Item) (g : ℕ) : Type 0 where
  pub inv : Laid t idle l
  pub place : current t ≡ g
  pub limit : t.limit ≡ s.limit
  pub grown : Grown s t
  pub stands : Finishes t
  pub warned : t.warned ≡ s.warned

put-stands : (p : Entry) (s : Recording) → finishes p.kind ≡ 1 → Finishes (put p s)
put-stands p s e = record { before = s.open'; last = p; is = refl; item = e }

-- a group that opens
pub record Opens (s : Recording) : Type 0 where
  pub bytes : used s.open' ≡ 0
  pub entries : length s.open' ≡ 0

opens : (s : Recording) → Opens (complete s)
unfolding used
opens s = record { bytes = refl; entries = refl }

rest-inv : (f n : ℕ) (bs a : List ℕ) (w : ℕ) (s : Recording) (l : List Item) → Laid s (inside a w) l → Opens s → 1 ≤ length bs → length bs ≤ f → n ≡ length (a ++ bs) → n < 16777216 → Small bs
    → Ended s (lay_rest f n bs s) (l ++ (rec (a ++ bs) w ∷ [])) (rest_ends (current s) (length bs))
unfolding lay_rest
rest-inv zero n bs a w s l i o b fu e big q = absurd (omega arith)
rest-inv (suc f) n bs a w s l i o b fu e big q =
    cond_both (leb (length bs + 8) (free s)) _ _ P
    (λ t. let h = leb-true (length bs + 8) (free s) t in
    let i₁ : Laid s₁ (owing (a ++ bs) w) l = put-part s (inside a w) _ l (part s Last bs) refl refl i (fits-ending s a bs w b) (sound-part s Last bs refl refl w₀ (omega arith) q) (omega arith) in
    record {
      inv = putting (entry s Total n []) i₁ (fits-owing s n (a ++ bs) w e) (sound-bare s Total n refl refl w₀ big) (omega (arith, used-snoc s.open' (part s Last bs), length-snoc s.open' (part s Last bs)));
      place = omega arith;
      limit = refl;
      grown = same-grown s _ refl;
      stands = put-stands (entry s Total n []) s₁ refl;
      warned = refl;
    })
    (λ t. let h = leb-false (length bs + 8) (free s) t in
    cond_both (leb (length bs + 4) (free s)) _ _ P
    (λ t. let k = leb-true (length bs + 4) (free s) t in
    let i₁ : Laid s₁ (owing (a ++ bs) w) l = put-part s (inside a w) _ l (part s Last bs) refl refl i (fits-ending s a bs w b) (sound-part s Last bs refl refl w₀ (omega arith) q) (omega arith) in
    let i₂ : Laid (complete s₁) (owed (a ++ bs) w) l = completing i₁ refl in
    let o₂ = opens s₁ in
    record {
      inv = putting (entry s Total n []) i₂ (fits-owed s n (a ++ bs) w e) (sound-bare s Total n refl refl w₀ big) (omega arith);
      place = omega (arith, length-snoc s.done (stored 0 s₁));
      limit = refl;
      grown = one-grown s _ (stored 0 s₁) refl;
      stands = put-stands (entry s Total n []) (complete s₁) refl;
      warned = refl;
    })
    (λ t. let k = leb-false (length bs + 4) (free s) t in
    let c : ℕ = free s - 4 in
    let m : List ℕ = take c bs in
    let lt = length-take c bs in
    let ld = length-drop c bs in
    let i₁ : Laid (s₂ m) (begun (a ++ m) w) l = put-part s (inside a w) _ l (part s Middle m) refl refl i (fits-middle s a m w (omega arith)) (sound-part s Middle m refl refl w₀ (omega arith) (small-take c bs q)) (omega arith) in
    let i₂ : Laid (complete (s₂ m)) (inside (a ++ m) w) l = completing i₁ refl in
    let j : (a ++ m) ++ drop c bs ≡ a ++ bs = append_assoc a m (drop c bs) ∙ ap (λ (x : List ℕ). a ++ x) (take-append-drop c bs) in
    let r = rest-inv f n (drop c bs) (a ++ m) w (complete (s₂ m)) l i₂ (opens (s₂ m)) (omega arith) (omega arith) (e ∙ ap length (sym j)) big (small-drop c bs q) in
    record {
      inv = subst (λ (x : List ℕ). Laid (lay_rest f n (drop c bs) (complete (s₂ m))) idle (l ++ (rec x w ∷ []))) j r.inv;
      place = r.place ∙ omega (arith, length-snoc s.done (stored 0 (s₂ m)));
      limit = r.limit;
      grown = then-grown s (complete (s₂ m)) (lay_rest f n (drop c bs) (complete (s₂ m))) (one-grown s (complete (s₂ m)) (stored 0 (s₂ m)) refl) r.grown;
      stands = r.stands;
      warned = r.warned;
    }))
  where
    P : Recording → Type 0
    P t = Ended s t (l ++ (rec (a ++ bs) w ∷ [])) (rest_ends (current s) (length bs))

    s₁ : Recording
    s₁ = put (part s Last bs) s

    s₂ : List ℕ → Recording
    s₂ m = put (part s Middle m) s

    u₀ : used s.open' ≡ 0
    u₀ = o.bytes

    n₀ : length s.open' ≡ 0
    n₀ = o.entries

    w₀ : s.warned < 2
    w₀ = laid-warned i

-- an item that needs n free of a group begins in a group that has them
pub record HasRoom (n : ℕ) (s t : Recording) (l : List Item) : Type 0 where
  pub inv : Laid t idle l
  pub enough : n ≤ free t
  pub limit : t.limit ≡ s.limit
  pub grown : Grown s t
  pub warned : t.warned ≡ s.warned

room-inv : (n : ℕ) (s : Recording) (l : List Item) → n ≤ 126596 → Laid s idle l → HasRoom n s (room n s) l
room-inv n s l b i =
    cond_both (leb n (free s)) _ _ (λ (t : Recording). HasRoom n s t l)
    (λ t. record { inv = i; enough = leb-true n (free s) t; limit = refl; grown = same-grown s s refl; warned = refl })
    (λ t. record { inv = completing i refl; enough = omega (arith, (opens s).bytes, (opens s).entries); limit = refl; grown = one-grown s (complete s) (stored 0 s) refl; warned = refl })

begun-inv : (bs : List ℕ) (s : Recording) (l : List Item) → Laid s idle l → 5 ≤ free s → 1 ≤ length bs → length bs < 16777216 → Small bs
    → Ended s (lay_begun bs s) (l ++ (rec bs s.warned ∷ [])) (begun_ends (length bs) s)
begun-inv bs s l i r b big q = go (leb (length bs + 4) (free s)) refl
  where
    c : ℕ
    c = free s - 4

    m : List ℕ
    m = take c bs

    s₁ : Recording
    s₁ = put (part s Start m) s

    j : m ++ drop c bs ≡ bs
    j = take-append-drop c bs

    go : (t : Bool) → leb (length bs + 4) (free s) ≡ t
        → Ended s (cond t (put (part s Entire bs) s) (lay_parts bs s)) (l ++ (rec bs s.warned ∷ [])) (cond t (current s) (rest_ends (suc (current s)) (length bs - (free s - 4))))
    go true t = let h = leb-true (length bs + 4) (free s) t in record {
      inv = putting (part s Entire bs) i (fits-entire s bs b) (sound-part s Entire bs refl refl (laid-warned i) (omega arith) q) (omega (arith, laid-fits i));
      place = refl;
      limit = refl;
      grown = same-grown s _ refl;
      stands = put-stands (part s Entire bs) s refl;
      warned = refl;
    }
    go false t =
        let h = leb-false (length bs + 4) (free s) t in
        let lt = length-take c bs in
        let ld = length-drop c bs in
        let i₁ : Laid s₁ (begun m s.warned) l = put-part s idle _ l (part s Start m) refl refl i (fits-start s m (omega arith)) (sound-part s Start m refl refl (laid-warned i) (omega arith) (small-take c bs q)) (omega (arith, laid-fits i)) in
        let i₂ : Laid (complete s₁) (inside m s.warned) l = completing i₁ refl in
        let e = rest-inv (length bs) (length bs) (drop c bs) m s.warned (complete s₁) l i₂ (opens s₁) (omega arith) (omega arith) (ap length (sym j)) big (small-drop c bs q) in
        record {
          inv = subst (λ (x : List ℕ). Laid (lay_parts bs s) idle (l ++ (rec x s.warned ∷ []))) j e.inv;
          place = e.place ∙ ap₂ (λ (x y : ℕ). suc x + (y + 3) / 126592) (length-snoc s.done (stored 0 s₁)) ld;
          limit = e.limit;
          grown = then-grown s (complete s₁) (lay_parts bs s) (one-grown s (complete s₁) (stored 0 s₁) refl) e.grown;
          stands = e.stands;
          warned = e.warned;
        }

pub record-inv : (bs : List ℕ) (s : Recording) (l : List Item) → Laid s idle l → 1 ≤ length bs → length bs < 16777216 → Small bs
    → Ended s (lay_record bs s) (l ++ (rec bs s.warned ∷ [])) (record_ends (length bs) s)
record-inv bs s l i b big q =
    let r = room-inv 5 s l (omega arith) i in
    let e = begun-inv bs (room 5 s) l r.inv r.enough b big q in
    record {
      inv = subst (λ (x : ℕ). Laid (lay_record bs s) idle (l ++ (rec bs x ∷ []))) r.warned e.inv;
      place = e.place;
      limit = e.limit ∙ r.limit;
      grown = then-grown s (room 5 s) (lay_record bs s) r.grown e.grown;
      stands = e.stands;
      warned = e.warned ∙ r.warned;
    }

pub mark-inv : (k : ℕ) (s : Recording) (l : List Item) → Laid s idle l → 1 ≤ k → k ≤ 2
    → Ended s (lay_mark k s) (l ++ (record { kind = k; bytes = []; warned = s.warned } ∷ [])) (mark_ends s)
mark-inv k s l i a b =
    let r = room-inv 4 s l (omega arith) i in
    let t : Recording = room 4 s in
    let j : Laid (lay_mark k s) idle (l ++ (record { kind = k - 1 + 1; bytes = []; warned = t.warned } ∷ [])) =
    putting (entry t Mark (k - 1) []) r.inv (fits-mark (k - 1) t.warned (omega arith)) (sound-bare t Mark (k - 1) refl refl (laid-warned r.inv) (omega arith)) (omega (arith, laid-fits r.inv, r.enough)) in
    let e : k - 1 + 1 ≡ k = omega arith in
    record {
      inv = subst₂ (λ (x y : ℕ). Laid (lay_mark k s) idle (l ++ (record { kind = x; bytes = []; warned = y } ∷ []))) e r.warned j;
      place = refl;
      limit = r.limit;
      grown = then-grown s (room 4 s) (lay_mark k s) r.grown (same-grown (room 4 s) (lay_mark k s) refl);
      stands = put-stands (entry t Mark (k - 1) []) t refl;
      warned = r.warned;
    }
