-- Any calls keep what a walk gives.
use Rattle.std.proofs.Common.{◌≡◌, ℕ, ◌<◌, ◌≤◌, Bool, true, false, cond, ◌&&◌, ◌||◌, eqb, ltb, ◌⊎◌, List, [], ◌∷◌, ◌++◌, map, length, refl, ◌∙◌, subst, ap₂, inl, inr, arith}
use Rattle.std.proofs.lemmas.Bool.{eqb-true, eqb-false, ltb-false, and_parts, or_cases, or_parts, cond_both}
use Rattle.index.specs.Entries.{Item, Group}
use Rattle.index.specs.Walk.{Position.idle}
use Rattle.laying.specs.Lay.{Recording, current, stored, record_ends, mark_ends, lay_record, lay_mark}
use Rattle.laying.specs.Calls.{Call, Call.record', Call.mark', Call.warn', Sends, Running, Faithful, declines, carried, listed, called, ran, begin, closed, Closes, Recorded, Predicted}
use Rattle.laying.proofs.Lays.{stored-walks}
use Rattle.laying.proofs.Laid.{Laid, Laid.fresh, Laid.warns, laid-inv, Grown, same-grown, laid-whole, laid_on, stored-whole, all_snoc}
use Rattle.index.proofs.Walks.{groups-snoc, length-snoc}
use Rattle.index.proofs.Reread.{reread}
use Rattle.std.specs.List.{AllByRecursion}
use Rattle.index.specs.Bytes.{Whole, Small, group_of, read_group}
use Rattle.laying.proofs.Records.{Ended, record-inv, mark-inv}

pub record Kept (r : Running) : Type 0 where
  pub inv : Laid r.state idle r.list.items
  pub warned : r.state.warned ≡ r.list.warned
  pub within : current r.state ≤ r.state.limit

-- a call keeps the limit too
pub record Keeps (r t : Running) : Type 0 where
  pub kept : Kept t
  pub limit : t.state.limit ≡ r.state.limit
  pub grown : Grown r.state t.state

abbrev pub done : Running → Call → Running
done r c = record { state = carried r.state c; list = listed r.list c }

-- an item that ends within the limit
ended : (r : Running) (t : Recording) (l : List Item) (g : ℕ) → Kept r → Ended r.state t l g → g ≤ r.state.limit
    → Keeps r (record { state = t; list = record { items = l; warned = r.list.warned } })
ended r t l g k e h = record
    { kept = record { inv = e.inv; warned = e.warned ∙ k.warned; within = omega (arith, e.place, e.limit) }; limit = e.limit; grown = e.grown }

recorded : (r : Running) (bs : List ℕ) → Small bs → Kept r → declines r.state (record' bs) ≡ 0 → Keeps r (done r (record' bs))
recorded r bs sm k = go (eqb (length bs) 0 || ltb 16777215 (length bs)) refl (ltb r.state.limit (record_ends (length bs) r.state)) refl
  where
    go : (a : Bool) → (eqb (length bs) 0 || ltb 16777215 (length bs)) ≡ a → (b : Bool) → ltb r.state.limit (record_ends (length bs) r.state) ≡ b
        → ◌≡◌ {A = ℕ} (cond a 11 (cond b 12 0)) 0 → Keeps r (done r (record' bs))
    go true p b q e = absurd (omega arith)
    go false p true q e = absurd (omega arith)
    go false p false q e =
        let n = eqb-false (length bs) 0 (or_parts _ _ p).0 in
        let h = record-inv bs r.state r.list.items k.inv (omega arith) (omega (arith, ltb-false 16777215 (length bs) (or_parts _ _ p).1)) sm in
        ended r (lay_record bs r.state) _ (record_ends (length bs) r.state) k (subst (λ (w : ℕ). Ended r.state (lay_record bs r.state) (r.list.items ++ (record { kind = 0; bytes = bs; warned = w } ∷ [])) (record_ends (length bs) r.state)) k.warned h) (ltb-false _ _ q)

marked : (r : Running) (n : ℕ) → Kept r → declines r.state (mark' n) ≡ 0 → Keeps r (done r (mark' n))
marked r n k = go (eqb n 1 || eqb n 2) refl (ltb r.state.limit (mark_ends r.state)) refl
  where
    kinds : (eqb n 1 ≡ true) ⊎ (eqb n 2 ≡ true) → (1 ≤ n) × (n ≤ 2)
    kinds (inl e) = let h = eqb-true n 1 e in omega arith
    kinds (inr e) = let h = eqb-true n 2 e in omega arith

    go : (a : Bool) → (eqb n 1 || eqb n 2) ≡ a → (b : Bool) → ltb r.state.limit (mark_ends r.state) ≡ b
        → ◌≡◌ {A = ℕ} (cond a (cond b 12 0) 13) 0 → Keeps r (done r (mark' n))
    go false p b q e = absurd (omega arith)
    go true p true q e = absurd (omega arith)
    go true p false q e =
        let n₁ = kinds (or_cases _ _ p) in
        let h = mark-inv n r.state r.list.items k.inv n₁.0 n₁.1 in
        ended r (lay_mark n r.state) _ (mark_ends r.state) k (subst (λ (w : ℕ). Ended r.state (lay_mark n r.state) (r.list.items ++ (record { kind = n; bytes = []; warned = w } ∷ [])) (mark_ends r.state)) k.warned h) (ltb-false _ _ q)

pub carries : (r : Running) (c : Call) → Sends c → Kept r → declines r.state c ≡ 0 → Keeps r (done r c)
carries r (record' bs) sm k e = recorded r bs sm k e
carries r (mark' n) sm k e = marked r n k e
carries r warn' sm k e = record { kept = record { inv = warns k.inv; warned = refl; within = k.within }; limit = refl; grown = same-grown r.state _ refl }

once : (r : Running) (c : ℕ × Call) → Sends c.1 → Kept r → Keeps r (called r c)
once r c sm k =
    cond_both (eqb c.0 0 && eqb (declines r.state c.1) 0) _ _ (Keeps r)
    (λ t. carries r c.1 sm k (eqb-true _ 0 (and_parts _ _ t).1))
    (λ t. record { kept = k; limit = refl; grown = same-grown r.state r.state refl })

one : (r : Running) (c : ℕ × Call) → Sends c.1 → Kept r → Kept (called r c)
one r c sm k = (once r c sm k).kept

all : (cs : List (ℕ × Call)) (r : Running) → AllByRecursion (λ c. Sends c.1) cs → Kept r → Kept (ran r cs)
unfolding ran
all [] r sm k = k
all (c ∷ cs) r sm k = all cs (called r c) sm.1 (one r c sm.0 k)

pub start : (g : ℕ) → 1 ≤ g → Kept (begin g)
start g h = record { inv = fresh g; warned = refl; within = h }

pub faithful : Faithful
faithful g cs sm h =
    let k = all cs (begin g) sm (start g h) in
    let i = laid-inv k.inv in
    record {
      before = i.before;
      groups = i.groups;
      open'' = i.here _ (omega (arith, i.fits));
      fits = i.fits;
      items = i.items;
      ones = i.ones;
      twos = i.twos;
      warned = k.warned;
      within = k.within;
    }

read_all : (gs : List Group) → AllByRecursion Whole gs → map read_group (map group_of gs) ≡ gs
read_all [] h = refl
read_all (g ∷ gs) h = ap₂ (λ (x : Group) (y : List Group). x ∷ y) (reread g h.0).1 (read_all gs h.1)

-- the limit stays
limits : (cs : List (ℕ × Call)) (r : Running) → AllByRecursion (λ c. Sends c.1) cs → Kept r → (ran r cs).state.limit ≡ r.state.limit
unfolding ran
limits [] r sm k = refl
limits (c ∷ cs) r sm k = limits cs (called r c) sm.1 (one r c sm.0 k) ∙ (once r c sm.0 k).limit

pub closed-whole : (r : Running) → Kept r → r.state.limit ≤ 65535 → AllByRecursion Whole (closed r.state)
closed-whole r k b =
    let s : Recording = r.state in
    let h : current s < 65536 = omega (arith, k.within) in
    all_snoc Whole s.done (stored 1 s) (laid-whole k.inv (omega arith)) (stored-whole 1 (omega arith) k.inv h)

pub kept-closes : (r : Running) → Kept r → r.state.limit ≤ 65535 → Closes r.state r.list
kept-closes r k b =
    let s : Recording = r.state in
    let i = laid-inv k.inv in
    record {
      read = read_all (closed s) (closed-whole r k b);
      walked = groups-snoc s.done (stored 1 s) 1 (current s) _ i.before _ (omega arith) i.groups (stored-walks s idle _ 1 (omega arith) i refl refl);
      number = omega (arith, length-snoc s.done (stored 1 s), k.within);
      on = laid_on k.inv;
    }

pub recorded-whole : Recorded
recorded-whole g cs sm a b =
    kept-closes (ran (begin g) cs) (all cs (begin g) sm (start g a)) (omega (arith, limits cs (begin g) sm (start g a)))

pub predicted : Predicted
predicted g cs bs sm q a b c =
    let k = all cs (begin g) sm (start g a) in
    let e = record-inv bs (ran (begin g) cs).state (ran (begin g) cs).list.items k.inv b (omega arith) q in
    (e.place, e.stands)
