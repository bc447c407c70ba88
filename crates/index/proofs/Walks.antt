-- What a walk does at one more entry, and at one more group.
use Rattle.std.proofs.Common.{◌≡◌, ℕ, suc, ◌+◌, true, false, cond, eqb, List, [], ◌∷◌, ◌++◌, length, Ok, Err, Result, sym, refl, ap, ◌∙◌, subst, add-zero, arith}
use Rattle.std.proofs.lemmas.Bool.{cond-true}
use Rattle.index.specs.Entries.{Entry, Item, Group, used}
use Rattle.index.specs.declared.fault.IndexFault.{IndexFault}
use Rattle.index.specs.Succession.{known}
use Rattle.index.specs.Walk.{Walk, Between, allowed, counts, after, gives, next, step, close, walk, whole, none, of_kind, walk_group, walk_groups}

pub used-snoc : (ps : List Entry) (p : Entry) → used (ps ++ (p ∷ [])) ≡ used ps + length p.bytes
unfolding used
used-snoc [] p = omega arith
used-snoc (q ∷ ps) p = let ih = used-snoc ps p in omega arith

pub length-snoc : {A : Type 0} (xs : List A) (x : A) → length (xs ++ (x ∷ [])) ≡ suc (length xs)
length-snoc [] x = refl
length-snoc (y ∷ xs) x = ap suc (length-snoc xs x)

pub of_kind-snoc : (k : ℕ) (xs : List Item) (x : Item) → of_kind k (xs ++ (x ∷ [])) ≡ of_kind k xs + cond (eqb x.kind k) 1 0
unfolding of_kind
of_kind-snoc k [] x = omega arith
of_kind-snoc k (y ∷ xs) x = let ih = of_kind-snoc k xs x in omega arith

-- one more entry
pub walk-snoc : (ps : List Entry) (p : Entry) (limit i : ℕ) (w v v' : Walk) → walk limit i w ps ≡ Ok v
    → ((j : ℕ) → step limit j v p ≡ Ok v') → walk limit i w (ps ++ (p ∷ [])) ≡ Ok v'
unfolding walk
walk-snoc [] p limit i w v v' e h = go v' (step limit i w p) (subst (λ (x : Walk). step limit i x p ≡ Ok v') (sym (inj w v e)) (h i))
  where
    inj : (a b : Walk) → ◌≡◌ {A = Result Walk IndexFault} (Ok a) (Ok b) → a ≡ b
    inj a b q = cc

    go : (v' : Walk) (r : Result Walk IndexFault) → r ≡ Ok v' → next r (λ u. Ok u) ≡ Ok v'
    go v' (Ok u) q = q
    go v' (Err x) q = q
walk-snoc (q ∷ ps) p limit i w v v' e h = go (step limit i w q) e (λ u f. walk-snoc ps p limit (suc i) u v v' f h)
  where
    go : (r : Result Walk IndexFault) → next r (λ u. walk limit (suc i) u ps) ≡ Ok v → ((u : Walk) → walk limit (suc i) u ps ≡ Ok v → walk limit (suc i) u (ps ++ (p ∷ [])) ≡ Ok v')
        → next r (λ u. walk limit (suc i) u (ps ++ (p ∷ []))) ≡ Ok v'
    go (Ok u) f ih = ih u f
    go (Err x) f ih = cc

none-snoc : (ps : List Entry) (p : Entry) → none (ps ++ (p ∷ [])) ≡ false
none-snoc [] p = refl
none-snoc (q ∷ ps) p = refl

-- the skip
pub whole-snoc : (ps : List Entry) (p : Entry) (limit i : ℕ) (w v v' : Walk) → walk limit i w ps ≡ Ok v
    → ((j : ℕ) → close limit j v p ≡ Ok v') → whole limit i w (ps ++ (p ∷ [])) ≡ Ok v'
unfolding walk whole
whole-snoc [] p limit i w v v' e h = subst (λ (x : Walk). close limit i x p ≡ Ok v') (sym (inj w v e)) (h i)
  where
    inj : (a b : Walk) → ◌≡◌ {A = Result Walk IndexFault} (Ok a) (Ok b) → a ≡ b
    inj a b q = cc
whole-snoc (q ∷ ps) p limit i w v v' e h =
    rw (none-snoc ps p) (go (step limit i w q) e (λ u f. whole-snoc ps p limit (suc i) u v v' f h))
  where
    go : (r : Result Walk IndexFault) → next r (λ u. walk limit (suc i) u ps) ≡ Ok v → ((u : Walk) → walk limit (suc i) u ps ≡ Ok v → whole limit (suc i) u (ps ++ (p ∷ [])) ≡ Ok v')
        → next r (λ u. whole limit (suc i) u (ps ++ (p ∷ []))) ≡ Ok v'
    go (Ok u) f ih = ih u f
    go (Err x) f ih = cc

-- one more group
pub groups-snoc : (gs : List Group) (g : Group) (n m : ℕ) (b c d : Between) → m ≡ n + length gs → walk_groups n b gs ≡ Ok c
    → walk_group m c g ≡ Ok d → walk_groups n b (gs ++ (g ∷ [])) ≡ Ok d
unfolding walk_groups
groups-snoc [] g n m b c d l e h = go d (walk_group n b g) (cc nm)
  where
    nm : m ≡ n
    nm = l ∙ add-zero n

    go : (d : Between) (r : Result Between IndexFault) → r ≡ Ok d → next r (λ u. Ok u) ≡ Ok d
    go d (Ok u) q = q
    go d (Err x) q = q
groups-snoc (k ∷ gs) g n m b c d l e h = go (walk_group n b k) e (λ u f. groups-snoc gs g (suc n) m u c d (omega arith) f h)
  where
    go : (r : Result Between IndexFault) → next r (λ u. walk_groups (suc n) u gs) ≡ Ok c → ((u : Between) → walk_groups (suc n) u gs ≡ Ok c → walk_groups (suc n) u (gs ++ (g ∷ [])) ≡ Ok d)
        → next r (λ u. walk_groups (suc n) u (gs ++ (g ∷ []))) ≡ Ok d
    go (Ok u) f ih = ih u f
    go (Err x) f ih = cc

-- an entry that is allowed, with a right count
pub step_ok : (limit j : ℕ) (w : Walk) (p : Entry) → known p.kind ≡ true → allowed w.position p.kind ≡ true → counts limit w.used w.position p ≡ true
    → step limit j w p ≡ Ok (record { position = after w.position p; used = w.used + length p.bytes; items = w.items ++ gives w.position p })
step_ok limit j w p k a c = cond-true (known p.kind) _ _ k ∙ (cond-true (allowed w.position p.kind) _ _ a ∙ cond-true (counts limit w.used w.position p) _ _ c)
