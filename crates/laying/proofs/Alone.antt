-- The settled numbers, for any record of the length.
use Rattle.std.proofs.Common.{◌≡◌, ℕ, suc, ◌+◌, ◌-◌, ◌<◌, ◌≤◌, List, [], ◌∷◌, length, take, drop, refl, ap, ◌∙◌, ap₂, arith, length-drop, length-take}
use Rattle.std.proofs.lemmas.Bool.{le-leb, lt-leb, cond-true, cond-false}
use Rattle.index.specs.declared.kind.Kind.TheVariants.{Total, Middle, Start, Last, Entire, Skip}
use Rattle.index.specs.Entries.{used}
use Rattle.laying.specs.Lay.{Recording, free, entry, part, put, complete, lay_rest, lay_record}
use Rattle.laying.specs.Calls.{made}
use Rattle.laying.specs.Settled.{outline, Alone, Settled}

-- ---- the ways of a rest

pub rest-same : (f n : ℕ) (bs : List ℕ) (s : Recording) → length bs + 8 ≤ free s → lay_rest (suc f) n bs s ≡ put (entry s Total n []) (put (part s Last bs) s)
unfolding lay_rest
rest-same f n bs s h = cond-true _ _ _ (le-leb (length bs + 8) (free s) h)

pub rest-late : (f n : ℕ) (bs : List ℕ) (s : Recording) → free s < length bs + 8 → length bs + 4 ≤ free s → lay_rest (suc f) n bs s ≡ put (entry s Total n []) (complete (put (part s Last bs) s))
unfolding lay_rest
rest-late f n bs s h k = cond-false _ _ _ (lt-leb (length bs + 8) (free s) h) ∙ cond-true _ _ _ (le-leb (length bs + 4) (free s) k)

pub rest_more : (f n : ℕ) (bs : List ℕ) (s : Recording) → free s < length bs + 4 → lay_rest (suc f) n bs s ≡ lay_rest f n (drop (free s - 4) bs) (complete (put (part s Middle (take (free s - 4) bs)) s))
unfolding lay_rest
rest_more f n bs s h = cond-false _ _ _ (lt-leb (length bs + 8) (free s) (omega arith)) ∙ cond-false _ _ _ (lt-leb (length bs + 4) (free s) h)

-- ---- a record alone

-- the first group of a record in parts
abbrev first : ℕ → List ℕ → Recording
first g bs = complete (put (part (made g) Start (take 126592 bs)) (made g))

alone-entire : (g : ℕ) (bs : List ℕ) → length bs + 4 ≤ 126596 → lay_record bs (made g) ≡ put (part (made g) Entire bs) (made g)
unfolding used
alone-entire g bs h = cond-true _ _ _ (le-leb (length bs + 4) 126596 h)

alone-parts : (g n : ℕ) (bs : List ℕ) → length bs ≡ n → 126596 < n + 4 → lay_record bs (made g) ≡ lay_rest n n (drop 126592 bs) (first g bs)
unfolding used
alone-parts g n bs e h =
    cond-false _ _ _ (lt-leb (length bs + 4) 126596 (omega arith))
    ∙ ap (λ (x : ℕ). lay_rest x x (drop 126592 bs) (first g bs)) e

opened : (s : Recording) → free (complete s) ≡ 126596
unfolding used
opened s = refl

none : (g : ℕ) → outline (made g) ≡ ((Skip, 126632) ∷ []) ∷ []
unfolding used
none g = refl

entire-alone : Alone 126592 (((Entire, 126592) ∷ (Skip, 40) ∷ []) ∷ [])
unfolding used
entire-alone g bs e = ap outline (alone-entire g bs (omega arith)) ∙ ap (λ (n : ℕ). ((Entire, n) ∷ (Skip, 126632 - (n + 0)) ∷ []) ∷ []) e

-- the rest is a last part, and the total stands beside it
two-groups : (n m : ℕ) → n ≡ suc m → 126592 < n → n ≤ 253180
    → Alone n (((Start, 126592) ∷ (Skip, 40) ∷ []) ∷ ((Last, n - 126592) ∷ (Total, n) ∷ (Skip, 126632 - (n - 126592 + 0)) ∷ []) ∷ [])
unfolding used
two-groups n m s a b g bs e =
    ap outline (alone-parts g n bs e (omega arith)
    ∙ (ap (λ (x : ℕ). lay_rest x n (drop 126592 bs) (first g bs)) s
    ∙ rest-same m n (drop 126592 bs) (first g bs) (omega (arith, length-drop 126592 bs, opened (put (part (made g) Start (take 126592 bs)) (made g))))))
    ∙ ap₂ (λ (x y : ℕ). ((Start, x) ∷ (Skip, 126632 - (x + 0)) ∷ []) ∷ ((Last, y) ∷ (Total, n) ∷ (Skip, 126632 - (y + 0)) ∷ []) ∷ [])
    (length-take 126592 bs ∙ omega arith) (length-drop 126592 bs ∙ ap (λ (x : ℕ). x - 126592) e)

-- the total opens the third group
late-total : (n m : ℕ) → n ≡ suc m → 253180 < n → n ≤ 253184
    → Alone n (((Start, 126592) ∷ (Skip, 40) ∷ []) ∷ ((Last, n - 126592) ∷ (Skip, 126632 - (n - 126592 + 0)) ∷ []) ∷ ((Total, n) ∷ (Skip, 126632) ∷ []) ∷ [])
unfolding used
late-total n m s a b g bs e =
    ap outline (alone-parts g n bs e (omega arith)
    ∙ (ap (λ (x : ℕ). lay_rest x n (drop 126592 bs) (first g bs)) s
    ∙ rest-late m n (drop 126592 bs) (first g bs) (omega (arith, length-drop 126592 bs, opened o)) (omega (arith, length-drop 126592 bs, opened o))))
    ∙ ap₂ (λ (x y : ℕ). ((Start, x) ∷ (Skip, 126632 - (x + 0)) ∷ []) ∷ ((Last, y) ∷ (Skip, 126632 - (y + 0)) ∷ []) ∷ ((Total, n) ∷ (Skip, 126632) ∷ []) ∷ [])
    (length-take 126592 bs ∙ omega arith) (length-drop 126592 bs ∙ ap (λ (x : ℕ). x - 126592) e)
  where
    o : Recording
    o = put (part (made g) Start (take 126592 bs)) (made g)

-- a middle part
with-middle : (n m : ℕ) → n ≡ suc (suc m) → 253184 < n → n ≤ 379772
    → Alone n (((Start, 126592) ∷ (Skip, 40) ∷ []) ∷ ((Middle, 126592) ∷ (Skip, 40) ∷ []) ∷ ((Last, n - 253184) ∷ (Total, n) ∷ (Skip, 126632 - (n - 253184 + 0)) ∷ []) ∷ [])
unfolding used
with-middle n m s a b g bs e =
    ap outline (alone-parts g n bs e (omega arith)
    ∙ (ap (λ (x : ℕ). lay_rest x n r (first g bs)) s
    ∙ (rest_more (suc m) n r (first g bs) (omega (arith, length-drop 126592 bs, opened o))
    ∙ rest-same m n (drop 126592 r) (complete (put (part (first g bs) Middle (take 126592 r)) (first g bs)))
    (omega (arith, length-drop 126592 bs, length-drop 126592 r, opened (put (part (first g bs) Middle (take 126592 r)) (first g bs)))))))
    ∙ (ap₂ (λ (x y : ℕ). ((Start, x) ∷ (Skip, 126632 - (x + 0)) ∷ []) ∷ ((Middle, y) ∷ (Skip, 126632 - (y + 0)) ∷ []) ∷ ((Last, length (drop 126592 r)) ∷ (Total, n) ∷ (Skip, 126632 - (length (drop 126592 r) + 0)) ∷ []) ∷ [])
    (length-take 126592 bs ∙ omega arith) (length-take 126592 r ∙ omega (arith, length-drop 126592 bs))
    ∙ ap (λ (z : ℕ). ((Start, 126592) ∷ (Skip, 40) ∷ []) ∷ ((Middle, 126592) ∷ (Skip, 40) ∷ []) ∷ ((Last, z) ∷ (Total, n) ∷ (Skip, 126632 - (z + 0)) ∷ []) ∷ [])
    (length-drop 126592 r ∙ omega (arith, length-drop 126592 bs)))
  where
    o : Recording
    o = put (part (made g) Start (take 126592 bs)) (made g)

    r : List ℕ
    r = drop 126592 bs

pub settled : Settled
settled = record {
  none = none;
  none-bytes = λ g. refl;
  entire' = entire-alone;
  parts = two-groups 126593 126592 refl (omega arith) (omega arith);
  second = two-groups 253180 253179 refl (omega arith) (omega arith);
  third = late-total 253181 253180 refl (omega arith) (omega arith);
  middle' = with-middle 253185 253183 refl (omega arith) (omega arith);
}
