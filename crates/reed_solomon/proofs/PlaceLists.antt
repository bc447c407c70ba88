-- Lists of places, by their indices.
use Rattle.std.proofs.Common.{◌≡◌, ℕ, zero, suc, ◌<◌, ◌≤◌, Bool, true, false, T, eqb, ◌≢◌, List, [], ◌∷◌, length, get_or, take, Decides, MatchBool, HoldsAt, refl, sym, ◌∙◌, subst, inl, inr, zero-add, arith}
use Rattle.std.specs.List.{AllByRecursion, AllWithin, IsDistinct, list_any, enumerate_from}
use Rattle.std.proofs.ByRecursion.{All-get_or, All-from_get_or}
use Rattle.std.proofs.lemmas.Bool.{both_ways, false≢true, eqb-true, eq-eqb, ne_eqb, or_cases}
use Rattle.std.proofs.lemmas.List.{get_or-take, get_or_default, length-take-le}
use Rattle.std.proofs.lemmas.List.Folds.{list_any_at, Any-from_list_any}
use Rattle.std.proofs.lemmas.List.FromFn.{length-enumerate_from, get_or-enumerate_from}
use Rattle.std.proofs.lemmas.Map.Steps.{length-le_from_distinct_below}
use Rattle.reed_solomon.specs.Words.{Within, Distinct}

pub refuted : {P : Type 0} → (P → ⊥) → Decides false P
refuted f = (λ e. absurd (subst T (sym e) tt), λ p. absurd (f p))

pub distinct-at : (ps : List ℕ) → Distinct ps → (j k : ℕ) → j < k → k < length ps → get_or ps j 0 ≢ get_or ps k 0
distinct-at [] d j k h l = absurd (omega arith)
distinct-at (p ∷ ps) d j zero h l = absurd (omega arith)
distinct-at (p ∷ ps) d zero (suc k) h l = λ e. All-get_or (λ q. q ≢ p) ps k 0 (omega arith) d.0 (sym e)
distinct-at (p ∷ ps) d (suc j) (suc k) h l = distinct-at ps d.1 j k (omega arith) (omega arith)

pub distinct_from : (ps : List ℕ) → ((j k : ℕ) → j < k → k < length ps → get_or ps j 0 ≢ get_or ps k 0) → Distinct ps
distinct_from [] h = tt
distinct_from (p ∷ ps) h = (
  All-from_get_or (λ q. q ≢ p) ps 0 (λ k l e. h 0 (suc k) (omega arith) (omega arith) (sym e)),
  distinct_from ps (λ j k l m. h (suc j) (suc k) (omega arith) (omega arith)),
)

-- ---- no place among those before it

-- whether p is among the first i places
abbrev pub is_before : List ℕ → ℕ → ℕ → Bool
is_before ps i p = list_any (λ q. eqb q p) (take i ps)

before-at : (ps : List ℕ) (j k : ℕ) → j < k → k < length ps → get_or ps j 0 ≡ get_or ps k 0 → is_before ps k (get_or ps k 0) ≡ true
before-at ps j k h l e =
    let n : length (take k ps) ≡ k = length-take-le k ps (omega arith) in
    list_any_at (λ q. eqb q (get_or ps k 0)) (take k ps) j 0 (omega arith) (eq-eqb _ _ (get_or-take k ps j 0 h ∙ e))

not-before : (ps : List ℕ) (k : ℕ) → Distinct ps → k < length ps → is_before ps k (get_or ps k 0) ≡ true → ⊥
not-before ps k d l t =
    let w = Any-from_list_any (λ q. eqb q (get_or ps k 0)) (take k ps) t in
    let n : length (take k ps) ≡ k = length-take-le k ps (omega arith) in
    let h : w.0 < k = omega (arith, w.2) in
    let same : get_or ps w.0 0 ≡ w.1 = get_or_default ps w.0 0 w.1 (omega arith) ∙ sym (get_or-take k ps w.0 w.1 h) ∙ w.3 in
    distinct-at ps d w.0 k h l (same ∙ eqb-true w.1 (get_or ps k 0) w.4)

-- what `all` said of the places with their indices
pub decides-distinct : (ps : List ℕ) (r : Bool)
    → MatchBool r (AllWithin (λ (q : ℕ × ℕ). is_before ps q.0 q.1 ≡ false) (enumerate_from 0 ps) 0 (length (enumerate_from 0 ps)))
    ((k : ℕ) × (k < length (enumerate_from 0 ps)) × HoldsAt (λ (q : ℕ × ℕ). is_before ps q.0 q.1 ≡ true) (enumerate_from 0 ps) k)
    → Decides r (Distinct ps)
decides-distinct ps true h = (
  λ _. distinct_from ps
      (λ j k l m e.
      let n : length (enumerate_from 0 ps) ≡ length ps = length-enumerate_from 0 ps in
      both_ways _ (subst (λ (q : ℕ × ℕ). is_before ps q.0 q.1 ≡ false) (get_or-enumerate_from 0 ps k (0, 0) m) (h k (0, 0) (omega arith) (omega arith)))
      (subst (λ i. is_before ps i (get_or ps k 0) ≡ true) (sym (zero-add k)) (before-at ps j k l m e))),
  λ _. refl,
)
decides-distinct ps false h =
    refuted (λ d.
    let n : length (enumerate_from 0 ps) ≡ length ps = length-enumerate_from 0 ps in
    let k : ℕ = h.0 in
    let l : k < length ps = omega (arith, h.1) in
    not-before ps k d l (subst (λ i. is_before ps i (get_or ps k 0) ≡ true) (zero-add k) (subst (λ (q : ℕ × ℕ). is_before ps q.0 q.1 ≡ true) (get_or-enumerate_from 0 ps k (0, 0) l) (h.2 (0, 0)))))

-- ---- at most n different places below n

is-distinct : (ps : List ℕ) → Distinct ps → IsDistinct eqb ps
unfolding IsDistinct
is-distinct [] d = tt
is-distinct (p ∷ ps) d = (others ps d.0, is-distinct ps d.1)
  where
    others : (qs : List ℕ) → AllByRecursion (λ q. q ≢ p) qs → AllByRecursion (λ q. eqb p q ≡ false) qs
    others [] a = tt
    others (q ∷ qs) a = (ne_eqb p q (λ e. a.0 (sym e)), others qs a.1)

within-at : (n q : ℕ) (ps : List ℕ) → Within n ps → list_any (eqb q) ps ≡ true → q < n
within-at n q [] w t = absurd (false≢true t)
within-at n q (p ∷ ps) w t =
    elim (or_cases (eqb q p) (list_any (eqb q) ps) t) [
      | inl e ↦ subst (λ m. m < n) (sym (eqb-true q p e)) w.0
      | inr e ↦ within-at n q ps w.1 e
    ]

pub few-places : (n : ℕ) (ps : List ℕ) → Within n ps → Distinct ps → length ps ≤ n
few-places n ps w d = length-le_from_distinct_below ps n (is-distinct ps d) (λ q. within-at n q ps w)
