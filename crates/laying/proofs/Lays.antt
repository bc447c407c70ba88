-- Putting an entry and completing a group keep what a walk gives.
use Rattle.std.proofs.Common.{◌≡◌, ℕ, suc, ◌+◌, ◌-◌, ◌*◌, ◌<◌, ◌≤◌, true, false, cond, ◌&&◌, eqb, List, [], ◌∷◌, ◌++◌, length, Ok, Result, sym, refl, ap, ◌∙◌, arith}
use Rattle.std.proofs.lemmas.Bool.{eq-eqb, lt-ltb, le-leb, cond-true, cond-false, and_from}
use Rattle.index.specs.declared.kind.Kind.TheVariants.{Skip}
use Rattle.index.specs.Entries.{Entry, Item, used, finishes, marks}
use Rattle.index.specs.declared.fault.IndexFault.{IndexFault}
use Rattle.index.specs.Succession.{known}
use Rattle.index.specs.Walk.{Position, Position.idle, Walk, Between, allowed, closes, skipped, counts, after, gives, next, walk, of_kind, summed, state_of, left_open, walk_group, walk_groups}
use Rattle.laying.specs.Lay.{Recording, current, entry, put, stored, complete}
use Rattle.index.proofs.Walks.{used-snoc, length-snoc, walk-snoc, whole-snoc, groups-snoc, step_ok}

-- walking what is laid gives the items l and stands at st
pub record Inv (s : Recording) (st : Position) (l : List Item) : Type 0 where
  pub before : Between
  pub groups : walk_groups 1 (record { position = idle; items = [] }) s.done ≡ Ok before
  pub here : (limit : ℕ) → used s.open' ≤ limit
      → walk limit 1 (record { position = before.position; used = 0; items = before.items }) s.open' ≡ Ok (record { position = st; used = used s.open'; items = l })
  pub fits : used s.open' + 4 * length s.open' ≤ 126596
  pub items : s.items ≡ length l
  pub ones : s.ones ≡ of_kind 1 l
  pub twos : s.twos ≡ of_kind 2 l

-- an entry that may be put where a walk stands at st
pub record Fits (st : Position) (p : Entry) : Type 0 where
  pub known' : known p.kind ≡ true
  pub allowed' : allowed st p.kind ≡ true
  pub counted : (at limit : ℕ) → at + length p.bytes ≤ limit → counts limit at st p ≡ true
  pub items : (l : List Item) → length (l ++ gives st p) ≡ length l + finishes p.kind
  pub ones : (l : List Item) → of_kind 1 (l ++ gives st p) ≡ of_kind 1 l + cond (marks p.kind && eqb p.count 0) 1 0
  pub twos : (l : List Item) → of_kind 2 (l ++ gives st p) ≡ of_kind 2 l + cond (marks p.kind && eqb p.count 1) 1 0

pub put_inv : (s : Recording) (st : Position) (l : List Item) (p : Entry) → Inv s st l → Fits st p
    → used s.open' + length p.bytes + 4 * suc (length s.open') ≤ 126596 → Inv (put p s) (after st p) (l ++ gives st p)
put_inv s st l p i f h = record {
  before = i.before;
  groups = i.groups;
  here = λ limit m. walk-snoc s.open' p limit 1 _ (record { position = st; used = used s.open'; items = l }) _ (i.here limit (omega (arith, used-snoc s.open' p)))
      (λ j. step_ok limit j (record { position = st; used = used s.open'; items = l }) p f.known' f.allowed' (f.counted (used s.open') limit (omega (arith, used-snoc s.open' p)))
      ∙ ap (λ (x : ℕ). Ok (record { position = after st p; used = x; items = l ++ gives st p })) (sym (used-snoc s.open' p)));
  fits = omega (arith, used-snoc s.open' p, length-snoc s.open' p);
  items = omega (arith, f.items l);
  ones = omega (arith, f.ones l);
  twos = omega (arith, f.twos l);
}

-- a group that is stored, walked whole
pub stored-walks : (s : Recording) (st : Position) (l : List Item) (final : ℕ) → final < 2 → (i : Inv s st l) → closes st Skip ≡ true → left_open final (state_of (skipped st)) ≡ false
    → walk_group (current s) i.before (stored final s) ≡ Ok (record { position = skipped st; items = l })
unfolding walk_group
stored-walks s st l final b i c o =
    cond-true _ _ _ (eq-eqb (current s) (current s) refl)
    ∙ (cond-true _ _ _ (and_from _ _ (lt-ltb 0 k (omega (arith, n))) (le-leb k 31650 (omega (arith, n))))
    ∙ (cond-true _ _ _ (lt-ltb final 2 b)
    ∙ (ap (λ (r : Result Walk IndexFault). next r (λ w. summed (stored final s) w))
    (whole-snoc s.open' sk lim 1 _ w _ (i.here lim (omega (arith, n)))
    (λ j. cond-true (closes st Skip) _ _ c ∙ cond-true _ _ _ (eq-eqb (126632 - used s.open') _ refl)))
    ∙ cond-true _ _ _ (and_from _ _ (eq-eqb _ _ i.items) (and_from _ _ (eq-eqb _ _ i.ones) (eq-eqb _ _ i.twos)))
    ∙ cond-false _ _ _ o)))
  where
    sk : Entry
    sk = entry s Skip (126632 - used s.open') []

    k : ℕ
    k = length (s.open' ++ (sk ∷ []))

    n : k ≡ suc (length s.open')
    n = length-snoc s.open' sk

    lim : ℕ
    lim = 126600 - 4 * k

    w : Walk
    w = record { position = st; used = used s.open'; items = l }

pub complete-inv : (s : Recording) (st : Position) (l : List Item) → Inv s st l → closes st Skip ≡ true → Inv (complete s) (skipped st) l
unfolding walk used
complete-inv s st l i c = record {
  before = record { position = skipped st; items = l };
  groups = groups-snoc s.done (stored 0 s) 1 (current s) _ i.before _ (omega arith) i.groups (stored-walks s st l 0 (omega arith) i c refl);
  here = λ limit m. refl;
  fits = omega arith;
  items = i.items;
  ones = i.ones;
  twos = i.twos;
}
