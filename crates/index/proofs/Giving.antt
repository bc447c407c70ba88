-- The answer of a walk for a group is that of walking the group.
use Rattle.std.proofs.Common.{◌≡◌, ℕ, ◌+◌, ◌<◌, Bool, true, false, cond, ◌&&◌, eqb, ltb, leb, List, length, get_or, Ok, Err, Result, sym, refl, ap, ◌∙◌, arith}
use Rattle.std.proofs.lemmas.Bool.{eqb-true, eq-eqb, cond-true}
use Rattle.index.specs.declared.fault.IndexFault.{IndexFault}
use Rattle.index.specs.declared.fault.IndexFault.TheVariants.{GroupNumber, EntryCount, LastByte, TableZeros}
use Rattle.index.specs.declared.fault.GroupFault.{GroupFault}
use Rattle.index.specs.declared.fault.GroupFault.TheVariants.{Index}
use Rattle.index.specs.declared.succession.State.{State}
use Rattle.index.specs.declared.tally.Counts.{Counts}
use Rattle.index.specs.declared.tally.Tally.{Tally}
use Rattle.index.specs.declared.walk.Walk.{Walk}
use Rattle.index.specs.declared.walk.Ending.{Ending}
use Rattle.index.specs.Bytes.{number, read_group}
use Rattle.index.specs.Walk.{Between, walk_group, next}
use Rattle.index.specs.Counted.{group_tallied, table_in, entries_tallied, opened, totals_checked, numbers_of, numbers_in, on_ok}
use Rattle.index.specs.Answers.{standing, state_counts, tally_from, ending, answered, moved_on, standing_after, Gave}
use Rattle.index.proofs.Counting.{agreed}
use Rattle.index.proofs.Grouping.{no-fault}

-- a group that is walked has the number that it should have
pub group-number : (n : ℕ) (s : State) (c : Counts) (g : List ℕ) (u : Tally) → group_tallied n s c g ≡ Ok u → number 2 126600 g ≡ n
unfolding group_tallied
group-number n s c g u = go (eqb (number 2 126600 g) n) refl
  where
    k : ℕ
    k = number 2 126602 g

    go : (a : Bool) → eqb (number 2 126600 g) n ≡ a
        → next {A = Unit {0}} (cond a (cond (ltb 0 k && leb k 31650) (cond (ltb (get_or g 126616 0) 2) (cond (table_in g).zeros (Ok tt) (Err TableZeros)) (Err LastByte)) (Err EntryCount)) (Err GroupNumber)) (λ v. next (entries_tallied (opened s c) g) (λ t. totals_checked (table_in g) t)) ≡ Ok u
        → number 2 126600 g ≡ n
    go true h e = eqb-true (number 2 126600 g) n h
    go false h e = no-fault GroupNumber u e

-- two bytes are below 65,536
pub number-below : (g : List ℕ) (i : ℕ) → ((k : ℕ) → get_or g k 0 < 256) → number 2 i g < 65536
unfolding number
number-below g i h = omega (arith, h (i + 0), h (i + 1))

pub gave : (w : Walk) (g : List ℕ) (r : Result Ending GroupFault) (s : ℕ × State × Counts) → r ≡ answered w g → s ≡ standing_after w g
    → (b : Between) → numbers_of b ≡ state_counts (standing w) → length g ≡ 126632 → Gave (get_or g 126616 0) r (state_counts s) (walk_group w.number b (read_group g))
gave w g r s p q b f l = go (walk_group w.number b (read_group g)) (tally_from w g)
    (agreed w.number b g ∙ ap (λ (x : State × Counts). on_ok numbers_in (group_tallied w.number x.0 x.1 g)) f)
    (p ∙ cond-true _ _ _ (eq-eqb (length g) 126632 l)) (q ∙ cond-true _ _ _ (eq-eqb (length g) 126632 l))
  where
    same : (x y : State × Counts) → ◌≡◌ {A = Result (State × Counts) IndexFault} (Ok x) (Ok y) → x ≡ y
    same x y e = cc

    fault : (x y : IndexFault) → ◌≡◌ {A = Result (State × Counts) IndexFault} (Err x) (Err y) → y ≡ x
    fault x y e = cc

    go : (x : Result Between IndexFault) (y : Result Tally IndexFault) → on_ok numbers_of x ≡ on_ok numbers_in y
        → r ≡ ending (get_or g 126616 0) y → s ≡ moved_on (standing w) y → Gave (get_or g 126616 0) r (state_counts s) x
    go (Ok c) (Ok t) e h k = (h, same (numbers_of c) (numbers_in t) e ∙ sym (ap state_counts k))
    go (Ok c) (Err y) e h k = no-fault y (numbers_of c) (sym e)
    go (Err x) (Ok t) e h k = no-fault x (numbers_in t) e
    go (Err x) (Err y) e h k = h ∙ ap (λ (z : IndexFault). Err (Index z)) (fault x y e)
