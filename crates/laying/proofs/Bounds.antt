-- The bound on the groups that a rest may take does not matter; and the open group is stored as it is completed.
use Rattle.std.proofs.Common.{◌≡◌, zero, suc, ◌+◌, ◌-◌, Bool, true, false, cond, leb, [], length, take, drop, refl, arith, length-drop}
use Rattle.std.proofs.lemmas.Bool.{leb-false}
use Rattle.index.specs.declared.kind.Kind.TheVariants.{Total, Middle, Last}
use Rattle.index.specs.Entries.{used}
use Rattle.laying.specs.Lay.{Recording, free, entry, part, put, complete, lay_rest, BoundFree, StoresOpen}

-- a completed group leaves a new one
pub new-free : (s : Recording) → free (complete s) ≡ 126596
unfolding used
new-free s = refl

pub bound-free : BoundFree
unfolding lay_rest
bound-free zero h n bs s r b f g = absurd (omega arith)
bound-free (suc f) zero n bs s r b p q = absurd (omega arith)
bound-free (suc f) (suc h) n bs s r b p q = go (leb (length bs + 8) (free s)) (leb (length bs + 4) (free s)) refl
    (λ t. let u = leb-false (length bs + 4) (free s) t in let d = length-drop (free s - 4) bs in
    bound-free f h n (drop (free s - 4) bs) (complete (put (part s Middle (take (free s - 4) bs)) s))
    (omega (arith, new-free (put (part s Middle (take (free s - 4) bs)) s))) (omega arith) (omega arith) (omega arith))
  where
    go : (x y : Bool) → leb (length bs + 4) (free s) ≡ y
        → (leb (length bs + 4) (free s) ≡ false → lay_rest f n (drop (free s - 4) bs) (complete (put (part s Middle (take (free s - 4) bs)) s)) ≡ lay_rest h n (drop (free s - 4) bs) (complete (put (part s Middle (take (free s - 4) bs)) s)))
        → cond x (put (entry s Total n []) (put (part s Last bs) s)) (cond y (put (entry s Total n []) (complete (put (part s Last bs) s))) (lay_rest f n (drop (free s - 4) bs) (complete (put (part s Middle (take (free s - 4) bs)) s))))
        ≡ cond x (put (entry s Total n []) (put (part s Last bs) s)) (cond y (put (entry s Total n []) (complete (put (part s Last bs) s))) (lay_rest h n (drop (free s - 4) bs) (complete (put (part s Middle (take (free s - 4) bs)) s))))
    go true y e k = refl
    go false true e k = refl
    go false false e k = k e

pub stores-open : StoresOpen
stores-open final s = refl
