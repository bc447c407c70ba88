-- What an entry adds to a tally.
use Rattle.std.proofs.Common.{◌≡◌, ℕ, ◌+◌, ◌≤◌, Bool, true, false, cond, ◌&&◌, eqb, length, Ok, Err, Result, refl, ap, ◌∙◌, subst, arith}
use Rattle.index.specs.declared.kind.Kind.{Kind}
use Rattle.index.specs.declared.kind.Kind.TheVariants.{Total, Mark, Middle, Start, Last, Entire, Skip, Unknown}
use Rattle.index.specs.declared.fault.IndexFault.{IndexFault}
use Rattle.index.specs.declared.fault.IndexFault.TheVariants.{Flag, Succession, Count}
use Rattle.index.specs.declared.succession.State.{State}
use Rattle.index.specs.declared.succession.State.TheVariants.{Idle, Begun, Inside, Owing, Owed}
use Rattle.index.specs.declared.tally.Tally.{Tally}
use Rattle.index.specs.Entries.{Entry, finishes, marks}
use Rattle.index.specs.Succession.{known, permits, ends, ended, moved, moved_idle, moved_inside, parts_sum, count_fits}
use Rattle.index.specs.Counted.{counted, stepped, closed, Grown}

-- an entry finishes one item at most
pub finishes-few : (k : Kind) → finishes k ≤ 1
finishes-few Total = omega arith
finishes-few Mark = omega arith
finishes-few Middle = omega arith
finishes-few Start = omega arith
finishes-few Last = omega arith
finishes-few Entire = omega arith
finishes-few Skip = omega arith
finishes-few Unknown = omega arith

pub cond-few : (b : Bool) → ◌≤◌ (cond b 1 0) 1
cond-few true = omega arith
cond-few false = omega arith

idle-sum : (k : Kind) (n w : ℕ) → parts_sum (moved_idle k n w) ≤ n
idle-sum Total n w = omega arith
idle-sum Mark n w = omega arith
idle-sum Middle n w = omega arith
idle-sum Start n w = omega arith
idle-sum Last n w = omega arith
idle-sum Entire n w = omega arith
idle-sum Skip n w = omega arith
idle-sum Unknown n w = omega arith

inside-sum : (k : Kind) (n w : ℕ) → parts_sum (moved_inside k n w) ≤ n
inside-sum Total n w = omega arith
inside-sum Mark n w = omega arith
inside-sum Middle n w = omega arith
inside-sum Start n w = omega arith
inside-sum Last n w = omega arith
inside-sum Entire n w = omega arith
inside-sum Skip n w = omega arith
inside-sum Unknown n w = omega arith

moved_sum : (s : State) (k : Kind) (n w : ℕ) → parts_sum (moved s k n w) ≤ parts_sum s + n
moved_sum Idle k n w = omega (arith, idle-sum k n w)
moved_sum (Begun m v) k n w = omega arith
moved_sum (Inside m v) k n w = inside-sum k (m + n) v
moved_sum (Owing m v) k n w = omega arith
moved_sum (Owed m v) k n w = omega arith

pub ended-sum : (s : State) → parts_sum (ended s) ≡ parts_sum s
ended-sum Idle = refl
ended-sum (Begun m v) = refl
ended-sum (Inside m v) = refl
ended-sum (Owing m v) = refl
ended-sum (Owed m v) = refl

pub stepped-grown : (limit i : ℕ) (t u : Tally) (p : Entry) → stepped limit i t p ≡ Ok u → Grown t u (length p.bytes)
stepped-grown limit i t u p = go (known p.kind) (permits t.state p.kind) (count_fits limit t.used (parts_sum t.state) p.count p.kind)
  where
    v : Tally
    v = record { state = moved t.state p.kind (length p.bytes) p.warned; used = t.used + length p.bytes; counts = counted t.counts p.kind p.count }

    grown : Grown t v (length p.bytes)
    grown =
        let a = finishes-few p.kind in
        let b = cond-few (marks p.kind && eqb p.count 0) in
        let c = cond-few (marks p.kind && eqb p.count 1) in
        record { sum = moved_sum t.state p.kind (length p.bytes) p.warned; used = refl; items = omega arith; ones = omega arith; twos = omega arith }

    bad : (x : IndexFault) → ◌≡◌ {A = Result Tally IndexFault} (Err x) (Ok u) → Grown t u (length p.bytes)
    bad x e = let z : ◌≡◌ {A = ℕ} 0 1 = cc in absurd (omega arith)

    same : (x : Tally) → ◌≡◌ {A = Result Tally IndexFault} (Ok x) (Ok u) → x ≡ u
    same x e = cc

    go : (a b c : Bool) → cond a (cond b (cond c (Ok v) (Err (Count i))) (Err (Succession i))) (Err (Flag i)) ≡ Ok u → Grown t u (length p.bytes)
    go false b c e = bad (Flag i) e
    go true false c e = bad (Succession i) e
    go true true false e = bad (Count i) e
    go true true true e = subst (λ (x : Tally). Grown t x (length p.bytes)) (same v e) grown

pub closed-kept : (limit i : ℕ) (t u : Tally) (p : Entry) → closed limit i t p ≡ Ok u → (parts_sum u.state ≡ parts_sum t.state) × (u.counts ≡ t.counts)
closed-kept limit i t u p = go (known p.kind) (ends t.state p.kind) (count_fits limit t.used (parts_sum t.state) p.count p.kind)
  where
    v : Tally
    v = record { state = ended t.state; used = t.used; counts = t.counts }

    bad : (x : IndexFault) → ◌≡◌ {A = Result Tally IndexFault} (Err x) (Ok u) → (parts_sum u.state ≡ parts_sum t.state) × (u.counts ≡ t.counts)
    bad x e = let z : ◌≡◌ {A = ℕ} 0 1 = cc in absurd (omega arith)

    same : (x : Tally) → ◌≡◌ {A = Result Tally IndexFault} (Ok x) (Ok u) → u ≡ x
    same x e = cc

    go : (a b c : Bool) → cond a (cond b (cond c (Ok v) (Err (Count i))) (Err (Succession i))) (Err (Flag i)) ≡ Ok u
        → (parts_sum u.state ≡ parts_sum t.state) × (u.counts ≡ t.counts)
    go false b c e = bad (Flag i) e
    go true false c e = bad (Succession i) e
    go true true false e = bad (Count i) e
    go true true true e =
        (ap (λ (x : Tally). parts_sum x.state) (same v e) ∙ ended-sum t.state, ap (λ (x : Tally). x.counts) (same v e))
