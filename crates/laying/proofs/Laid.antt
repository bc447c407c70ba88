-- What a recording lays, as steps: an entry put, a group completed, a warning.
use Rattle.std.proofs.Common.{◌≡◌, ℕ, suc, ◌+◌, ◌-◌, ◌*◌, ◌<◌, ◌≤◌, true, ◌&&◌, eqb, List, [], ◌∷◌, ◌++◌, length, sym, refl, ap, ◌∙◌, add-zero, arith}
use Rattle.std.proofs.lemmas.List.{append-nil, append_assoc}
use Rattle.std.specs.List.{AllByRecursion}
use Rattle.index.specs.declared.kind.Kind.TheVariants.{Skip}
use Rattle.index.specs.Entries.{Entry, Item, Group, used, marks, Numbered}
use Rattle.index.specs.Walk.{Position, Position.idle, walk, walk_groups, closes, skipped, after, gives, of_kind}
use Rattle.index.proofs.Growing.{finishes-few, cond-few}
use Rattle.laying.specs.Lay.{Recording, current, entry, put, stored, complete}
use Rattle.laying.specs.Calls.{made, warning}
use Rattle.index.specs.Bytes.{Sound, Whole}
use Rattle.index.proofs.Walks.{used-snoc, length-snoc}
use Rattle.laying.proofs.Lays.{Inv, Fits, put_inv, complete-inv}

pub data Laid : Recording → Position → List Item → Type 0 where
  fresh : (g : ℕ) → Laid (made g) idle []
  putting : {s : Recording} {st : Position} {l : List Item} (p : Entry) → Laid s st l → Fits st p → Sound p
      → used s.open' + length p.bytes + 4 * suc (length s.open') ≤ 126596 → Laid (put p s) (after st p) (l ++ gives st p)
  completing : {s : Recording} {st : Position} {l : List Item} → Laid s st l → closes st Skip ≡ true → Laid (complete s) (skipped st) l
  warns : {s : Recording} {st : Position} {l : List Item} → Laid s st l → Laid (warning s) st l

fresh-inv : (g : ℕ) → Inv (made g) idle []
unfolding walk walk_groups used of_kind
fresh-inv g = record
    { before = record { position = idle; items = [] }; groups = refl; here = λ limit m. refl; fits = omega arith; items = refl; ones = refl; twos = refl }

warn-inv : (s : Recording) (st : Position) (l : List Item) → Inv s st l → Inv (warning s) st l
warn-inv s st l i = record
    { before = i.before; groups = i.groups; here = i.here; fits = i.fits; items = i.items; ones = i.ones; twos = i.twos }

pub laid-inv : {s : Recording} {st : Position} {l : List Item} → Laid s st l → Inv s st l
laid-inv (fresh g) = fresh-inv g
laid-inv (putting {s = s} {st = st} {l = l} p i f o h) = put_inv s st l p (laid-inv i) f h
laid-inv (completing {s = s} {st = st} {l = l} i c) = complete-inv s st l (laid-inv i) c
laid-inv (warns {s = s} {st = st} {l = l} i) = warn-inv s st l (laid-inv i)

pub laid-fits : {s : Recording} {st : Position} {l : List Item} → Laid s st l → used s.open' + 4 * length s.open' ≤ 126596
laid-fits i = (laid-inv i).fits

pub laid-warned : {s : Recording} {st : Position} {l : List Item} → Laid s st l → s.warned < 2
laid-warned (fresh g) = omega arith
laid-warned (putting p i f o h) = laid-warned i
laid-warned (completing i c) = laid-warned i
laid-warned (warns i) = omega arith

-- ---- groups that bytes hold

pub all_snoc : {A : Type 0} (P : A → Type 0) (xs : List A) (x : A) → AllByRecursion P xs → P x → AllByRecursion P (xs ++ (x ∷ []))
all_snoc P [] x a h = (h, tt)
all_snoc P (y ∷ xs) x a h = (a.0, all_snoc P xs x a.1 h)

pub laid-sound : {s : Recording} {st : Position} {l : List Item} → Laid s st l → AllByRecursion Sound s.open'
laid-sound (fresh g) = tt
laid-sound (putting {s = s} p i f o h) = all_snoc Sound s.open' p (laid-sound i) o
laid-sound (completing i c) = tt
laid-sound (warns i) = laid-sound i

-- an item takes an entry, and a group has 31,649 at most
pub record Few (s : Recording) : Type 0 where
  pub items : s.items ≤ 31649 * length s.done + length s.open'
  pub ones : s.ones ≤ 31649 * length s.done + length s.open'
  pub twos : s.twos ≤ 31649 * length s.done + length s.open'

few-put : (s : Recording) (p : Entry) → Few s → Few (put p s)
few-put s p f =
    let n = length-snoc s.open' p in
    let a = finishes-few p.kind in
    let b = cond-few (marks p.kind && eqb p.count 0) in
    let c = cond-few (marks p.kind && eqb p.count 1) in
    record { items = omega arith; ones = omega arith; twos = omega arith }

few-complete : (s : Recording) → used s.open' + 4 * length s.open' ≤ 126596 → Few s → Few (complete s)
few-complete s h f =
    let n = length-snoc s.done (stored 0 s) in
    record { items = omega arith; ones = omega arith; twos = omega arith }

few-warn : (s : Recording) → Few s → Few (warning s)
few-warn s f = record { items = f.items; ones = f.ones; twos = f.twos }

pub laid-few : {s : Recording} {st : Position} {l : List Item} → Laid s st l → Few s
laid-few (fresh g) = record { items = omega arith; ones = omega arith; twos = omega arith }
laid-few (putting {s = s} p i f o h) = few-put s p (laid-few i)
laid-few (completing {s = s} i c) = few-complete s (laid-fits i) (laid-few i)
laid-few (warns {s = s} i) = few-warn s (laid-few i)

-- the open group, stored
pub stored-whole : {s : Recording} {st : Position} {l : List Item} (final : ℕ) → final < 256 → Laid s st l → current s < 65536 → Whole (stored final s)
stored-whole {s = s} final fi i h =
    let f = laid-few i in
    let m = laid-fits i in
    let sk : Entry = entry s Skip (126632 - used s.open') [] in
    record {
      number = h;
      items = omega arith;
      ones = omega arith;
      twos = omega arith;
      final = fi;
      padded = refl;
      entries = all_snoc Sound s.open' sk (laid-sound i) (record { known = refl; count = omega arith; warned = laid-warned i; bytes = refl; length' = refl; small = tt });
      fits = omega (arith, used-snoc s.open' sk, length-snoc s.open' sk);
    }

pub laid-whole : {s : Recording} {st : Position} {l : List Item} → Laid s st l → current s ≤ 65536 → AllByRecursion Whole s.done
laid-whole (fresh g) h = tt
laid-whole (putting p i f o b) h = laid-whole i h
laid-whole (completing {s = s} i c) h =
    let n : current s < 65536 = omega (arith, length-snoc s.done (stored 0 s)) in
    all_snoc Whole s.done (stored 0 s) (laid-whole i (omega arith)) (stored-whole 0 (omega arith) i n)
laid-whole (warns i) h = laid-whole i h

pub laid_on : {s : Recording} {st : Position} {l : List Item} → Laid s st l → AllByRecursion (λ (g : Group). g.final ≡ 0) s.done
laid_on (fresh g) = tt
laid_on (putting p i f o b) = laid_on i
laid_on (completing {s = s} i c) = all_snoc (λ (g : Group). g.final ≡ 0) s.done (stored 0 s) (laid_on i) refl
laid_on (warns i) = laid_on i

pub numbered-snoc : (gs : List Group) (g : Group) (n m : ℕ) → Numbered n gs → m ≡ n + length gs → g.number ≡ m → Numbered n (gs ++ (g ∷ []))
numbered-snoc [] g n m h e k = (k ∙ e ∙ add-zero n, tt)
numbered-snoc (x ∷ gs) g n m h e k = (h.0, numbered-snoc gs g (suc n) m h.1 (omega arith) k)

pub laid-numbered : {s : Recording} {st : Position} {l : List Item} → Laid s st l → Numbered 1 s.done
laid-numbered (fresh g) = tt
laid-numbered (putting p i f o b) = laid-numbered i
laid-numbered (completing {s = s} i c) = numbered-snoc s.done (stored 0 s) 1 (current s) (laid-numbered i) (omega arith) refl
laid-numbered (warns i) = laid-numbered i

-- ---- completed groups stay

pub record Grown (s t : Recording) : Type 0 where
  pub new : List Group
  pub is : t.done ≡ s.done ++ new

pub same-grown : (s t : Recording) → t.done ≡ s.done → Grown s t
same-grown s t e = record { new = []; is = e ∙ sym (append-nil s.done) }

pub one-grown : (s t : Recording) (g : Group) → t.done ≡ s.done ++ (g ∷ []) → Grown s t
one-grown s t g e = record { new = g ∷ []; is = e }

pub then-grown : (s t u : Recording) → Grown s t → Grown t u → Grown s u
then-grown s t u a b = record { new = a.new ++ b.new; is = b.is ∙ (ap (λ (x : List Group). x ++ b.new) a.is ∙ append_assoc s.done a.new b.new) }
