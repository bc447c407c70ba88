-- Filling gives the one word that checks, if there is one.
use Rattle.std.proofs.Common.{◌≡◌, ℕ, zero, suc, ◌<◌, ◌≤◌, Bool, true, false, cond, eqb, ◌≢◌, ◌⊎◌, List, [], ◌∷◌, length, get_or, set, Some, None, Option, sym, refl, ap, ◌∙◌, subst, inl, inr, le_of_suc-le-suc, not-suc-le-zero, eq-or-lt_of_le, arith, length-set, get_or-set_other, get_or-set_same}
use native.Mathlib.Decide.{ℕ_discrete}
use Rattle.std.specs.List.{AllByRecursion}
use Rattle.std.proofs.lemmas.List.{ext_get_or}
use Rattle.std.proofs.ByRecursion.{All-set}
use Rattle.std.proofs.lemmas.Bool.{eqb-true, eq-eqb, cond-true}
use Rattle.reed_solomon.specs.Words.{syndrome, Checks, Bytes, Places, Off}
use Rattle.reed_solomon.proofs.Distance.{distance}
use Rattle.reed_solomon.proofs.Patches.{byte-at}
use Rattle.layout.specs.Reading.{checks, or_else, any_of, filling, FillingLaw}
use Rattle.layout.proofs.Counts.{every-at, every-from}

pub checks-true : (r : ℕ) (b : List ℕ) → checks r b ≡ true → Checks r b
unfolding checks
checks-true r b t e h = eqb-true (syndrome e b) 0 (every-at (λ e. eqb (syndrome e b) 0) r t e h)

pub checks-from : (r : ℕ) (b : List ℕ) → Checks r b → checks r b ≡ true
unfolding checks
checks-from r b h = every-from (λ e. eqb (syndrome e b) 0) r (λ e l. eq-eqb (syndrome e b) 0 (h e l))

none-some : {X A : Type 0} (x : X) → None ≡ Some x → A
none-some x e = let z : ◌≡◌ {A = ℕ} 0 1 = cc in absurd (omega arith)

module _ {X : Type 0} (f : ℕ → Option X) where
  any_some : (n : ℕ) (x : X) → any_of f n ≡ Some x → (k : ℕ) × (k < n) × (f k ≡ Some x)
  unfolding any_of
  any_some zero x e = none-some x e
  any_some (suc n) x e = go (f n) refl e (any_some n x)
    where
      go : (o : Option X) → f n ≡ o → or_else o (any_of f n) ≡ Some x → (any_of f n ≡ Some x → (k : ℕ) × (k < n) × (f k ≡ Some x)) → (k : ℕ) × (k < suc n) × (f k ≡ Some x)
      go None i e ih = let r = ih e in (r.0, omega (arith, r.1), r.2)
      go (Some y) i e ih = (n, omega arith, i ∙ e)

  any-hit : (n k : ℕ) (x : X) → k < n → f k ≡ Some x → (y : X) × (any_of f n ≡ Some y)
  unfolding any_of
  any-hit zero k x h e = absurd (not-suc-le-zero h)
  any-hit (suc n) k x h e = go (f n) refl (eq-or-lt_of_le (le_of_suc-le-suc h)) (λ l. any-hit n k x l e)
    where
      go : (o : Option X) → f n ≡ o → (k ≡ n) ⊎ (k < n) → (k < n → (y : X) × (any_of f n ≡ Some y)) → (y : X) × (or_else o (any_of f n) ≡ Some y)
      go (Some y) i c ih = (y, refl)
      go None i (inl p) ih = none-some x (sym i ∙ ap f (sym p) ∙ e)
      go None i (inr l) ih = ih l

-- b with any byte at p, and then off at ps
wider : (p v : ℕ) (ps b u : List ℕ) → Off ps (set b p v) u → Off (p ∷ ps) b u
wider p v ps b u o = record {
  size = sym (length-set b p v) ∙ o.size;
  same = λ k h a. sym (get_or-set_other b p k v 0 a.0) ∙ o.same k (subst (λ n. k < n) (sym (length-set b p v)) h) a.1;
}

narrower : (p : ℕ) (ps b u : List ℕ) → p < length b → Off (p ∷ ps) b u → Off ps (set b p (get_or u p 0)) u
narrower p ps b u hp o = record { size = length-set b p (get_or u p 0) ∙ o.size; same = agree }
  where
    agree : (k : ℕ) → k < length (set b p (get_or u p 0)) → AllByRecursion (λ q. k ≢ q) ps → get_or (set b p (get_or u p 0)) k 0 ≡ get_or u k 0
    agree k h a = go (ℕ_discrete k p)
      where
        go : Dec (k ≡ p) → get_or (set b p (get_or u p 0)) k 0 ≡ get_or u k 0
        go (yes e) = ap (λ i. get_or (set b p (get_or u p 0)) i 0) e ∙ get_or-set_same b p (get_or u p 0) 0 hp ∙ ap (λ i. get_or u i 0) (sym e)
        go (no n) = get_or-set_other b p k (get_or u p 0) 0 n ∙ o.same k (subst (λ m. k < m) (length-set b p (get_or u p 0)) h) (n, a)

pub sound : (r : ℕ) (ps b u : List ℕ) → Bytes b → filling r ps b ≡ Some u → Bytes u × Off ps b u × Checks r u
unfolding filling
sound r [] b u hb e = go (checks r b) refl e
  where
    go : (t : Bool) → checks r b ≡ t → cond t (Some b) None ≡ Some u → Bytes u × Off [] b u × Checks r u
    go true i e =
        let s : b ≡ u = cc in
        (subst Bytes s hb, subst (λ z. Off [] b z) s (record { size = refl; same = λ k h a. refl }), subst (Checks r) s (checks-true r b i))
    go false i e = none-some u e
sound r (p ∷ ps) b u hb e =
    let k = any_some (λ v. filling r ps (set b p v)) 256 u e in
    let s = sound r ps (set b p k.0) u (All-set (λ x. x < 256) b p k.0 k.1 hb) k.2 in
    (s.0, wider p k.0 ps b u s.1, s.2)

pub complete : (r : ℕ) (ps b u : List ℕ) → AllByRecursion (λ p. p < length b) ps → Bytes u → Off ps b u → Checks r u → (y : List ℕ) × (filling r ps b ≡ Some y)
unfolding filling
complete r [] b u w hu o ch =
    let s : u ≡ b = sym (ext_get_or 0 b u o.size (λ k h. o.same k h tt)) in
    (b, cond-true (checks r b) (Some b) None (checks-from r b (subst (Checks r) s ch)))
complete r (p ∷ ps) b u w hu o ch =
    let v : ℕ = get_or u p 0 in
    let y = complete r ps (set b p v) u (subst (λ n. AllByRecursion (λ q. q < n) ps) (sym (length-set b p v)) w.1) hu (narrower p ps b u w.0 o) ch in
    any-hit (λ v. filling r ps (set b p v)) 256 v y.0 (byte-at u hu p) y.1

-- two words off b at the same places are off each other there
across : (ps b y u : List ℕ) → Off ps b y → Off ps b u → Off ps y u
across ps b y u p q = record {
  size = sym p.size ∙ q.size;
  same = λ k h a. let l : k < length b = subst (λ n. k < n) (sym p.size) h in sym (p.same k l a) ∙ q.same k l a;
}

pub fills : (r : ℕ) (ps b u : List ℕ) → length b ≤ 255 → Bytes b → Places (length b) ps → length ps ≤ r → Bytes u → Off ps b u → Checks r u → filling r ps b ≡ Some u
fills r ps b u n hb pl few hu o ch =
    let y = complete r ps b u pl.within hu o ch in
    let s = sound r ps b y.0 hb y.1 in
    let same : y.0 ≡ u =
    distance r ps y.0 u (subst (λ k. k ≤ 255) s.1.size n) s.0 hu (subst (λ k. Places k ps) s.1.size pl) few (across ps b y.0 u s.1 o) s.2 ch in
    y.1 ∙ ap Some same

pub filling-law : FillingLaw
filling-law r ps b u n hb pl few = (sound r ps b u hb, fills r ps b u n hb pl few)
