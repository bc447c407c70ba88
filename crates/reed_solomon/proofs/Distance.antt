-- Words that check: filling is unique, and possible at as many places as there are checks.
use Rattle.std.proofs.Common.{◌≡◌, ℕ, ◌-◌, ◌<◌, ◌≤◌, ◌≢◌, List, [], ◌∷◌, map, length, get_or, set, sym, refl, ap, ◌∙◌, subst, ap₂, arith, length-set, get_or-set_other, get_or-set_same}
use native.Mathlib.Decide.{ℕ_discrete, dec_lt}
use lib.Bits.{bit_xor, xor_lt, xor_self, xor_zero_r, xor_assoc}
use lib.Seq.{set-get_or}
use Rattle.std.specs.List.{AllByRecursion}
use Rattle.std.proofs.lemmas.List.{ext_get_or, length-map}
use Rattle.galois.specs.Galois.{alpha}
use Rattle.reed_solomon.specs.Steps.{vsum, patch}
use Rattle.reed_solomon.specs.Words.{syndrome, Bytes, Within, Distinct, Places, Off, Filled, Distance, Unique, Fillable}
use Rattle.galois.proofs.Laws.{xor_same}
use Rattle.reed_solomon.proofs.Sums.{syn-lt}
use Rattle.reed_solomon.proofs.Vandermonde.{none, solution}
use Rattle.reed_solomon.proofs.Patches.{weight, distinct-weights, bytes-weights, byte-at, syn-patch, patch-off, patch-bytes}

-- ---- a word as another with their differences added

difference : List ℕ → List ℕ → ℕ → ℕ
difference u v p = bit_xor (get_or u p 0) (get_or v p 0)

-- the first place written as v has it: one place less
module _ (p : ℕ) (ps u v : List ℕ) (off : Off (p ∷ ps) u v) (hp : p < length u) where
  closer : Off ps (set u p (get_or v p 0)) v
  closer = record { size = length-set u p (get_or v p 0) ∙ off.size; same = agree }
    where
      agree : (k : ℕ) → k < length (set u p (get_or v p 0)) → AllByRecursion (λ q. k ≢ q) ps → get_or (set u p (get_or v p 0)) k 0 ≡ get_or v k 0
      agree k h a = go (ℕ_discrete k p)
        where
          go : Dec (k ≡ p) → get_or (set u p (get_or v p 0)) k 0 ≡ get_or v k 0
          go (yes e) = subst (λ j. get_or (set u p (get_or v p 0)) j 0 ≡ get_or v j 0) (sym e) (get_or-set_same u p (get_or v p 0) 0 hp)
          go (no n) = get_or-set_other u p k (get_or v p 0) 0 n ∙ off.same k (subst (λ m. k < m) (length-set u p (get_or v p 0)) h) (n, a)

  same-differences : (qs : List ℕ) → AllByRecursion (λ q. q ≢ p) qs → map (difference (set u p (get_or v p 0)) v) qs ≡ map (difference u v) qs
  unfolding difference
  same-differences [] a = refl
  same-differences (q ∷ qs) a = ap₂ (λ x xs. bit_xor x (get_or v q 0) ∷ xs) (get_or-set_other u p q (get_or v p 0) 0 a.0) (same-differences qs a.1)

patched : (ps u v : List ℕ) → Within (length u) ps → Distinct ps → Off ps u v → patch u ps (map (difference u v) ps) ≡ v
unfolding patch difference
patched [] u v w d off = ext_get_or 0 u v off.size (λ k h. off.same k h tt)
patched (p ∷ ps) u v w d off =
    let u' : List ℕ = set u p (get_or v p 0) in
    let here : bit_xor (get_or u p 0) (difference u v p) ≡ get_or v p 0 =
    sym (xor_assoc (get_or u p 0) (get_or u p 0) (get_or v p 0)) ∙ ap (λ z. bit_xor z (get_or v p 0)) (xor_self (get_or u p 0)) in
    ap (λ z. patch (set u p z) ps (map (difference u v) ps)) here
    ∙ ap (patch u' ps) (sym (same-differences p ps u v off w.0 ps d.0))
    ∙ patched ps u' v (subst (λ m. Within m ps) (sym (length-set u p (get_or v p 0))) w.1) d.1 (closer p ps u v off w.0)

bytes-differences : (ps u v : List ℕ) → Bytes u → Bytes v → Bytes (map (difference u v) ps)
unfolding difference
bytes-differences [] u v hu hv = tt
bytes-differences (p ∷ ps) u v hu hv = (xor_lt 8 (get_or u p 0) (get_or v p 0) (byte-at u hu p) (byte-at v hv p), bytes-differences ps u v hu hv)

-- ---- at most one

patch-none : (b ps vs : List ℕ) → AllByRecursion (λ v. v ≡ 0) vs → patch b ps vs ≡ b
unfolding patch
patch-none b [] vs z = refl
patch-none b (p ∷ ps) [] z = refl
patch-none b (p ∷ ps) (v ∷ vs) z =
    ap (λ x. patch (set b p x) ps vs) (ap (bit_xor (get_or b p 0)) z.0 ∙ xor_zero_r (get_or b p 0))
    ∙ ap (λ c. patch c ps vs) (set-get_or b p 0) ∙ patch-none b ps vs z.1

pub distance : Distance
distance r ps u v n bu bv pl few off cu cv =
    let xs : List ℕ = map (weight (length u)) ps in
    let vs : List ℕ = map (difference u v) ps in
    let lx : length xs ≡ length ps = length-map ps (weight (length u)) in
    let whole : patch u ps vs ≡ v = patched ps u v pl.within pl.once off in
    let z : (e : ℕ) → e < length xs → vsum e xs vs ≡ 0 =
    λ e h.
    ap (λ s. bit_xor s (vsum e xs vs)) (sym (cu e (omega arith)))
    ∙ sym (syn-patch e (length u) u ps vs refl pl.within) ∙ ap (syndrome e) whole ∙ cv e (omega arith) in
    sym (patch-none u ps vs
    (none xs vs (bytes-weights (length u) ps) (distinct-weights (length u) ps n pl.within pl.once) (length-map ps (difference u v) ∙ sym lx)
    (bytes-differences ps u v bu bv) z))
    ∙ whole

off-between : (ps b u w : List ℕ) → Off ps b w → Off ps b u → Off ps w u
off-between ps b u w p q =
    record {
      size = sym p.size ∙ q.size;
      same = λ k h a. let l : k < length b = subst (λ m. k < m) (sym p.size) h in sym (p.same k l a) ∙ q.same k l a;
    }

pub unique : Unique
unique r ps b u v fit bu bv f g =
    let n : length b ≡ length u = f.off.size in
    distance r ps u v (let h = fit.size in omega arith) bu bv (subst (λ m. Places m ps) n fit.places) fit.few (off-between ps b v u f.off g.off) f.checks g.checks

module _ (r : ℕ) (ps b vs : List ℕ) (n : length b ≤ 255) (pl : Places (length b) ps) (few : length ps ≤ r) where
  abbrev xs : List ℕ
  xs = map (λ p. alpha (length b - 1 - p)) ps

  sum-zero : (e : ℕ) → syndrome e b ≡ vsum e xs vs → syndrome e (patch b ps vs) ≡ 0
  sum-zero e h = syn-patch e (length b) b ps vs refl pl.within ∙ ap (λ z. bit_xor z (vsum e xs vs)) h ∙ xor_self (vsum e xs vs)

  module _ (low : (e : ℕ) → e < length ps → syndrome e b ≡ vsum e xs vs) where
    pub filled : ((e : ℕ) → length ps ≤ e → e < r → syndrome e b ≡ vsum e xs vs) → Filled r ps b (patch b ps vs)
    filled high = record { off = patch-off b ps vs; checks = λ e h. each e h (dec_lt e (length ps)) }
      where
        each : (e : ℕ) → e < r → Dec (e < length ps) → syndrome e (patch b ps vs) ≡ 0
        each e h (yes l) = sum-zero e (low e l)
        each e h (no g) = sum-zero e (high e (omega arith) h)

    pub no_other : Bytes b → Bytes vs → (((e : ℕ) → length ps ≤ e → e < r → syndrome e b ≡ vsum e xs vs) → ⊥) → (w : List ℕ) → Bytes w → Filled r ps b w → ⊥
    no_other hb hv bad w hw f =
        let u : List ℕ = patch b ps vs in
        let size : length b ≡ length w = f.off.size in
        let same : w ≡ u =
        distance (length ps) ps w u (omega arith) hw (patch-bytes b ps vs hb hv) (subst (λ m. Places m ps) size pl) (omega arith)
        (off-between ps b u w f.off (patch-off b ps vs)) (λ e h. f.checks e (omega arith)) (λ e h. sum-zero e (low e h)) in
        bad (λ e g h. xor_same (syndrome e b) (vsum e xs vs) (sym (syn-patch e (length b) b ps vs refl pl.within) ∙ ap (syndrome e) (sym same) ∙ f.checks e h))

-- ---- always one

pub fillable : Fillable
fillable ps b n hb pl =
    let s = solution (map (weight (length b)) ps) (bytes-weights (length b) ps) (distinct-weights (length b) ps n pl.within pl.once) (λ e. syndrome e b) (λ e. syn-lt e b) in
    let l : length (map (weight (length b)) ps) ≡ length ps = length-map ps (weight (length b)) in
    let low : (e : ℕ) → e < length ps → syndrome e b ≡ vsum e (map (weight (length b)) ps) s.values = λ e h. sym (s.sums e (omega arith)) in (
      patch b ps s.values,
      patch-bytes b ps s.values hb s.bytes,
      filled (length ps) ps b s.values n pl (omega arith) low (λ e g h. absurd (omega arith)),
    )

-- the values that solve the first check sums have them
pub sums-agree : (ps b xs ss vs : List ℕ) → xs ≡ map (λ p. alpha (length b - 1 - p)) ps → length ss ≡ length ps
    → ((e : ℕ) → e < length ss → get_or ss e 0 ≡ syndrome e b) → ((e : ℕ) → e < length xs → vsum e xs vs ≡ get_or ss e 0)
    → (e : ℕ) → e < length ps → syndrome e b ≡ vsum e (map (λ p. alpha (length b - 1 - p)) ps) vs
sums-agree ps b xs ss vs ex l is has e h =
    let n : length xs ≡ length ps = ap length ex ∙ length-map ps (λ p. alpha (length b - 1 - p)) in
    sym (is e (omega arith)) ∙ sym (has e (omega arith)) ∙ ap (λ x. vsum e x vs) ex
