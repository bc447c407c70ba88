-- Lists that a loop fills, and the lost places of a word.
use Rattle.std.proofs.Common.{◌≡◌, ℕ, ◌+◌, ◌-◌, ◌*◌, ◌<◌, ◌≤◌, Bool, cond, not, ◌&&◌, ◌||◌, eqb, List, ◌∷◌, length, get_or, drop, set, Option, sym, ap, ◌∙◌, subst, ap₂, add-one, arith}
use lib.Bits.{bit_xor}
use Rattle.std.specs.List.{AllByRecursion}
use Rattle.std.proofs.lemmas.List.{drop-set}
use Rattle.std.proofs.lemmas.Bool.{cond_both}
use Rattle.std.proofs.lemmas.List.Edits.{fill_by_more}
use Rattle.reed_solomon.specs.Words.{Places, Distinct}
use Rattle.layout.specs.Counts.{which}
use Rattle.channel.specs.Line.{Code}
use Rattle.layout.specs.Line.{Address, label}
use Rattle.layout.specs.Reading.{block_lost, is_byte}
use Rattle.layout.proofs.Counts.{which-below, which-distinct}

-- a step of a loop that writes f i at each place i
pub fill_step : {X : Type 0} (f : ℕ → X) (xs : List X) (i : ℕ) (d v : X) → i < length xs → v ≡ f i → ((k : ℕ) → k < i → get_or xs k d ≡ f k)
    → (k : ℕ) → k < i + 1 → get_or (set xs i v) k d ≡ f k
fill_step f xs i d v h e inv k l = ap (λ z. get_or (set xs i z) k d) e ∙ fill_by_more f xs i d h inv k l

-- ---- the places that pass a test, put before one another

pub put-kept : (out : List ℕ) (k j : ℕ) → 0 < k → k ≤ length out → drop (k - 1) (set out (k - 1) j) ≡ j ∷ drop k out
put-kept out k j h l = let e : k - 1 + 1 ≡ k = omega arith in drop-set out (k - 1) j (omega arith) ∙ ap (λ n. j ∷ drop n out) e

pub which-more : (f : ℕ → Bool) (size j k r : ℕ) (out out' : List ℕ) → j < size → k ≤ size → size ≤ k + j → drop k out ≡ which f j → r ≡ cond (f j) (k - 1) k
    → drop r out' ≡ cond (f j) (j ∷ drop k out) (drop k out) → (r ≤ size) × (size ≤ r + (j + 1)) × (drop r out' ≡ which f (j + 1))
unfolding which
which-more f size j k r out out' hj hk hs e er ed = (
  cond_both (f j) (k - 1) k (λ z. r ≡ z → r ≤ size) (λ _ q. omega arith) (λ _ q. omega arith) er,
  cond_both (f j) (k - 1) k (λ z. r ≡ z → size ≤ r + (j + 1)) (λ _ q. omega arith) (λ _ q. omega arith) er,
  ed ∙ ap (λ z. cond (f j) (j ∷ z) z) e ∙ ap (which f) (sym (add-one j)),
)

pub which-places : (f : ℕ → Bool) (size : ℕ) (ps : List ℕ) → ps ≡ which f size → Places size ps
which-places f size ps e = record {
  within = subst (AllByRecursion (λ p. p < size)) (sym e) (which-below f size size (omega arith));
  once = subst Distinct (sym e) (which-distinct f size);
}

-- ---- a block

pub block-is : (c : Code) (t : Address) (w : ℕ → ℕ) (b l : ℕ) (s one two three r : Bool) (o1 o2 o3 : Option ℕ) → l ≡ label t b
    → s ≡ (eqb (w (36 * b)) 273 || eqb (w (36 * b)) 785) → o1 ≡ c.decode (w (36 * b + 1)) → o2 ≡ c.decode (w (36 * b + 2)) → o3 ≡ c.decode (w (36 * b + 3))
    → one ≡ is_byte l o1 → two ≡ is_byte b o2 → three ≡ is_byte (bit_xor l b) o3 → r ≡ (s && one && two && three) → not r ≡ block_lost c t w b
unfolding block_lost
block-is c t w b l s one two three r o1 o2 o3 el es e1 e2 e3 d1 d2 d3 er =
    ap not
    (er
    ∙ ap₂ ◌&&◌ (ap₂ ◌&&◌ (ap₂ ◌&&◌ es (d1 ∙ ap₂ is_byte el e1)) (d2 ∙ ap (is_byte b) e2)) (d3 ∙ ap₂ (λ l o. is_byte (bit_xor l b) o) el e3))
