-- Laws of what calls answer.
use Rattle.std.proofs.Common.{◌≡◌, ℕ, ◌+◌, ◌<◌, ◌≤◌, true, false, ltb, List, length, get_or, drop, Some, None, Ok, Err, sym, refl, ◌∙◌, ⊎_elim, arith}
use Rattle.std.proofs.lemmas.List.{drop_more, drop_all}
use Rattle.std.proofs.lemmas.List.Folds.{list_all_at}
use Rattle.std.proofs.lemmas.Bool.Decides.{nat_tests}
use Rattle.std.proofs.lemmas.Bool.{lt-ltb, le-ltb, cases_lt, true≢false}
use Rattle.tape.specs.Tape.{Answer, Track, Sound, SoundTrack, narrow, outcome, fetched, delivered, storing, blanking}

-- whether the words that are left are narrow
pub narrow-none : (xs : List ℕ) (i : ℕ) → length xs ≤ i → narrow (drop i xs) ≡ true
narrow-none xs i l = rw (drop_all i xs l)

pub narrow-more : (xs : List ℕ) (i : ℕ) → i < length xs → get_or xs i 0 < 1024 → narrow (drop i xs) ≡ narrow (drop (i + 1) xs)
narrow-more xs i l h = rw (drop_more xs i 0 l, lt-ltb (get_or xs i 0) 1024 h)

pub narrow-not : (xs : List ℕ) (i : ℕ) → i < length xs → 1024 ≤ get_or xs i 0 → narrow (drop i xs) ≡ false
narrow-not xs i l h = rw (drop_more xs i 0 l, le-ltb (get_or xs i 0) 1024 h)

pub narrow-get : (xs : List ℕ) (i : ℕ) → narrow xs ≡ true → i < length xs → get_or xs i 0 < 1024
narrow-get xs i e l =
    ⊎_elim (λ (h : get_or xs i 0 < 1024). h)
    (λ (h : 1024 ≤ get_or xs i 0). absurd (true≢false (sym e ∙ list_all_at (λ w. ltb w 1024) xs i 0 l (le-ltb (get_or xs i 0) 1024 h))))
    (cases_lt (get_or xs i 0) 1024)

-- what a map does to an outcome
pub outcome-ap : {X Y : Type 0} (f : X → Y) (r : Answer) (new old : X) → f (outcome r new old) ≡ outcome r (f new) (f old)
outcome-ap f (Ok u) new old = refl
outcome-ap f (Err e) new old = refl

-- outcomes with the same new where the call is done
pub outcome-same : {X : Type 0} (r : Answer) (a b old : X) → (r ≡ Ok tt → a ≡ b) → outcome r a old ≡ outcome r b old
outcome-same (Ok tt) a b old h = h refl
outcome-same (Err e) a b old h = refl

-- a store that is done passed each test
pub storing-ok : (n k : ℕ) (buf : List ℕ) → storing n k buf ≡ Ok tt → (length buf ≡ 4608) × (k < n) × (narrow buf ≡ true)
storing-ok n k buf h = grind (arith, nat_tests)

-- a blank that is done passed its test
pub blanking-ok : (n k : ℕ) → blanking n k ≡ Ok tt → k < n
blanking-ok n k h = grind (arith, nat_tests)

-- a fetch that is done delivers the words of the track
pub fetched-ok : (ts : List Track) (k : ℕ) (buf : List ℕ) → fetched ts k (length buf) ≡ Ok tt
    → (length buf ≡ 4608) × (k < length ts) × (get_or ts k None ≡ Some (delivered ts k buf))
fetched-ok ts k buf h = (grind (arith, nat_tests), grind (arith, nat_tests), grind (arith, nat_tests))

-- and they are 4,608, each below 1,024
pub delivered-sound : (ts : List Track) (k : ℕ) (buf : List ℕ) → Sound ts → fetched ts k (length buf) ≡ Ok tt → SoundTrack (Some (delivered ts k buf))
delivered-sound ts k buf s h = let ok = fetched-ok ts k buf h in rw ok.2 at (s k ok.1)
