-- The tracks of a group stored one after another.
use Rattle.std.proofs.Common.{◌≡◌, ℕ, ◌+◌, ◌-◌, ◌*◌, ◌<◌, Bool, true, false, cond, ◌&&◌, ltb, leb, List, length, get_or, set, Some, None, sym, refl, ap, ◌∙◌, zero-add, arith, length-set, get_or-set_other, get_or-set_same}
use native.Mathlib.Decide.{ℕ_discrete}
use Rattle.std.proofs.lemmas.List.FromFn.{fill_by_all, length-map-range_with_len, get_or-map-range_with_len}
use Rattle.std.proofs.lemmas.Bool.{cond-true}
use Rattle.std.proofs.lemmas.Bool.Decides.{nat_tests}
use Rattle.tape.specs.Tape.{Track}
use Rattle.writing.specs.Groups.{with_tracks}

-- the first n tracks from `base` on are those of f, and the others as they were in ts
pub record TracksTo (f : ℕ → List ℕ) (base : ℕ) (ts us : List Track) (n : ℕ) : Type 0 where
  pub size : length us ≡ length ts
  pub tracks : (k : ℕ) → get_or us k None ≡ cond (leb base k && ltb k (base + n)) (Some (f (k - base))) (get_or ts k None)

pub tracks-none : (f : ℕ → List ℕ) (base : ℕ) (ts : List Track) → TracksTo f base ts ts 0
tracks-none f base ts =
    record {
      size = refl;
      tracks = λ k. let e : (leb base k && ltb k (base + 0)) ≡ false = grind (arith, nat_tests) in sym (ap (λ t. cond t (Some (f (k - base))) (get_or ts k None)) e);
    }

pub tracks-more : (f : ℕ → List ℕ) (base : ℕ) (ts us vs : List Track) (n : ℕ) → base + n < length ts → vs ≡ set us (base + n) (Some (f n)) → TracksTo f base ts us n → TracksTo f base ts vs (n + 1)
tracks-more f base ts us vs n h e done =
    record { size = ap length e ∙ length-set us (base + n) (Some (f n)) ∙ done.size; tracks = λ k. ap (λ z. get_or z k None) e ∙ go k (ℕ_discrete k (base + n)) }
  where
    go : (k : ℕ) → Dec (k ≡ base + n) → get_or (set us (base + n) (Some (f n))) k None ≡ cond (leb base k && ltb k (base + (n + 1))) (Some (f (k - base))) (get_or ts k None)
    go k (yes s) =
        let r : k - base ≡ n = omega arith in
        let t : (leb base k && ltb k (base + (n + 1))) ≡ true = grind (arith, nat_tests) in
        let l : base + n < length us = omega (arith, done.size) in
        ap (λ z. get_or (set us (base + n) (Some (f n))) z None) s ∙ get_or-set_same us (base + n) (Some (f n)) None l ∙ ap (λ z. Some (f z)) (sym r)
        ∙ sym (cond-true (leb base k && ltb k (base + (n + 1))) (Some (f (k - base))) (get_or ts k None) t)
    go k (no d) =
        let t : (leb base k && ltb k (base + n)) ≡ (leb base k && ltb k (base + (n + 1))) = grind (arith, nat_tests) in
        get_or-set_other us (base + n) k (Some (f n)) None d ∙ done.tracks k ∙ ap (λ t. cond t (Some (f (k - base))) (get_or ts k None)) t

pub tracks-all : (f : ℕ → List ℕ) (g : ℕ) (ts us : List Track) (n : ℕ) → n ≡ 46 → TracksTo f (46 * (g - 1)) ts us n → us ≡ with_tracks f g ts
unfolding with_tracks
tracks-all f g ts us n e done =
    let base : ℕ = 46 * (g - 1) in
    fill_by_all (λ k. cond (leb base k && ltb k (base + 46)) (Some (f (k - base))) (get_or ts k None)) us (length ts) None done.size
    (λ k h. done.tracks k ∙ ap (λ m. cond (leb base k && ltb k (base + m)) (Some (f (k - base))) (get_or ts k None)) e)

-- tracks that agree on the group
pub with-same : (f h : ℕ → List ℕ) (g : ℕ) (ts : List Track) → ((t : ℕ) → t < 46 → f t ≡ h t) → with_tracks f g ts ≡ with_tracks h g ts
unfolding with_tracks
with-same f h g ts same =
    fill_by_all (track h) (with_tracks f g ts) (length ts) None (length-map-range_with_len (track f) 0 (length ts))
    (λ k l. get_or-map-range_with_len (track f) 0 (length ts) k k None l (zero-add k) ∙ go k (leb base k && ltb k (base + 46)) refl)
  where
    base : ℕ
    base = 46 * (g - 1)

    track : (ℕ → List ℕ) → ℕ → Track
    track f k = cond (leb (46 * (g - 1)) k && ltb k (46 * (g - 1) + 46)) (Some (f (k - 46 * (g - 1)))) (get_or ts k None)

    go : (k : ℕ) (b : Bool) → (leb base k && ltb k (base + 46)) ≡ b → cond b (Some (f (k - base))) (get_or ts k None) ≡ cond b (Some (h (k - base))) (get_or ts k None)
    go k true e = let l : k - base < 46 = grind (arith, nat_tests) in ap Some (same (k - base) l)
    go k false e = refl
