-- The tracks of a tape with a group stored on it.
use Rattle.std.proofs.Common.{◌≡◌, ℕ, suc, ◌+◌, ◌-◌, ◌*◌, ◌<◌, ◌≤◌, true, false, cond, ◌&&◌, ltb, leb, ◌⊎◌, List, length, get_or, Some, None, sym, ap, ◌∙◌, inl, inr, zero-add, arith}
use Rattle.std.proofs.lemmas.List.FromFn.{length-map-range_with_len, get_or-map-range_with_len}
use Rattle.std.proofs.lemmas.List.{get_or_past}
use Rattle.std.proofs.lemmas.Bool.{cond-true, cond-false, cases_lt}
use Rattle.std.proofs.lemmas.Bool.Decides.{nat_tests}
use Rattle.tape.specs.Tape.{Track}
use Rattle.writing.specs.Groups.{with_tracks}

module _ (f : ℕ → List ℕ) (g : ℕ) (ts : List Track) where
  pub stored-length : length (with_tracks f g ts) ≡ length ts
  unfolding with_tracks
  stored-length = length-map-range_with_len _ 0 (length ts)

  track-is : (k : ℕ) → k < length ts
      → get_or (with_tracks f g ts) k None ≡ cond (leb (46 * (g - 1)) k && ltb k (46 * (g - 1) + 46)) (Some (f (k - 46 * (g - 1)))) (get_or ts k None)
  unfolding with_tracks
  track-is k h = get_or-map-range_with_len _ 0 (length ts) k k None h (zero-add k)

  -- n is the number of groups before
  pub stored-track : (n t : ℕ) → g ≡ suc n → t < 46 → 46 * g ≤ length ts → get_or (with_tracks f g ts) (46 * n + t) None ≡ Some (f t)
  stored-track n t e l h =
      let i : (leb (46 * (g - 1)) (46 * n + t) && ltb (46 * n + t) (46 * (g - 1) + 46)) ≡ true = grind (arith, nat_tests) in
      let j : 46 * n + t - 46 * (g - 1) ≡ t = omega arith in
      track-is (46 * n + t) (omega arith) ∙ cond-true _ _ _ i ∙ ap (λ (z : ℕ). Some (f z)) j

  pub other-track : (n k : ℕ) → g ≡ suc n → (k < 46 * n) ⊎ (46 * suc n ≤ k) → get_or (with_tracks f g ts) k None ≡ get_or ts k None
  other-track n k e o = go (cases_lt k (length ts))
    where
      out : (k < 46 * n) ⊎ (46 * suc n ≤ k) → (leb (46 * (g - 1)) k && ltb k (46 * (g - 1) + 46)) ≡ false
      out (inl h) = grind (arith, nat_tests)
      out (inr h) = grind (arith, nat_tests)

      go : (k < length ts) ⊎ (length ts ≤ k) → get_or (with_tracks f g ts) k None ≡ get_or ts k None
      go (inl h) = track-is k h ∙ cond-false _ _ _ (out o)
      go (inr h) = get_or_past (with_tracks f g ts) k None (omega (arith, stored-length)) ∙ sym (get_or_past ts k None h)
