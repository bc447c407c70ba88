-- A test of each number in a range.
use Rattle.std.proofs.Common.{◌≡◌, ℕ, ◌-◌, ◌<◌, ◌≤◌, Bool, true, false, MatchBool, Decides, length, get_or, refl, subst, ◌∙◌, sym, arith}
use Rattle.std.specs.List.{range_with_len, AllWithin, HoldsAt}
use Rattle.std.proofs.lemmas.List.FromFn.{length-range_with_len, get_or-range_with_len}
use Rattle.reed_solomon.proofs.PlaceLists.{refuted}

-- what `all` said over k .. r
pub decides-range : (P : ℕ → Type 0) (k r : ℕ) (b : Bool)
    → MatchBool b (AllWithin P (range_with_len k (r - k)) 0 (length (range_with_len k (r - k)))) ((i : ℕ) × (i < length (range_with_len k (r - k))) × HoldsAt (λ e. P e → ⊥) (range_with_len k (r - k)) i)
    → Decides b ((e : ℕ) → k ≤ e → e < r → P e)
decides-range P k r true h = (
  λ _ e l g.
      let n : length (range_with_len k (r - k)) ≡ r - k = length-range_with_len k (r - k) in
      let at : get_or (range_with_len k (r - k)) (e - k) 0 ≡ e = get_or-range_with_len k (r - k) (e - k) 0 (omega arith) ∙ omega arith in
      subst P at (h (e - k) 0 (omega arith) (omega arith)),
  λ _. refl,
)
decides-range P k r false h =
    refuted (λ f.
    let n : length (range_with_len k (r - k)) ≡ r - k = length-range_with_len k (r - k) in
    let l : h.0 < r - k = omega (arith, h.1) in
    h.2 0 (subst P (sym (get_or-range_with_len k (r - k) h.0 0 l)) (f _ (omega arith) (omega arith))))
