-- Groups stored one after another stand at their places.
use Rattle.std.proofs.Common.{◌≡◌, ℕ, suc, ◌+◌, ◌*◌, ◌<◌, ◌≤◌, ◌⊎◌, List, [], ◌∷◌, ◌++◌, map, length, get_or, Some, None, sym, refl, ap, ◌∙◌, subst, ap₂, inl, inr, arith}
use Rattle.std.proofs.lemmas.List.{append-nil, append_assoc, map_push, length-map, get_or_append_left, get_or_push}
use Rattle.std.proofs.lemmas.Bool.{cases_lt}
use Rattle.tape.specs.Tape.{Track}
use Rattle.channel.specs.Line.{Code}
use Rattle.layout.specs.declared.settings.Settings.{Settings}
use Rattle.writing.specs.Groups.{group_track, with_group}
use Rattle.index.specs.Entries.{Group, Numbered}
use Rattle.index.specs.Bytes.{group_of}
use Rattle.index.proofs.Walks.{length-snoc}
use Rattle.runs.specs.Run.{on_tape, all_on_tape}
use Rattle.runs.specs.Stand.{Placed}
use Rattle.runs.proofs.Storing.{stored-length, stored-track, other-track}

module _ (c : Code) (x : Settings) (before : List Track) where
  pub placed-none : Placed c x [] before before
  placed-none = record { same = refl; written = λ g t a b. absurd (omega arith); behind = λ k a. refl }

  -- one more group
  pub placed-more : (gs : List (List ℕ)) (bs : List ℕ) (n : ℕ) (ts : List Track) → n ≡ suc (length gs) → 46 * n ≤ length ts → Placed c x gs before ts
      → Placed c x (gs ++ (bs ∷ [])) before (with_group c x.tap x.start n bs ts)
  placed-more gs bs n ts e h p = record {
    same = stored-length f n ts ∙ p.same;
    written = λ g t a b. track g t (omega (arith, length-snoc gs bs)) b (cases_lt g (length gs));
    behind = λ k a. let b : 46 * suc (length gs) ≤ k = omega (arith, length-snoc gs bs) in other-track f n ts (length gs) k e (inr b) ∙ p.behind k (omega arith);
  }
    where
      f : ℕ → List ℕ
      f = group_track c x.tap x.start n bs

      track : (g t : ℕ) → g < suc (length gs) → t < 46 → (g < length gs) ⊎ (length gs ≤ g)
          → get_or (with_group c x.tap x.start n bs ts) (46 * g + t) None ≡ Some (group_track c x.tap x.start (suc g) (get_or (gs ++ (bs ∷ [])) g []) t)
      track g t a b (inl l) =
          other-track f n ts (length gs) (46 * g + t) e (inl (omega arith))
          ∙ p.written g t l b
          ∙ ap (λ (z : List ℕ). Some (group_track c x.tap x.start (suc g) z t)) (sym (get_or_append_left gs (bs ∷ []) [] g l))
      track g t a b (inr l) =
          let m : n ≡ suc g = omega arith in
          stored-track f n ts g t m b h
          ∙ ap₂ (λ (k : ℕ) (z : List ℕ). Some (group_track c x.tap x.start k z t)) m (sym (get_or_push gs bs [] g (omega arith)))

  pub placed-group : (gs : List Group) (g : Group) (ts : List Track) → g.number ≡ suc (length gs) → 46 * suc (length gs) ≤ length ts
      → Placed c x (map group_of gs) before ts → Placed c x (map group_of (gs ++ (g ∷ []))) before (on_tape c x g ts)
  placed-group gs g ts e h p =
      subst (λ (z : List (List ℕ)). Placed c x z before (on_tape c x g ts)) (sym (map_push group_of gs g))
      (placed-more (map group_of gs) (group_of g) g.number ts (e ∙ ap suc (sym (length-map gs group_of))) (omega arith) p)

  pub placed-all : (new gs : List Group) (ts : List Track) → Numbered (suc (length gs)) new → 46 * (length gs + length new) ≤ length ts
      → Placed c x (map group_of gs) before ts → Placed c x (map group_of (gs ++ new)) before (all_on_tape c x new ts)
  unfolding all_on_tape
  placed-all [] gs ts n h p = subst (λ (z : List Group). Placed c x (map group_of z) before ts) (sym (append-nil gs)) p
  placed-all (g ∷ new) gs ts n h p =
      let q = placed-group gs g ts n.0 (omega arith) p in
      let m : Numbered (suc (length (gs ++ (g ∷ [])))) new = subst (λ (k : ℕ). Numbered (suc k) new) (sym (length-snoc gs g)) n.1 in
      subst (λ (z : List Group). Placed c x (map group_of z) before (all_on_tape c x new (on_tape c x g ts))) (append_assoc gs (g ∷ []) new)
      (placed-all new (gs ++ (g ∷ [])) (on_tape c x g ts) m (omega (arith, length-snoc gs g, q.same, p.same)) q)
