-- Laws of windows.
use Rattle.std.proofs.Common.{◌≡◌, ℕ, ◌+◌, ◌-◌, ◌<◌, ◌≤◌, min, List, ◌++◌, length, get_or, take, drop, set, None, Ok, Err, sym, refl, ap, ◌∙◌, arith}
use Rattle.std.proofs.Math.Seq.{take-set-lt}
use Rattle.std.proofs.lemmas.List.{length-take, length-drop, get_or-take, get_or-drop, drop-drop, drop-set-add, take-append-drop, take-set-le, drop-set-lt}
use Rattle.std.proofs.lemmas.Bool.{lt-ltb, le-ltb, eq-eqb, ne_eqb}
use Rattle.std.proofs.lemmas.Bool.Decides.{nat_tests}
use Rattle.tape.specs.declared.fault.TapeFault.TheVariants.{NoTrack, WrongBuffer}
use Rattle.tape.specs.Tape.{Answer, Track, Sound, outcome, fetched, delivered, storing, blanking}
use Rattle.tape.specs.Windows.{window_tracks}
use Rattle.tape.proofs.Answering.{outcome-ap}

pub window-length : (f c : ℕ) (ts : List Track) → length (window_tracks f c ts) ≡ min c (length ts - f)
window-length f c ts = simp (length-take, length-drop)

window-get : (f c k : ℕ) (ts : List Track) (d : Track) → k < c → get_or (window_tracks f c ts) k d ≡ get_or ts (f + k) d
window-get f c k ts d h = get_or-take c (drop f ts) k d h ∙ get_or-drop f ts k d

-- a window on a sound tape is sound
pub window-sound : (f c : ℕ) (ts : List Track) → Sound ts → Sound (window_tracks f c ts)
window-sound f c ts s k l =
    let h : k < min c (length ts - f) = rw (window-length f c ts) at l in
    rw (window-get f c k ts None (omega arith)) (s (f + k) (omega arith))

-- the tracks before a window, in it and after it are the tape below
pub window-whole : (f c : ℕ) (ts : List Track) → take f ts ++ (window_tracks f c ts ++ drop (f + c) ts) ≡ ts
window-whole f c ts =
    ap (λ (us : List Track). take f ts ++ (window_tracks f c ts ++ us)) (sym (drop-drop c f ts))
    ∙ (ap (λ (us : List Track). take f ts ++ us) (take-append-drop c (drop f ts)) ∙ take-append-drop f ts)

window-set : (f c k : ℕ) (ts : List Track) (v : Track) → k < c → window_tracks f c (set ts (f + k) v) ≡ set (window_tracks f c ts) k v
window-set f c k ts v h = ap (take c) (drop-set-add f ts k v) ∙ take-set-lt c (drop f ts) k v h

outcome-old : {X : Type 0} (r : Answer) (x : X) → outcome r x x ≡ x
outcome-old (Ok u) x = refl
outcome-old (Err e) x = refl

-- a track that the window shows
module _ (f c k : ℕ) (ts : List Track) (h : k < length (window_tracks f c ts)) where
  below : (k < c) × (f + k < length ts)
  below = let l : k < min c (length ts - f) = rw (window-length f c ts) at h in (omega arith, omega arith)

  pub fetched-in : (n : ℕ) → fetched ts (f + k) n ≡ fetched (window_tracks f c ts) k n
  fetched-in n = simp (lt-ltb (f + k) (length ts) below.1, lt-ltb k (length (window_tracks f c ts)) h, window-get f c k ts None below.0)

  pub delivered-in : (b : List ℕ) → delivered ts (f + k) b ≡ delivered (window_tracks f c ts) k b
  delivered-in b = simp (lt-ltb (f + k) (length ts) below.1, lt-ltb k (length (window_tracks f c ts)) h, window-get f c k ts None below.0)

  pub storing-in : (b : List ℕ) → storing (length ts) (f + k) b ≡ storing (length (window_tracks f c ts)) k b
  storing-in b = grind (arith, nat_tests, below.1)

  pub blanking-in : blanking (length ts) (f + k) ≡ blanking (length (window_tracks f c ts)) k
  blanking-in = grind (arith, nat_tests, below.1)

  -- a change of the track below is one of the track in the window, and of no track outside it
  pub changed-in : (r : Answer) (v : Track) → window_tracks f c (outcome r (set ts (f + k) v) ts) ≡ outcome r (set (window_tracks f c ts) k v) (window_tracks f c ts)
  changed-in r v =
      outcome-ap (window_tracks f c) r (set ts (f + k) v) ts
      ∙ ap (λ (us : List Track). outcome r us (window_tracks f c ts)) (window-set f c k ts v below.0)

  pub changed-before : (r : Answer) (v : Track) → take f (outcome r (set ts (f + k) v) ts) ≡ take f ts
  changed-before r v =
      outcome-ap (take f) r (set ts (f + k) v) ts
      ∙ (ap (λ (us : List Track). outcome r us (take f ts)) (take-set-le f ts (f + k) v (omega arith)) ∙ outcome-old r (take f ts))

  pub changed-after : (r : Answer) (v : Track) → drop (f + c) (outcome r (set ts (f + k) v) ts) ≡ drop (f + c) ts
  changed-after r v =
      let l = below.0 in
      outcome-ap (drop (f + c)) r (set ts (f + k) v) ts
      ∙ (ap (λ (us : List Track). outcome r us (drop (f + c) ts)) (drop-set-lt (f + c) ts (f + k) v (omega arith)) ∙ outcome-old r (drop (f + c) ts))

-- a track that the window does not have
module _ (f c k : ℕ) (ts : List Track) (h : min c (length ts - f) ≤ k) where
  without : length (window_tracks f c ts) ≤ k
  without = rw (window-length f c ts) h

  pub fetched-out : (n : ℕ) → n ≡ 4608 → fetched (window_tracks f c ts) k n ≡ Err NoTrack
  fetched-out n e = simp (eq-eqb n 4608 e, le-ltb k (length (window_tracks f c ts)) without)

  pub storing-out : (b : List ℕ) → length b ≡ 4608 → storing (length (window_tracks f c ts)) k b ≡ Err NoTrack
  storing-out b e = simp (eq-eqb (length b) 4608 e, le-ltb k (length (window_tracks f c ts)) without)

  pub blanking-out : blanking (length (window_tracks f c ts)) k ≡ Err NoTrack
  blanking-out = simp (le-ltb k (length (window_tracks f c ts)) without)

-- a buffer of the wrong size
pub fetched-wrong : (ts : List Track) (k n : ℕ) → (n ≡ 4608 → ⊥) → fetched ts k n ≡ Err WrongBuffer
fetched-wrong ts k n e = simp (ne_eqb n 4608 e)

pub storing-wrong : (n k : ℕ) (b : List ℕ) → (length b ≡ 4608 → ⊥) → storing n k b ≡ Err WrongBuffer
storing-wrong n k b e = simp (ne_eqb (length b) 4608 e)
