-- Laws of images in memory, over the format of a track.
use Rattle.std.proofs.Common.{◌≡◌, ℕ, ◌+◌, ◌-◌, ◌*◌, ◌/◌, ◌<◌, ◌≤◌, true, false, not, cond, ◌⊎◌, List, ◌∷◌, length, get_or, take, drop, set, Some, None, Ok, Err, sym, refl, ap, ◌∙◌, inl, inr, ⊎_elim, zero-add, arith}
use lib.Seq.{paste}
use Rattle.std.proofs.lemmas.List.FromFn.{length-map-range_with_len, get_or-map-range_with_len}
use Rattle.std.proofs.lemmas.List.{length-take, length-drop, length-set, get_or-set_same, get_or-set_other, ext_get_or}
use Rattle.std.proofs.lemmas.Bool.{cases_eq, not-true, not-false}
use Rattle.tape.specs.declared.fault.TapeFault.{TapeFault}
use Rattle.tape.specs.declared.fault.TapeFault.TheVariants.{Blank}
use Rattle.tape.specs.Tape.{Sound, SoundTrack, reached, fetched, delivered, storing, stored, blanking, blanked}
use Rattle.images.specs.Images.{Format, Lawful, part, track_of, image_tracks, image_stored, image_blanked}
use Rattle.tape.proofs.Answering.{outcome-ap, outcome-same, storing-ok, blanking-ok}
use Rattle.images.proofs.Cutting.{room, apart, part_same, part-first, paste-length, paste-below, paste-above, part-paste}

module _ {N : Type 0} (f : Format N) where
  pub length-image : (m : List N) → length (image_tracks f m) ≡ length m / f.stride
  unfolding image_tracks
  length-image m = length-map-range_with_len (λ (k : ℕ). track_of f (part f.stride m k)) 0 (length m / f.stride)

  pub get-image : (m : List N) (k : ℕ) → k < length m / f.stride → get_or (image_tracks f m) k None ≡ track_of f (part f.stride m k)
  unfolding image_tracks
  get-image m k h = get_or-map-range_with_len (λ (k : ℕ). track_of f (part f.stride m k)) 0 (length m / f.stride) k k None h (zero-add k)

  -- where no number outside track k changed, no other track did
  pub image-set : (m m' : List N) (k : ℕ) → length m' ≡ length m → k < length m / f.stride
      → ((p : ℕ) → (p < k * f.stride) ⊎ (k * f.stride + f.stride ≤ p) → get_or m' p f.blank ≡ get_or m p f.blank)
      → image_tracks f m' ≡ set (image_tracks f m) k (track_of f (part f.stride m' k))
  image-set m m' k e l h =
      let s = f.stride in
      let t = track_of f (part s m' k) in
      let n' : length (image_tracks f m') ≡ length m / s = length-image m' ∙ ap (λ (x : ℕ). x / s) e in
      let n : length (set (image_tracks f m) k t) ≡ length m / s = length-set (image_tracks f m) k t ∙ length-image m in
      ext_get_or None (image_tracks f m') (set (image_tracks f m) k t) (n' ∙ sym n)
      (λ i il.
      let i1 : i < length m / s = omega arith in
      let i2 : i < length m' / s = rw e i1 in
      let kl : k < length (image_tracks f m) = omega (arith, length-image m) in
      get-image m' i i2 ∙ ⊎_elim
      (λ (q : i ≡ k). rw q (sym (get_or-set_same (image_tracks f m) k t None kl)))
      (λ (q : i ≡ k → ⊥).
      ap (track_of f) (part_same s f.blank m m' i e (λ j jl. h (i * s + j) (⊎_elim (λ (b : i * s + s ≤ k * s). inl (omega arith)) (λ (b : k * s + s ≤ i * s). inr (omega arith)) (apart s i k q))))
      ∙ sym (get_or-set_other (image_tracks f m) k i t None q ∙ get-image m i i1))
      (cases_eq i k))

-- a track, by what is read at the place of its flag and behind it
track-at : {N : Type 0} (f : Format N) (m : List N) (k at n : ℕ) (flag : N) → k < length m / f.stride → at ≡ k * f.stride → n + 1 ≡ f.stride
    → get_or m at flag ≡ flag → track_of f (part f.stride m k) ≡ cond (f.marks flag) (Some (f.words (take n (drop (at + 1) m)))) None
track-at {N} f m k at n flag l a e h =
    let s = f.stride in
    ap (track_of f) (part-first s m k n flag e (room s (length m) k l))
    ∙ (ap (λ (p : ℕ). cond (f.marks (get_or m p flag)) (Some (f.words (take n (drop (p + 1) m)))) None) (sym a)
    ∙ ap (λ (x : N). cond (f.marks x) (Some (f.words (take n (drop (at + 1) m)))) None) h)

module _ {N : Type 0} (f : Format N) (law : Lawful f) where
  -- an image's tape is sound
  pub image-sound : (m : List N) → Sound (image_tracks f m)
  image-sound m k l =
      let s = f.stride in
      let some = law.some in
      let l' : k < length m / s = omega (arith, length-image f m) in
      let r : k * s + s ≤ length m = room s (length m) k l' in
      let others = take (s - 1) (drop (k * s + 1) m) in
      let n : length others + 1 ≡ s = simp (length-take, length-drop) (omega arith) in
      rw (get-image f m k l', part-first s m k (s - 1) f.blank (omega arith) r)
      (elim (f.marks (get_or m (k * s) f.blank)) as (λ b. SoundTrack (cond b (Some (f.words others)) None)) [ true ↦ law.sound others n | false ↦ tt ])

  -- a blank of an image is a blank of its tape
  pub image-blanked : (m : List N) (k : ℕ) → image_tracks f (image_blanked f m k) ≡ blanked (image_tracks f m) k
  image-blanked m k =
      let s = f.stride in
      let n = length-image f m in
      let r = blanking (length m / s) k in
      let m' = set m (k * s) f.blank in
      outcome-ap (image_tracks f) r m' m ∙ (outcome-same r (image_tracks f m') (set (image_tracks f m) k None) (image_tracks f m) (λ ok. done (blanking-ok (length m / s) k ok)) ∙ rw n)
    where
      done : k < length m / f.stride → image_tracks f (set m (k * f.stride) f.blank) ≡ set (image_tracks f m) k None
      done l =
          let s = f.stride in
          let some = law.some in
          let m' = set m (k * s) f.blank in
          let e : length m' ≡ length m = length-set m (k * s) f.blank in
          let fits : k * s + s ≤ length m = room s (length m) k l in
          let i : k * s < length m = omega arith in
          let t : track_of f (part s m' k) ≡ None = track-at f m' k (k * s) (s - 1) f.blank (rw e l) refl (omega arith) (get_or-set_same m (k * s) f.blank f.blank i) ∙ rw law.blank in
          image-set f m m' k e l (λ p o. get_or-set_other m (k * s) p f.blank f.blank (λ q. ⊎_elim (λ (b : p < k * s). omega arith) (λ (b : k * s + s ≤ p). omega arith) o))
          ∙ ap (set (image_tracks f m) k) t

  -- a store in an image is a store on its tape
  pub image-stored : (m : List N) (k : ℕ) (buf : List ℕ) → image_tracks f (image_stored f m k buf) ≡ stored (image_tracks f m) k buf
  image-stored m k buf =
      let s = f.stride in
      let n = length-image f m in
      let r = storing (length m / s) k buf in
      let m' = paste m (k * s) (f.written ∷ f.numbers buf) s in
      outcome-ap (image_tracks f) r m' m
      ∙ (outcome-same r (image_tracks f m') (set (image_tracks f m) k (Some buf)) (image_tracks f m)
      (λ ok. let t = storing-ok (length m / s) k buf ok in done t.1 (law.long buf t.0) (law.back buf t.0 t.2)) ∙ rw n)
    where
      done : k < length m / f.stride → length (f.numbers buf) + 1 ≡ f.stride → f.words (f.numbers buf) ≡ buf
          → image_tracks f (paste m (k * f.stride) (f.written ∷ f.numbers buf) f.stride) ≡ set (image_tracks f m) k (Some buf)
      done l e q =
          let s = f.stride in
          let ns = f.written ∷ f.numbers buf in
          let long : length ns ≡ s = omega arith in
          let fits : k * s + s ≤ length m = room s (length m) k l in
          let t : track_of f (part s (paste m (k * s) ns s) k) ≡ Some buf = ap (track_of f) (part-paste s m ns k fits long) ∙ (rw law.written (ap Some q)) in
          image-set f m (paste m (k * s) ns s) k (paste-length m ns (k * s) s fits long) l
          (λ p o. ⊎_elim (paste-below m ns (k * s) s fits long p f.blank) (paste-above m ns (k * s) s fits long p f.blank) o)
          ∙ ap (set (image_tracks f m) k) t

-- what fetch answers and delivers where a test declines,
pub fetch-declined : {N : Type 0} (f : Format N) (m : List N) (k : ℕ) (buf : List ℕ) (e : TapeFault) → reached (length m / f.stride) k (length buf) ≡ Err e
    → (fetched (image_tracks f m) k (length buf) ≡ Err e) × (delivered (image_tracks f m) k buf ≡ buf)
fetch-declined f m k buf e h =
    let a : fetched (image_tracks f m) k (length buf) ≡ Err e = rw (length-image f m, h) in
    (a, rw a)

-- and where the tests pass, by what is read at the place of the flag: of a blank track,
module _ {N : Type 0} (f : Format N) (m : List N) (k : ℕ) (buf : List ℕ) (t : ℕ) (ts : t ≡ length (image_tracks f m)) (h : Ok tt ≡ reached t k (length buf))
    (l : k < t) (s : ℕ) (e : s ≡ f.stride) (some : 0 < f.stride) (flag : N) (i : flag ≡ get_or m (k * s) flag) where
  found : get_or (image_tracks f m) k None ≡ cond (f.marks flag) (Some (f.words (take (s - 1) (drop (k * s + 1) m)))) None
  found =
      let l' : k < length m / f.stride = omega (arith, length-image f m) in
      get-image f m k l' ∙ track-at f m k (k * s) (s - 1) flag l' (ap (λ (n : ℕ). k * n) e) (omega arith) (sym i)

  passed : reached (length (image_tracks f m)) k (length buf) ≡ Ok tt
  passed = rw (← ts) (sym h)

  pub fetch-blank : true ≡ not (f.marks flag) → (fetched (image_tracks f m) k (length buf) ≡ Err Blank) × (delivered (image_tracks f m) k buf ≡ buf)
  fetch-blank z =
      let t : get_or (image_tracks f m) k None ≡ None = rw (not-true (f.marks flag) (sym z)) at found in
      let r : fetched (image_tracks f m) k (length buf) ≡ Err Blank = rw (passed, t) in
      (r, rw r)

  -- and of a written one
  pub fetch-done : false ≡ not (f.marks flag)
      → (fetched (image_tracks f m) k (length buf) ≡ Ok tt) × (delivered (image_tracks f m) k buf ≡ f.words (take (s - 1) (drop (k * s + 1) m)))
  fetch-done z =
      let t : get_or (image_tracks f m) k None ≡ Some (f.words (take (s - 1) (drop (k * s + 1) m))) = rw (not-false (f.marks flag) (sym z)) at found in
      let r : fetched (image_tracks f m) k (length buf) ≡ Ok tt = rw (passed, t) in
      (r, rw (r, t))
