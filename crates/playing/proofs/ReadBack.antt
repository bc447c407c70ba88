-- What a recorded group reads as, with a few of its tracks bad and the others lightly damaged.
use Rattle.std.proofs.Common.{◌≡◌, ℕ, zero, suc, ◌+◌, ◌*◌, ◌/◌, ◌%◌, ◌<◌, ◌≤◌, Bool, true, false, not, eqb, ◌⊎◌, List, length, get_or, Some, None, sym, refl, ap, ◌∙◌, subst₂, inl, inr, arith}
use Rattle.std.proofs.lemmas.Bool.{both_ways, ltb-true, lt-ltb}
use Rattle.tape.specs.Tape.{Track}
use Rattle.layout.specs.Counts.{count, listed}
use Rattle.layout.specs.Damage.{changed, changed_bytes, changed_frame, touched, Light}
use Rattle.layout.specs.Group.{address, whole, unchecked, Written, LightTrack, Spared}
use Rattle.channel.specs.Line.{Code, Lawful}
use Rattle.layout.specs.Line.{Address, channel, track}
use Rattle.layout.specs.Words.{Array, c1_block, c1_serial}
use Rattle.layout.specs.Writing.{arrays}
use Rattle.layout.proofs.Counts.{count-more, count_none, slice_index-listed}
use Rattle.layout.proofs.Group.{group-kept, group-never-mixed}
use Rattle.layout.proofs.Writing.{written_once}
use Rattle.writing.specs.Groups.{group_track}
use Rattle.reading.specs.Groups.{tracks_of, found}
use Rattle.index.specs.Bytes.{Small}
use Rattle.playing.specs.Promise.{Lightly, track_in}

-- light damage speaks of the 4,608 words of a track only
module _ (v u w : ℕ → ℕ) (same : (i : ℕ) → i < 4608 → v i ≡ u i) where
  changed-same : (i : ℕ) → i < 4608 → changed u w i ≡ true → changed v w i ≡ true
  unfolding changed
  changed-same i h e = ap (λ (a : ℕ). not (eqb (w i) a)) (same i h) ∙ e

  bytes_same : (h l : ℕ) → h < 64 → l < 2 → changed_bytes u w h l ≤ changed_bytes v w h l
  unfolding changed_bytes
  bytes_same h l a b =
      count-more (λ j. changed u w (36 * c1_block h j + (4 + c1_serial l j))) (λ j. changed v w (36 * c1_block h j + (4 + c1_serial l j))) 32
      (λ j d e. changed-same (36 * c1_block h j + (4 + c1_serial l j)) (omega arith) e)

  frame_same : (h : ℕ) → h < 64 → changed_frame u w h ≤ changed_frame v w h
  unfolding changed_frame
  frame_same h a =
      count-more (λ j. changed u w (36 * (2 * h + j / 4) + j % 4)) (λ j. changed v w (36 * (2 * h + j / 4) + j % 4)) 8
      (λ j d e. changed-same (36 * (2 * h + j / 4) + j % 4) (omega arith) e)

  touched-same : (h l : ℕ) → h < 64 → l < 2 → touched u w h l ≡ true → touched v w h l ≡ true
  unfolding touched
  touched-same h l a b e =
      let t : 0 < changed_bytes u w h l + changed_frame u w h = ltb-true 0 (changed_bytes u w h l + changed_frame u w h) e in
      lt-ltb 0 (changed_bytes v w h l + changed_frame v w h) (omega (arith, t, bytes_same h l a b, frame_same h a))

  pub light-same : Light v w → Light u w
  light-same d = record {
    few = λ h l a b. omega (arith, d.few h l a b, bytes_same h l a b);
    thin = λ m n a b.
        let q = count-more (λ j. touched u w ((m + 4 * j) / 2) (n % 2)) (λ j. touched v w ((m + 4 * j) / 2) (n % 2)) 32
        (λ j k e. touched-same ((m + 4 * j) / 2) (n % 2) (omega arith) (omega arith) e) in
        omega (arith, q, d.thin m n a b);
  }

-- a track as it is written, lightly damaged
light-written : (c : Code) (a : Address) (y : Array) (t : Track) → Lightly (Some (track c a y)) t → LightTrack c a y t
unfolding track
light-written c a y None h = absurd h
light-written c a y (Some vs) h =
    light-same (λ i. get_or (listed (channel c a y) 4608) i 0) (channel c a y) (λ i. get_or vs i 0) (λ i b. slice_index-listed (channel c a y) 4608 i b) h

-- the group with g groups before it, as bytes, on the tape us, and that tape damaged
module _ (c : Code) (tap start g : ℕ) (group : List ℕ) (us ts : List Track) (bad : ℕ → Bool) (lawful : Lawful c) (size : length group ≡ 126632) (small : Small group)
    (there : (t : ℕ) → t < 46 → track_in us g t ≡ Some (group_track c tap start (suc g) group t)) (few : count bad 46 ≤ 2)
    (light : (t : ℕ) → t < 46 → bad t ≡ false → Lightly (track_in us g t) (track_in ts g t)) where
  written : Written tap start group (arrays tap start group)
  written = written_once.made tap start group size small

  track-is : (t : ℕ) → track_in ts g t ≡ tracks_of (suc g) ts t
  track-is t = ap (λ (k : ℕ). get_or ts k None) (omega arith)

  light-here : (t : ℕ) → t < 46 → bad t ≡ false → LightTrack c (address (suc g) t) (arrays tap start group t) (tracks_of (suc g) ts t)
  unfolding group_track
  light-here t h e = light-written c (address (suc g) t) (arrays tap start group t) (tracks_of (suc g) ts t)
      (subst₂ (λ (p q : Track). Lightly p q) (there t h) (track-is t) (light t h e))

  spared : Spared c (suc g) (arrays tap start group) (tracks_of (suc g) ts) bad
  spared = record { two = few; others = light-here }

  -- with the bad tracks blank it is read
  pub blanked-read : ((t : ℕ) → t < 46 → bad t ≡ true → track_in ts g t ≡ None) → found c tap start (suc g) ts ≡ whole group
  blanked-read blank =
      group-kept c tap start (suc g) group (arrays tap start group) (tracks_of (suc g) ts) bad lawful written spared (λ t h e. sym (track-is t) ∙ blank t h e)

  -- else it is read, or there is a bad track and a C3 word that does not check
  pub damaged-read : (found c tap start (suc g) ts ≡ whole group) ⊎ (((b : ℕ) × (s : ℕ) × (found c tap start (suc g) ts ≡ unchecked b s)) × (1 ≤ count bad 46))
  damaged-read = go (count bad 46) refl
    where
      more : (1 ≤ count bad 46) → ((found c tap start (suc g) ts ≡ whole group) ⊎ ((b : ℕ) × (s : ℕ) × (found c tap start (suc g) ts ≡ unchecked b s)))
          → (found c tap start (suc g) ts ≡ whole group) ⊎ (((b : ℕ) × (s : ℕ) × (found c tap start (suc g) ts ≡ unchecked b s)) × (1 ≤ count bad 46))
      more h (inl e) = inl e
      more h (inr e) = inr (e, h)

      go : (k : ℕ) → count bad 46 ≡ k
          → (found c tap start (suc g) ts ≡ whole group) ⊎ (((b : ℕ) × (s : ℕ) × (found c tap start (suc g) ts ≡ unchecked b s)) × (1 ≤ count bad 46))
      go zero e = inl (blanked-read (λ t h f. absurd (both_ways (bad t) (count_none bad 46 e t h) f)))
      go (suc k) e = more (omega arith)
          (group-never-mixed c tap start (suc g) group (arrays tap start group) (tracks_of (suc g) ts) bad lawful written spared)
