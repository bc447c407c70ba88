-- The tracks of the rows are those of the group.
use Rattle.std.proofs.Common.{◌≡◌, ℕ, ◌*◌, ◌<◌, List, length, drop, sym, ap, ◌∙◌, arith, length-drop, length-take}
use Rattle.std.proofs.lemmas.List.{get_or-take, get_or-drop}
use Rattle.tape.specs.Tape.{Track}
use Rattle.layout.specs.Counts.{listed}
use Rattle.layout.specs.Group.{address}
use Rattle.channel.specs.Line.{Code}
use Rattle.layout.specs.Line.{track}
use Rattle.layout.specs.Writing.{array_of, byte_of, arrays}
use Rattle.layout.proofs.Writing.{listed-is}
use Rattle.writing.specs.Groups.{group_track, with_tracks, with_group}
use Rattle.writing.specs.Rows.{HasRows, row_in}
use Rattle.writing.proofs.TapeSteps.{with-same}

module _ (tap start : ℕ) (group rows : List ℕ) (size : length rows ≡ 133952) (has : HasRows tap start group rows) where
  row_is : (t : ℕ) → t < 46 → listed (byte_of tap start group t) 2912 ≡ row_in rows t
  row_is t h =
      let l : length (row_in rows t) ≡ 2912 = simp (length-take, length-drop) (omega arith) in
      listed-is (byte_of tap start group t) (row_in rows t) 2912 l
      (λ q k. sym (has t q h k) ∙ sym (get_or-take 2912 (drop (2912 * t) rows) q 0 k ∙ get_or-drop (2912 * t) rows q 0))

  pub group-made : (c : Code) (g : ℕ) (ts us : List Track) → us ≡ with_tracks (λ t. track c (address g t) (array_of (row_in rows t))) g ts → us ≡ with_group c tap start g group ts
  group-made c g ts us e =
      e ∙ with-same (λ t. track c (address g t) (array_of (row_in rows t))) (group_track c tap start g group) g ts
      (λ t h. unfold group_track arrays in ap (λ r. track c (address g t) (array_of r)) (sym (row_is t h)))
