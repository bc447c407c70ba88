-- Laws of the packed image.
use Rattle.std.proofs.Common.{◌≡◌, ℕ, List, [], ◌∷◌, length, set, refl, ap, arith}
use Rattle.tape.specs.Tape.{Sound, stored}
use Rattle.images.specs.Images.{packed_format, packed_tracks, packed_stored}
use Rattle.images.specs.Laws.{packed_laws}
use Rattle.images.proofs.Imaging.{image-sound, image-stored}

-- the writes at each place of four, and of five
pub set-four : (xs : List ℕ) (a b c d : ℕ) → length xs ≡ 4 → set (set (set (set xs 0 a) 1 b) 2 c) 3 d ≡ a ∷ b ∷ c ∷ d ∷ []
set-four [] a b c d e = absurd (omega arith)
set-four (p ∷ []) a b c d e = absurd (omega arith)
set-four (p ∷ q ∷ []) a b c d e = absurd (omega arith)
set-four (p ∷ q ∷ r ∷ []) a b c d e = absurd (omega arith)
set-four (p ∷ q ∷ r ∷ s ∷ []) a b c d e = refl
set-four (p ∷ q ∷ r ∷ s ∷ t ∷ xs) a b c d e = absurd (omega arith)

pub set-five : (xs : List ℕ) (a b c d f : ℕ) → length xs ≡ 5 → set (set (set (set (set xs 0 a) 1 b) 2 c) 3 d) 4 f ≡ a ∷ b ∷ c ∷ d ∷ f ∷ []
set-five [] a b c d f e = absurd (omega arith)
set-five (p ∷ xs) a b c d f e = ap (λ (ys : List ℕ). a ∷ ys) (set-four xs b c d f (omega arith))

pub packed-sound : (m : List ℕ) → Sound (packed_tracks m)
packed-sound m = image-sound packed_format packed_laws m

pub packed-stored : (m : List ℕ) (k : ℕ) (buf : List ℕ) → packed_tracks (packed_stored m k buf) ≡ stored (packed_tracks m) k buf
packed-stored m k buf = image-stored packed_format packed_laws m k buf
