-- Laws of the word image.
use Rattle.std.proofs.Common.{◌≡◌, ℕ, List}
use Rattle.tape.specs.Tape.{Sound, stored}
use Rattle.images.specs.Images.{word_format, word_tracks, word_stored}
use Rattle.images.specs.Laws.{word_laws}
use Rattle.images.proofs.Imaging.{image-sound, image-stored}

pub word_sound : (m : List ℕ) → Sound (word_tracks m)
word_sound m = image-sound word_format word_laws m

pub word-stored : (m : List ℕ) (k : ℕ) (buf : List ℕ) → word_tracks (word_stored m k buf) ≡ stored (word_tracks m) k buf
word-stored m k buf = image-stored word_format word_laws m k buf
