use Rattle.std.proofs.Common.{◌/◌, length, sym, ap, ◌∙◌, ℕ}
use Rattle.images.proofs.Imaging.{length-image, image-sound}
use Rattle.images.proofs.image.tracks.Goals as goal

pub returns-clause-answer : goal.returns-clause-answer
returns-clause-answer g c =
    let law = g.met.N.Number in
    ap (λ (s : ℕ). length c.args.memory.now / s) (c.STRIDE.ensures ∙ law.stride) ∙ sym (length-image g.N.Number.format c.args.memory.now)

pub returns-clause-sound : goal.returns-clause-sound
returns-clause-sound g c = image-sound g.N.Number.format g.met.N.Number.lawful c.args.memory.now
