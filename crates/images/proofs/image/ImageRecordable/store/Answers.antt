use Rattle.std.proofs.Common.{rules}
use Rattle.images.proofs.Imaging.{image-stored}
use Rattle.images.proofs.image.ImageRecordable.store.Goals as goal

pub returns-clause-tape : goal.returns-clause-tape
returns-clause-tape g c = search (rules, image-stored g.N.Number.format g.met.N.Number.lawful)
