use Rattle.std.proofs.Common.{rules}
use Rattle.images.proofs.Imaging.{image-blanked}
use Rattle.images.proofs.image.ImageRecordable.blank.Goals as goal

pub returns-clause-tape : goal.returns-clause-tape
returns-clause-tape g c = search (rules, image-blanked g.N.Number.format g.met.N.Number.lawful)
