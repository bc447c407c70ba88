use Rattle.std.proofs.Common.{length, arith}
use Rattle.reed_solomon.proofs.PlaceLists.{few-places}
use Rattle.reed_solomon.proofs.filling.fill_places.Goals as goal

pub fill_up_to-requires-else-lost-le-FEW-clause-lost_len : goal.fill_up_to-requires-else-lost-le-FEW-clause-lost_len
fill_up_to-requires-else-lost-le-FEW-clause-lost_len c =
    omega (arith, few-places (length c.args.word.now) c.args.lost.now c.requires.places.within c.requires.places.once, c.requires.size)
