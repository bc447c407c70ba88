use Rattle.reed_solomon.proofs.Sums.{by-places}
use Rattle.reed_solomon.proofs.Distance.{distance, unique, fillable}
use Rattle.reed_solomon.proofs.theorems.words_are_apart.Goals as goal

pub returns : goal.returns
returns c = record { places = by-places; distance = distance; unique = unique; fillable = fillable }
