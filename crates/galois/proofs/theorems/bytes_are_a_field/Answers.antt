use Rattle.galois.proofs.Powers.{field}
use Rattle.galois.proofs.theorems.bytes_are_a_field.Goals as goal

pub returns : goal.returns
returns c = field
