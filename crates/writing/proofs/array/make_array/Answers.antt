use Rattle.writing.proofs.Made.{array_made}
use Rattle.writing.proofs.array.make_array.Goals as goal

pub returns : goal.returns
returns c = array_made c.args.row.now c.lay.new.array c.put_c2.new.array c.put_c1.new.array c.lay.ensures c.put_c2.ensures c.put_c1.ensures
