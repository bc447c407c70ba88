-- The tables of the code, as lists that stay closed in goals.
use Rattle.std.proofs.Common.{ℕ, ◌/◌, ◌%◌, List, map}
use Rattle.std.specs.List.{range_with_len}
use Rattle.galois.specs.declared.tables.TheConstants.{EXP, LOG}
use Rattle.galois.specs.Galois.{gmul, alpha}

-- the powers of 2, from 0 to 509
unfoldable pub exps : List ℕ
exps = EXP

-- which power of 2 a byte is; 0 at the byte 0
unfoldable pub logs : List ℕ
logs = LOG

-- each byte times the powers of 2 from 0 to 5, one after another
unfoldable pub products : List ℕ
products = map (λ i. gmul (i % 256) (alpha (i / 256))) (range_with_len 0 1536)
