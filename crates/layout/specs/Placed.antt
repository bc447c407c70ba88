-- The place of a byte of a G3 word as the placing function answers it.
use Rattle.std.specs.Prelude.{ℕ, cond, Some, None, Option, ◌==◌, nat_lt}
use Rattle.layout.specs.declared.sign.Sign.{Sign}
use Rattle.layout.specs.declared.sign.Sign.TheVariants.{Plus, Minus}
use Rattle.layout.specs.declared.sign.Channel.{Channel}
use Rattle.layout.specs.declared.sign.Channel.TheVariants.{A, B}
use Rattle.layout.specs.declared.sign.Half.{Half}
use Rattle.layout.specs.declared.sign.Half.TheVariants.{Upper, Lower}
use Rattle.layout.specs.Placing.{sign, block, serial}

-- the numbers of a channel and a half, and the sign of a number
abbrev pub channel_number : Channel → ℕ
channel_number A = 0
channel_number B = 1

abbrev pub half_number : Half → ℕ
half_number Upper = 0
half_number Lower = 1

abbrev pub sign_of : ℕ → Sign
sign_of n = cond (n == 0) Plus Minus

-- sign, block and serial of a byte of word i; there are 1,456 words
abbrev pub placing : ℕ → Channel → Half → Option (Sign × ℕ × ℕ)
placing i a u = cond (nat_lt i 1456) (Some (sign_of (sign i (channel_number a)), block i, serial i (half_number u))) None
