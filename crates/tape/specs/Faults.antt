use Rattle.std.specs.Prelude.{ℕ}
use Rattle.tape.specs.declared.fault.TapeFault.{TapeFault}
use Rattle.tape.specs.declared.fault.TapeFault.TheVariants.{NoTrack, Blank, WrongBuffer, WideWord}

-- the number that a fault is reported by
abbrev pub number : TapeFault → ℕ
number NoTrack = 4
number Blank = 5
number WrongBuffer = 6
number WideWord = 7
