use Rattle.std.specs.Prelude.{◌≡◌, ℕ, List, length, Ok, Err, Result}
use Rattle.channel.specs.declared.fault.SheetFault.{SheetFault}
use Rattle.channel.specs.declared.fault.SheetFault.TheVariants.{WrongCount, WideNumber, SharedWord}
use Rattle.channel.specs.Codes.{Good, Narrow, Wide, Shared}

-- The number of each decline, in the order of checking.
abbrev pub number : SheetFault → ℕ
number WrongCount = 1
number WideNumber = 2
number SharedWord = 3

-- Why a sheet is declined; a later reason is given only where no earlier one holds.
abbrev pub Declined : List ℕ → SheetFault → Type 0
Declined xs WrongCount = length xs ≡ 512 → ⊥
Declined xs WideNumber = (length xs ≡ 512) × Wide xs
Declined xs SharedWord = (length xs ≡ 512) × Narrow xs × Shared xs

-- What the check of a sheet has to answer: Ok of a good sheet, and otherwise the first reason to decline it.
abbrev pub SheetVerdict : List ℕ → Result (Unit {0}) SheetFault → Type 0
SheetVerdict xs (Ok _) = Good xs
SheetVerdict xs (Err e) = Declined xs e
