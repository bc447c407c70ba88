use Rattle.std.proofs.Common.{[], ◌∷◌, refl, ap, arith}
use Rattle.galois.proofs.Powers.{alpha-8}
use Rattle.index.specs.Entries.{used}
use Rattle.layout.proofs.Randomizer.{randomizes}
use Rattle.layout.proofs.Placing.{places-fit}
use Rattle.settled.specs.Examples.{numbers, Settled}
use Rattle.settled.proofs.Given.{c3-bytes}
use Rattle.settled.proofs.Alone.{no_items, five, entire-alone, two-groups, late-total, with-middle}
use Rattle.settled.proofs.settled_numbers_hold.Goals as goal

infixr 1 ◌and◌
-- an example, and the next ones
◌and◌ : {A B : Type 0} → A → B → A × B
a and b = (a, b)

settled : Settled
unfolding used
settled r h =
    ap (λ n. n ∷ []) alpha-8
    and randomizes.example
    and ap numbers places-fit.first
    and ap numbers places-fit.last
    and c3-bytes
    and no_items
    and five (r 5) (h 5)
    and entire-alone (r 126592) (h 126592)
    and two-groups 126593 126592 refl (omega arith) (omega arith) refl (r 126593) (h 126593)
    and two-groups 253180 253179 refl (omega arith) (omega arith) refl (r 253180) (h 253180)
    and late-total 253181 253180 refl (omega arith) (omega arith) refl (r 253181) (h 253181)
    and with-middle 253185 253183 refl (omega arith) (omega arith) refl (r 253185) (h 253185)
    and tt

pub returns : goal.returns
returns c = settled
