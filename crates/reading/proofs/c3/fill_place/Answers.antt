use Rattle.std.proofs.Common.{◌≡◌, ◌/◌, ◌%◌, ◌<◌, arith}
use Rattle.layout.specs.Placing.{number_at}
use Rattle.reading.proofs.Firsts.{some-data, data-parts}
use Rattle.reading.proofs.c3.fill_place.Goals as goal

pub recover-requires : goal.recover-requires
recover-requires c =
    let d = some-data (c.args.p / 32) (c.args.p % 32) c.in-Some.start c.in-Some.ensures in
    let e : c.in-Some.start ≡ number_at (c.args.p / 32) (c.args.p % 32) = d.1 in
    let l : number_at (c.args.p / 32) (c.args.p % 32) < 2880 = (data-parts (c.args.p / 32) (c.args.p % 32) d.0).2 in
    record { reach = λ j h. omega arith; stride = omega arith; n = omega arith; places = c.requires.places; few = c.requires.few }
