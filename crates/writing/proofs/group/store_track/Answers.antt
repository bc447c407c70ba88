use Rattle.std.proofs.Common.{ℕ, ◌+◌, ◌-◌, ◌*◌, ◌<◌, length, ap, ◌∙◌, arith}
use Rattle.std.proofs.ByRecursion.{All-from_get_or}
use Rattle.tape.specs.Tape.{stored}
use Rattle.layout.specs.Group.{address}
use Rattle.channel.specs.Line.{Lawful}
use Rattle.layout.specs.Line.{Valid}
use Rattle.layout.specs.Writing.{array_of}
use Rattle.layout.proofs.Writing.{one-array}
use Rattle.writing.specs.Arrays.{array_in}
use Rattle.writing.proofs.Tracks.{track-same, track-stored}
use Rattle.writing.proofs.group.store_track.Goals as goal

pub returns : goal.returns
returns g c =
    let k = g.C.LineCode.line c.args.code.now in
    let code = c.args.code.now in
    let t = address c.args.position.group c.args.position.track in
    let row = c.args.row.now in
    let ts = g.T.Playable.tracks c.args.tape.now in
    let at : ℕ = 46 * (c.args.position.group - 1) + c.args.position.track in
    let lawful : Lawful k = g.met.C.LineCode.lawful code in
    let valid : Valid t = record { frames = omega arith; signs = omega arith } in
    let checked = one-array.made row c.told-row (All-from_get_or (λ x. x < 256) row 0 (λ i h. c.fits-row i)) in
    let l : at < length ts = omega (arith, c.requires.number_nonzero, c.args.position.below, c.requires.number_in_bounds) in
    record {
      kept = c.store.ensures.kept;
      tape =
          c.store.ensures.tape ∙ ap (stored ts at) (c.send_track.ensures ∙ track-same k t (array_in c.make_array.new.array) (array_of row) c.make_array.ensures)
          ∙ track-stored k t (array_of row) lawful valid checked.0.bytes ts at l;
    }
