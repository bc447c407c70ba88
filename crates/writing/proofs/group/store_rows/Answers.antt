use Rattle.std.proofs.Common.{◌≡◌, ℕ, ◌+◌, ◌-◌, ◌*◌, List, set, Some, refl, ap, ◌∙◌, arith}
use Rattle.layout.specs.Group.{address}
use Rattle.layout.specs.Line.{track}
use Rattle.layout.specs.Writing.{array_of}
use Rattle.writing.specs.Rows.{row_in}
use Rattle.writing.proofs.Chunks.{chunk-at}
use Rattle.writing.proofs.TapeSteps.{tracks-none, tracks-more, tracks-all}
use Rattle.writing.proofs.group.store_rows.Goals as goal

pub store_track-requires : goal.store_track-requires
store_track-requires g c =
    record {
      number_nonzero = c.requires.number_nonzero;
      number_in_bounds = omega (arith, c.requires.number_in_bounds, c.loop-track.invariant.0.size);
    }

pub loop-track-init : goal.loop-track-init
loop-track-init g c = (
  tracks-none (λ t. track (g.C.LineCode.line c.args.code.now) (address c.args.number t) (array_of (row_in c.args.rows.now t)))
      (46 * (c.args.number - 1)) (g.T.Playable.tracks c.args.tape.now),
  refl,
)

pub loop-track-preserved : goal.loop-track-preserved
loop-track-preserved g c =
    let k = g.C.LineCode.line c.args.code.now in
    let f : ℕ → List ℕ = λ t. track k (address c.args.number t) (array_of (row_in c.args.rows.now t)) in
    let base : ℕ = 46 * (c.args.number - 1) in
    let t = c.loop-track.track in
    let us = g.T.Playable.tracks c.loop-track.tape in
    let row : c.unwrap-row.result.now ≡ row_in c.args.rows.now t = chunk-at c.args.rows.now (2912 * t) (133952 - 2912 * t) 2912 c.first_chunk.result c.unwrap-row.result (omega (arith, c.told-rows)) c.first_chunk.ensures.cases c.unwrap-row.ensures in (
      tracks-more f base (g.T.Playable.tracks c.args.tape.now) us (g.T.Playable.tracks c.store_track.new.tape) t (omega (arith, c.requires.number_nonzero, c.requires.number_in_bounds))
          (c.store_track.ensures.tape ∙ ap (λ r. set us (base + t) (Some (track k (address c.args.number t) (array_of r)))) row) c.loop-track.invariant.0,
      c.store_track.ensures.kept ∙ c.loop-track.invariant.1,
    )

pub returns : goal.returns
returns g c =
    record {
      kept = c.loop-track.invariant.1;
      tape =
          tracks-all (λ t. track (g.C.LineCode.line c.args.code.now) (address c.args.number t) (array_of (row_in c.args.rows.now t)))
          c.args.number (g.T.Playable.tracks c.args.tape.now) (g.T.Playable.tracks c.loop-track.tape) c.loop-track.track (omega arith) c.loop-track.invariant.0;
    }
