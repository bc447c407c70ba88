use Rattle.std.proofs.Common.{◌≡◌, ℕ, ◌+◌, ◌-◌, ◌*◌, set, sym, ◌∙◌, subst, arith}
use borrow.Rule.Slice.PartMut.{put_mid}
use Rattle.std.proofs.lemmas.Bool.{cond-true, lt-ltb}
use Rattle.layout.specs.Reading.{Outcome}
use Rattle.reading.specs.Groups.{outcomes, Holds}
use Rattle.reading.proofs.WholeGroup.{holds_more}
use Rattle.reading.proofs.group.read_tracks.Goals as goal

pub loop-track-preserved : goal.loop-track-preserved
loop-track-preserved g c =
    let o : ℕ → Outcome = outcomes (g.C.LineCode.line c.args.code.now) c.args.number (g.T.Playable.tracks c.args.tape.now) in
    let e : c.put.new.self.rows ≡ set c.loop-track.sheet.rows c.loop-track.track c.read_one-finding.result = c.put.ensures ∙ cond-true _ _ _ (lt-ltb c.loop-track.track 46 c.loop-track-test.true) in
    let n : ℕ = 2912 * c.loop-track.track + 2912 - 2912 * c.loop-track.track in
    subst (λ s. Holds o (put_mid (2912 * c.loop-track.track) n c.loop-track.rows c.read_one-finding.new.row) s (c.loop-track.track + 1)) (sym e)
    (holds_more o c.loop-track.rows c.read_one-finding.new.row c.loop-track.sheet.rows c.loop-track.track n n c.read_one-finding.result c.loop-track-test.true (omega arith) (omega arith) c.loop-track.invariant
    c.read_one-finding.ensures.finding (omega arith) c.read_one-finding.ensures.bytes)
