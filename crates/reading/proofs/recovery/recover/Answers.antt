use Rattle.std.proofs.Common.{ℕ, ◌<◌, true, false, get_or, Ok, Err, is_ok, Result, MatchBool, OnOk, OnErr, length, sym, refl, ◌∙◌, rules}
use Rattle.std.proofs.lemmas.Bool.{eqb-true}
use Rattle.reed_solomon.specs.declared.fault.Unfillable.{Unfillable}
use Rattle.reed_solomon.specs.Interleaves.{interleaved, Refilled, Unfilled}
use Rattle.reading.proofs.Refills.{checks-is, recovered-check, recovered-fill, no-places}
use Rattle.reading.proofs.recovery.recover.Goals as goal

by_ok : (a : Result (Unit {0}) Unfillable) (P Q : Type 0) → OnOk a P → OnErr a Q → MatchBool (is_ok a) P Q
by_ok (Ok _) P Q p q = p
by_ok (Err _) P Q p q = q

pub returns-then-not-is_empty : goal.returns-then-not-is_empty
returns-then-not-is_empty c =
    let b : (i : ℕ) → get_or c.args.memory.now i 0 < 256 = λ i. search rules in
    let code = c.args.code in
    let ys = c.fill_interleaved.new.memory in
    let done = Refilled code.check_bytes c.args.lost.now c.args.memory.now ys c.args.at.start c.args.at.stride code.length in
    let undone = Unfilled code.check_bytes c.args.lost.now c.args.memory.now ys c.args.at.start c.args.at.stride code.length in
    recovered-fill code.check_bytes c.args.lost.now c.args.memory.now ys c.args.at.start c.args.at.stride code.length (is_ok c.fill_interleaved.result)
    c.requires.n b c.requires.places c.requires.few (by_ok c.fill_interleaved.result done undone c.fill_interleaved.ensures.ok c.fill_interleaved.ensures.err)

pub returns-then-holds_interleaved : goal.returns-then-holds_interleaved
returns-then-holds_interleaved c =
    let code = c.args.code in
    let word = interleaved c.args.memory.now c.args.at.start c.args.at.stride code.length in
    recovered-check code.check_bytes c.args.lost.now c.args.memory.now c.args.memory.now c.args.at.start c.args.at.stride code.length true
    (no-places c.args.lost.now (eqb-true (length c.args.lost.now) 0 (sym c.is_empty.ensures ∙ c.if-not-is_empty.false))) refl (checks-is code.check_bytes word true c.if-holds_interleaved.ensures)

pub returns-else-holds_interleaved : goal.returns-else-holds_interleaved
returns-else-holds_interleaved c =
    let code = c.args.code in
    let word = interleaved c.args.memory.now c.args.at.start c.args.at.stride code.length in
    recovered-check code.check_bytes c.args.lost.now c.args.memory.now c.args.memory.now c.args.at.start c.args.at.stride code.length false
    (no-places c.args.lost.now (eqb-true (length c.args.lost.now) 0 (sym c.is_empty.ensures ∙ c.if-not-is_empty.false))) refl (checks-is code.check_bytes word false c.if-holds_interleaved.ensures)
