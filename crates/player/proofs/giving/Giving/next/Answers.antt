use Rattle.std.proofs.Common.{ℕ, get_or, Ok, Err, refl, sym, ap, ◌∙◌, arith}
use Rattle.std.proofs.lemmas.Result.{err_from_is_err_and}
use Rattle.index.specs.declared.succession.State.{State}
use Rattle.index.specs.declared.tally.Counts.{Counts}
use Rattle.index.specs.Bytes.{read_group}
use Rattle.index.specs.Walk.{walk_group}
use Rattle.index.specs.Answers.{standing, state_counts}
use Rattle.player.specs.Shelves.{shelf}
use Rattle.player.specs.Standing.{cause_in}
use Rattle.player.proofs.Nexts.{and_ending, number-on, next-roomy, next-went}
use Rattle.player.proofs.giving.Giving.next.Goals as goal

pub give-requires : goal.give-requires
give-requires c =
    let s = shelf c.args.self.now c.args.output.now c.args.rows.now in
    let w = c.args.walk.now in
    let g = c.args.group.now in
    let p = c.requires in
    let r =
    next-roomy p.out p.rows p.upto w s p.stands (standing w).0 g c.in_ok-ending.ending c.group.result (state_counts (standing c.group.new.self)) (get_or g 126616 0)
    (sym (ap cause_in c.in_ok-ending.was)) (walk_group (standing w).0 p.upto (read_group g)) refl (c.group.ensures.walked p.upto p.stands.numbers (omega arith)) in
    record { few = r.0; roomy = r.1 }

pub returns-in_err-give : goal.returns-in_err-give
returns-in_err-give c out old b t =
    let s = shelf c.args.self.now c.args.output.now c.args.rows.now in
    let w = c.args.walk.now in
    let g = c.args.group.now in
    let e = c.in_ok-ending.ending in
    let x = err_from_is_err_and c.from_residual-in_err-give.result c.from_residual-in_err-give.ensures.1 in
    let q = sym (ap cause_in c.in_ok-ending.was) in
    next-went out old b w s t (standing w).0 g e c.group.result (state_counts (standing c.group.new.self)) (get_or g 126616 0) q
    c.group.new.self (shelf c.give.new.self c.give.new.output c.give.new.rows) c.from_residual-in_err-give.result refl
    (ap (λ (y : ℕ × State × Counts). y.0) c.group.ensures.after ∙ number-on w g e (q ∙ ap cause_in c.group.ensures.answer))
    (x.1 ∙ (ap Err x.2 ∙ ap (and_ending e) c.in_err-give.ensures.answer)) c.in_err-give.ensures.given
    (walk_group (standing w).0 b (read_group g)) refl (c.group.ensures.walked b t.numbers (omega arith))

pub returns : goal.returns
returns c out old b t =
    let s = shelf c.args.self.now c.args.output.now c.args.rows.now in
    let w = c.args.walk.now in
    let g = c.args.group.now in
    let e = c.in_ok-ending.ending in
    let q = sym (ap cause_in c.in_ok-ending.was) in
    next-went out old b w s t (standing w).0 g e c.group.result (state_counts (standing c.group.new.self)) (get_or g 126616 0) q
    c.group.new.self (shelf c.give.new.self c.give.new.output c.give.new.rows) (Ok e) refl
    (ap (λ (y : ℕ × State × Counts). y.0) c.group.ensures.after ∙ number-on w g e (q ∙ ap cause_in c.group.ensures.answer))
    (ap (and_ending e) c.in_ok-give.ensures.answer) c.in_ok-give.ensures.given
    (walk_group (standing w).0 b (read_group g)) refl (c.group.ensures.walked b t.numbers (omega arith))
