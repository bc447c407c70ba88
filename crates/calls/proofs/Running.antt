-- Calls on a desk make a run.
use Rattle.std.proofs.Common.{◌≡◌, ℕ, ◌*◌, Bool, true, false, cond, eqb, leb, List, length, Ok, Err, sym, refl, ap, ◌∙◌, subst}
use Rattle.std.proofs.lemmas.Bool.{eqb-true, eqb-false, leb-true}
use Rattle.tape.specs.Tape.{Track}
use Rattle.channel.specs.Line.{Code}
use Rattle.layout.specs.declared.settings.Settings.{Settings}
use Rattle.laying.specs.Lay.{Recording, stored}
use Rattle.laying.specs.Calls.{Call, Sends, Listed, made, nothing, declines, carried, listed, closed}
use Rattle.runs.specs.Run.{Lent, groups_on, refusal, lacks, lacking, completes, on_tape, all_on_tape, Run, Run.make, Run.carry, Finished}
use Rattle.calls.specs.Laying.{Desk}
use Rattle.calls.specs.Declines.{Answer, number_of, outcome}
use Rattle.calls.specs.Calls.{first, checked, close_answer, closed_on, groups_stored, Obeys, Ends}
use Rattle.calls.proofs.Obeying.{makable-passes}

pub first-zero : (a b : ℕ) → first a b ≡ 0 → (a ≡ 0) × (b ≡ 0)
first-zero a b = go (eqb a 0) refl
  where
    go : (t : Bool) → eqb a 0 ≡ t → cond t b a ≡ 0 → (a ≡ 0) × (b ≡ 0)
    go true p e = (eqb-true a 0 p, e)
    go false p e = absurd (eqb-false a 0 p e)

module _ (c : Code) (x : Settings) (before : List Track) where
  -- a recording made without a number
  pub make-runs : (size : ℕ) → checked x size (length before) ≡ Ok tt → Run c x before (made (groups_on (length before))) before nothing
  make-runs size e = let h = makable-passes x size (leb 46 (length before)) e in make h.tap h.start (leb-true _ _ h.tape)

  module _ (m : Lent) (d : Desk) (s : Recording) (l : Listed) (run : Run c x before s d.tracks l) where
    abbrev refuses : ℕ
    refuses = refusal x (length d.held.group) (46 * s.limit)

    -- one call more, carried out or declined
    pub run-carries : (a : Call) (e : Desk) (r : Answer) → Sends a → Obeys c x m a d e r s → Run c x before (outcome r (carried s a) s) e.tracks (outcome r (listed l a) l)
    run-carries a e r sm o = go r o.number o.tape
      where
        go : (r : Answer) → number_of r ≡ first refuses (first (lacking m s d.tracks a) (declines s a)) → e.tracks ≡ outcome r (all_on_tape c x (completes s a) d.tracks) d.tracks
            → Run c x before (outcome r (carried s a) s) e.tracks (outcome r (listed l a) l)
        go (Ok u) n t =
            let z = first-zero (lacking m s d.tracks a) (declines s a) (first-zero refuses _ (sym n)).1 in
            subst (λ (ts : List Track). Run c x before (carried s a) ts (listed l a)) (sym t) (carry m a sm run z.0 z.1)
        go (Err z) n t = subst (λ (ts : List Track). Run c x before s ts l) (sym t) run

    -- a recording closed without a number
    pub run-finishes : Ends c x m d s → close_answer m d ≡ Ok tt → Finished c x before (closed_on c m d) (groups_stored m d) l.items
    run-finishes o e = record {
      state = s;
      tape = d.tracks;
      list = l;
      run = run;
      lent = m;
      taken = (first-zero refuses (lacks m s.limit (length d.tracks)) (sym o.number ∙ ap number_of e)).1;
      after = o.tape ∙ ap (λ (r : Answer). outcome r (on_tape c x (stored 1 s) d.tracks) d.tracks) e;
      number = o.groups ∙ ap (λ (r : Answer). outcome r (length (closed s)) (length s.done)) e;
      items = refl;
    }
