-- A whole list of calls, one after another.
use Rattle.std.proofs.Common.{◌≡◌, ℕ, zero, suc, ◌+◌, ◌-◌, ◌≤◌, Bool, true, false, cond, ltb, leb, List, [], ◌∷◌, ◌++◌, length, take, drop, Ok, Err, refl, ap, ◌∙◌, arith, length-take}
use lib.ListN.{length-replicate}
use Rattle.std.specs.List.{AllByRecursion}
use Rattle.std.proofs.lemmas.Bool.{leb-true}
use Rattle.tape.specs.Tape.{Track}
use Rattle.channel.specs.Line.{Code}
use Rattle.layout.specs.declared.settings.Settings.{Settings}
use Rattle.index.specs.declared.kind.Kind.{Kind}
use Rattle.index.specs.declared.kind.Kind.TheVariants.{Total, Mark, Middle, Start, Last, Entire}
use Rattle.index.specs.Entries.{Entry}
use Rattle.index.specs.Bytes.{entry_bytes}
use Rattle.index.specs.Writing.{replaced, entry_place}
use Rattle.index.proofs.Replacing.{length-replaced}
use Rattle.laying.specs.Lay.{Recording}
use Rattle.laying.specs.Calls.{Call, Call.record', Call.mark', Call.warn', Sends, Listed, made, nothing, carried, listed}
use Rattle.runs.specs.Run.{Lent, groups_on, Run}
use Rattle.calls.specs.Held.{free, alerted}
use Rattle.calls.specs.Laying.{Desk, put, put_part, room, stored_on, lay_mark, lay_rest, lay_record}
use Rattle.calls.specs.Declines.{Answer, outcome, refused, lends, admitted}
use Rattle.calls.specs.Calls.{Follows, Obeys, admits, record_answer, mark_answer, warn_answer}
use Rattle.calls.specs.Lists.{answer_to, done_to, answers_to, done_all, list_of, desk_made, Ran}
use Rattle.calls.proofs.Carrying.{room-free}
use Rattle.calls.proofs.Obeying.{then-passes, makable-passes, make-follows, record-obeys, mark-obeys, warn-obeys, close-ends}
use Rattle.calls.proofs.Running.{make-runs, run-carries, run-finishes}

-- ---- a call more

pub answers-more : (c : Code) (m : Lent) (cs : List Call) (a : Call) (d : Desk)
    → answers_to c m (cs ++ (a ∷ [])) d ≡ answers_to c m cs d ++ (answer_to m a (done_all c m cs d) ∷ [])
unfolding answers_to done_all
answers-more c m [] a d = refl
answers-more c m (b ∷ cs) a d = ap (λ (rs : List Answer). answer_to m b d ∷ rs) (answers-more c m cs a (done_to c m b d))

pub done_more : (c : Code) (m : Lent) (cs : List Call) (a : Call) (d : Desk) → done_all c m (cs ++ (a ∷ [])) d ≡ done_to c m a (done_all c m cs d)
unfolding done_all
done_more c m [] a d = refl
done_more c m (b ∷ cs) a d = done_more c m cs a (done_to c m b d)

-- ---- the calls are a run

obeys : (c : Code) (x : Settings) (m : Lent) (a : Call) (d : Desk) (s : Recording) → Follows x d.held s → Obeys c x m a d (done_to c m a d) (answer_to m a d) s
obeys c x m (record' bs) d s f = record-obeys c x m bs d s f
obeys c x m (mark' k) d s f = mark-obeys c x m k d s f
obeys c x m warn' d s f = warn-obeys c x m d s f

-- the desk d holds the open recording of a run with the list l
pub record Runs (c : Code) (x : Settings) (before : List Track) (d : Desk) (l : Listed) : Type 0 where
  pub state : Recording
  pub run : Run c x before state d.tracks l
  pub follows : Follows x d.held state

module _ (c : Code) (x : Settings) (m : Lent) (before : List Track) where
  pub all-run : (cs : List Call) (d : Desk) (l : Listed) → AllByRecursion Sends cs → Runs c x before d l
      → Runs c x before (done_all c m cs d) (list_of l cs (answers_to c m cs d))
  unfolding answers_to done_all list_of
  all-run [] d l sm r = r
  all-run (a ∷ cs) d l sm r =
      let o = obeys c x m a d r.state r.follows in
      all-run cs (done_to c m a d) (outcome (answer_to m a d) (listed l a) l) sm.1 (record {
        state = outcome (answer_to m a d) (carried r.state a) r.state;
        run = run-carries c x before m d r.state l r.run a (done_to c m a d) (answer_to m a d) sm.0 o;
        follows = o.follows;
      })

pub ran : Ran
ran c x m group before cs sm e f =
    let r = all-run c x m before cs (desk_made x group before) nothing sm (record {
      state = made (groups_on (length before));
      run = make-runs c x before (length group) e;
      follows = make-follows x group (length before) e;
    }) in
    run-finishes c x before m (done_all c m cs (desk_made x group before)) r.state (list_of nothing cs (answers_to c m cs (desk_made x group before))) r.run (close-ends c x m (done_all c m cs (desk_made x group before)) r.state r.follows) f

-- ---- what a call needs of the lent memory stays

-- a desk with these settings and this limit, and a group buffer of the right length
record Kept (x : Settings) (g : ℕ) (d : Desk) : Type 0 where
  settings : d.held.book.settings ≡ x
  limit : d.held.book.limit ≡ g
  long : length d.held.group ≡ 126632

module _ (c : Code) (x : Settings) (g : ℕ) where
  kept_put : (d : Desk) → Kept x g d → (k : Kind) (n : ℕ) (bs : List ℕ) → length bs + 4 ≤ free d.held.book → Kept x g (put k n bs d)
  kept_put d i k n bs h = record {
    settings = i.settings;
    limit = i.limit;
    long = length-replaced once (entry_place d.held.book.fill) (entry_bytes p) (omega (arith, laid, i.long)) ∙ (laid ∙ i.long);
  }
    where
      p : Entry
      p = record { kind = k; count = n; warned = d.held.book.warned; bytes = bs }

      once : List ℕ
      once = replaced d.held.group d.held.book.fill.used bs

      laid : length once ≡ length d.held.group
      laid = length-replaced d.held.group d.held.book.fill.used bs (omega (arith, i.long))

  kept-stored : (d : Desk) → Kept x g d → Kept x g (stored_on c d)
  kept-stored d i = record { settings = i.settings; limit = i.limit; long = length-replicate (length d.held.group) 0 ∙ i.long }

  kept-room : (n : ℕ) (d : Desk) → Kept x g d → Kept x g (room c n d)
  kept-room n d i = go (leb n (free d.held.book))
    where
      go : (b : Bool) → Kept x g (cond b d (stored_on c d))
      go true = i
      go false = kept-stored d i

  kept-mark : (k : ℕ) (d : Desk) → Kept x g d → Kept x g (lay_mark c k d)
  kept-mark k d i = kept_put (room c 4 d) (kept-room 4 d i) Mark (k - 1) [] (room-free c 4 d (omega arith))

  kept-part : (k : Kind) (bs : List ℕ) (d : Desk) → Kept x g d → 4 ≤ free d.held.book → Kept x g (stored_on c (put_part k (take (free d.held.book - 4) bs) d))
  kept-part k bs d i h =
      let us : List ℕ = take (free d.held.book - 4) bs in
      kept-stored (put_part k us d) (kept_put d i k (length us) us (omega (arith, length-take (free d.held.book - 4) bs)))

  kept-rest : (f n : ℕ) (bs : List ℕ) (d : Desk) → Kept x g d → 4 ≤ free d.held.book → Kept x g (lay_rest c f n bs d)
  unfolding lay_rest
  kept-rest zero n bs d i h = i
  kept-rest (suc f) n bs d i h = go (leb (length bs + 4) (free d.held.book)) refl
      (kept-rest f n (drop (free d.held.book - 4) bs) _ (kept-part Middle bs d i h) (omega arith))
    where
      go : (b : Bool) → leb (length bs + 4) (free d.held.book) ≡ b → {e : Desk} → Kept x g e → Kept x g (cond b (put Total n [] (room c 4 (put_part Last bs d))) e)
      go true q j = kept_put _ (kept-room 4 _ (kept_put d i Last (length bs) bs (leb-true _ _ q))) Total n [] (room-free c 4 (put_part Last bs d) (omega arith))
      go false q j = j

  kept_record : (bs : List ℕ) (d : Desk) → Kept x g d → Kept x g (lay_record c bs d)
  kept_record bs d₀ i₀ = go (leb (length bs + 4) (free d.held.book)) refl
    where
      d : Desk
      d = room c 5 d₀

      i : Kept x g d
      i = kept-room 5 d₀ i₀

      go : (b : Bool) → leb (length bs + 4) (free d.held.book) ≡ b
          → Kept x g (cond b (put_part Entire bs d) (lay_rest c (length bs) (length bs) (drop (free d.held.book - 4) bs) (stored_on c (put_part Start (take (free d.held.book - 4) bs) d))))
      go true q = kept_put d i Entire (length bs) bs (leb-true _ _ q)
      go false q =
          kept-rest (length bs) (length bs) (drop (free d.held.book - 4) bs) _ (kept-part Start bs d i (omega (arith, room-free c 5 d₀ (omega arith)))) (omega arith)

module _ (c : Code) (m : Lent) (d : Desk) where
  -- a desk that passes the test of what is lent has a group buffer of the right length
  passing : admits m d ≡ Ok tt → Kept d.held.book.settings d.held.book.limit d
  passing e = record { settings = refl; limit = refl; long = (makable-passes d.held.book.settings _ (ltb 0 d.held.book.limit) (then-passes (refused d.held.book (length d.held.group)) (lends m) e)).group }

  same : (e : Desk) → Kept d.held.book.settings d.held.book.limit d → Kept d.held.book.settings d.held.book.limit e → admits m e ≡ admits m d
  same e i j = cc

  kept_either : (e : Desk) (r : Answer) → ((r ≡ Ok tt) → admits m e ≡ admits m d) → admits m (outcome r e d) ≡ admits m d
  kept_either e (Ok u) h = h refl
  kept_either e (Err z) h = refl

  admits-once : (a : Call) → admits m (done_to c m a d) ≡ admits m d
  admits-once (record' bs) = kept_either (lay_record c bs d) (record_answer m bs d) (λ e.
      let i = passing (then-passes (admits m d) _ e) in same (lay_record c bs d) i (kept_record c _ _ bs d i))
  admits-once (mark' k) = kept_either (lay_mark c k d) (mark_answer m k d) (λ e.
      let i = passing (then-passes (admits m d) _ e) in same (lay_mark c k d) i (kept-mark c _ _ k d i))
  admits-once warn' = go (warn_answer d.held)
    where
      go : (r : Answer) → admitted m (length d.held.group) (outcome r (alerted d.held.book) d.held.book) ≡ admits m d
      go (Ok u) = refl
      go (Err e) = refl

pub admits-kept : (c : Code) (m : Lent) (cs : List Call) (d : Desk) → admits m (done_all c m cs d) ≡ admits m d
unfolding done_all
admits-kept c m [] d = refl
admits-kept c m (a ∷ cs) d = admits-kept c m cs (done_to c m a d) ∙ admits-once c m d a
