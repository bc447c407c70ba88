-- Each call does to an open recording what it does to the recording of a run.
use Rattle.std.proofs.Common.{◌≡◌, ℕ, ◌-◌, ◌*◌, ◌<◌, Bool, true, false, cond, ◌&&◌, eqb, ltb, leb, List, [], length, replicate, Ok, Err, sym, refl, ap, ◌∙◌, subst, arith}
use Rattle.std.proofs.lemmas.Bool.{cond_both, and_parts, eqb-true, ltb-true}
use Rattle.tape.specs.Tape.{Track}
use Rattle.layout.specs.declared.settings.Settings.{Settings}
use Rattle.index.specs.declared.tally.Counts.{Counts}
use Rattle.index.specs.Writing.{Filled}
use Rattle.index.proofs.Walks.{length-snoc}
use Rattle.laying.specs.Lay.{Recording, stored}
use Rattle.laying.specs.Calls.{Call.record', Call.mark', warning, carried, closed}
use Rattle.runs.specs.Run.{refusal}
use Rattle.calls.specs.Laying.{Desk, lay_record, lay_mark}
use Rattle.calls.specs.Declines.{Answer, and_then, outcome, makable, recordable, markable}
use Rattle.calls.specs.declared.fault.Decline.{Decline}
use Rattle.calls.specs.declared.fault.Decline.TheVariants.{Setting, GroupBuffer, ShortTape}
use Rattle.calls.specs.Held.{alerted}
use Rattle.calls.specs.Calls.{Follows, first, record_answer, mark_answer, warn_answer, close_answer, MakeFollows, RecordObeys, MarkObeys, WarnObeys, CloseEnds}
use Rattle.calls.proofs.Following.{filled_none, follows-warned, taped-stored}
use Rattle.calls.proofs.Carrying.{carries-none, carries-tape, record-laid, mark-laid}
use Rattle.calls.proofs.Answering.{refused-number, lent-number, item-number, record-number, mark-number}

never : {e : Decline} → ◌≡◌ {A = Answer} (Err e) (Ok tt) → ⊥
never p = let z : ◌≡◌ {A = ℕ} 0 1 = cc in omega arith

-- where both go on or both stay
follows-either : (x : Settings) (r : Answer) (d e : Desk) (s t : Recording) → Follows x e.held t → Follows x d.held s → Follows x (outcome r e d).held (outcome r t s)
follows-either x (Ok u) d e s t f g = f
follows-either x (Err z) d e s t f g = g

tracks-either : (r : Answer) (d e : Desk) (ts : List Track) → e.tracks ≡ ts → (outcome r e d).tracks ≡ outcome r ts d.tracks
tracks-either (Ok u) d e ts p = p
tracks-either (Err z) d e ts p = refl

pub record-obeys : RecordObeys
record-obeys c x m bs d s f =
    let i = record-laid c x d s f bs in
    let r : Answer = record_answer m bs d in
    record {
      number = item-number x d.held s f (length d.held.group) m (length d.tracks) (recordable (length bs) d.held.book) _ (record-number x d.held s f bs);
      follows = follows-either x r d (lay_record c bs d) s (carried s (record' bs)) i.follows f;
      tape = tracks-either r d (lay_record c bs d) _ (carries-tape c x d.tracks s (lay_record c bs d) (carried s (record' bs)) i);
    }

pub mark-obeys : MarkObeys
mark-obeys c x m k d s f =
    let i = mark-laid c x d s f k in
    let r : Answer = mark_answer m k d in
    record {
      number = item-number x d.held s f (length d.held.group) m (length d.tracks) (markable k d.held.book) _ (mark-number x d.held s f k);
      follows = follows-either x r d (lay_mark c k d) s (carried s (mark' k)) i.follows f;
      tape = tracks-either r d (lay_mark c k d) _ (carries-tape c x d.tracks s (lay_mark c k d) (carried s (mark' k)) i);
    }

pub warn-obeys : WarnObeys
warn-obeys c x m d s f = record {
  number = refused-number x d.held s f (length d.held.group) ∙ sym (first-none (refusal x (length d.held.group) (46 * s.limit)));
  follows = go (warn_answer d.held);
  tape = same (warn_answer d.held) _ (carries-tape c x d.tracks s d s (carries-none c x d s f));
}
  where
    first-none : (n : ℕ) → first n 0 ≡ n
    first-none n = cond_both (eqb n 0) 0 n (λ z. z ≡ n) (λ e. sym (eqb-true n 0 e)) (λ e. refl)

    go : (r : Answer) → Follows x (record { book = outcome r (alerted d.held.book) d.held.book; group = d.held.group }) (outcome r (warning s) s)
    go (Ok u) = follows-warned x d.held s f
    go (Err e) = f

    same : (r : Answer) (ts : List Track) → d.tracks ≡ ts → d.tracks ≡ outcome r ts d.tracks
    same (Ok u) ts p = p
    same (Err e) ts p = refl

pub close-ends : CloseEnds
close-ends c x m d s f = record {
  number = lent-number x d.held s f (length d.held.group) m (length d.tracks);
  tape = ap (λ (z : List Track). outcome (close_answer m d) z d.tracks) (taped-stored x d.held s f c 1 d.tracks);
  groups = go (close_answer m d);
  items = ap (λ (z : Counts). z.items) f.counts;
}
  where
    go : (r : Answer) → outcome r d.held.book.number (d.held.book.number - 1) ≡ outcome r (length (closed s)) (length s.done)
    go (Ok u) = f.number ∙ sym (length-snoc s.done (stored 1 s))
    go (Err e) = omega (arith, f.number)

-- the first of two answers passes where both do
pub then-passes : (a b : Answer) → and_then a b ≡ Ok tt → a ≡ Ok tt
then-passes (Ok u) b e = refl
then-passes (Err z) b e = absurd (never e)

-- what a check for making that passes says
pub record Makable (x : Settings) (size : ℕ) (long : Bool) : Type 0 where
  pub tap : x.tap < 32768
  pub start : x.start < 32768
  pub group : size ≡ 126632
  pub tape : long ≡ true

pub makable-passes : (x : Settings) (size : ℕ) (long : Bool) → makable x size long ≡ Ok tt → Makable x size long
makable-passes x size long = go (ltb x.tap 32768 && ltb x.start 32768) (eqb size 126632) long refl refl
  where
    go : (a b l : Bool) → (ltb x.tap 32768 && ltb x.start 32768) ≡ a → eqb size 126632 ≡ b
        → ◌≡◌ {A = Answer} (cond a (cond b (cond l (Ok tt) (Err ShortTape)) (Err GroupBuffer)) (Err Setting)) (Ok tt) → Makable x size l
    go true true true p q e = let t = and_parts _ _ p in record { tap = ltb-true _ _ t.0; start = ltb-true _ _ t.1; group = eqb-true _ _ q; tape = refl }
    go true true false p q e = absurd (never e)
    go true false l p q e = absurd (never e)
    go false b l p q e = absurd (never e)

pub make-follows : MakeFollows
make-follows x group n e =
    let h = makable-passes x (length group) (leb 46 n) e in
    record {
      settings = refl;
      limit = refl;
      number = refl;
      filled = subst (λ (r : Answer). Filled (outcome r (replicate (length group) 0) group) (record { entries = 0; used = 0 }) []) (sym e) (filled_none (length group) h.group);
      counts = refl;
      warned = refl;
      fits = omega arith;
    }
