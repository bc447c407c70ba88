-- The answer of each call has the number of the call on the recording of a run.
use Rattle.std.proofs.Common.{◌≡◌, ℕ, ◌+◌, ◌-◌, ◌*◌, Bool, true, false, cond, ◌&&◌, ◌||◌, eqb, ltb, leb, List, length, Ok, Err, sym, refl, ap, ◌∙◌, subst, ap₂, add-one, arith}
use Rattle.std.proofs.lemmas.Bool.Decides.{nat_tests}
use Rattle.layout.specs.declared.settings.Settings.{Settings}
use Rattle.laying.specs.Lay.{Recording, complete}
use Rattle.laying.specs.Lay
use Rattle.laying.specs.Calls.{Call.record', Call.mark', declines}
use Rattle.runs.specs.Run.{Lent, refusal, lacks}
use Rattle.calls.specs.declared.fault.Decline.{Decline}
use Rattle.calls.specs.declared.fault.Decline.TheVariants.{TrackBuffer, Setting, GroupBuffer, ShortTape, Length, Full, MarkKind, LostTracks, Bench}
use Rattle.calls.specs.Held.{Held, free, turned, rest_ends, begun_ends, record_ends, mark_ends}
use Rattle.calls.specs.Declines.{Answer, number, number_of, and_then, refused, lends, admitted, reaches, recordable, markable}
use Rattle.calls.specs.Calls.{Follows, first}
use Rattle.calls.proofs.Following.{follows-free, follows-stored}

-- ---- answers one after another

pub then-number : (a b : Answer) → number_of (and_then a b) ≡ first (number_of a) (number_of b)
then-number (Ok u) b = refl
then-number (Err e) b = go e
  where
    go : (e : Decline) → number e ≡ first (number e) (number_of b)
    go TrackBuffer = refl
    go Setting = refl
    go GroupBuffer = refl
    go ShortTape = refl
    go Length = refl
    go Full = refl
    go MarkKind = refl
    go LostTracks = refl
    go Bench = refl

pub then-assoc : (a b c : Answer) → and_then (and_then a b) c ≡ and_then a (and_then b c)
then-assoc (Ok u) b c = refl
then-assoc (Err e) b c = refl

-- ---- the groups in which items end

module _ (x : Settings) where
  pub begun-ends : (n : ℕ) (h : Held) (s : Recording) → Follows x h s → begun_ends n h.book ≡ Lay.begun_ends n s
  begun-ends n h s f =
      ap₂ (λ (w k : ℕ). cond (leb (n + 4) w) k (rest_ends (k + 1) (n - (w - 4)))) (follows-free x h s f) f.number
      ∙ ap (λ (k : ℕ). cond (leb (n + 4) (Lay.free s)) (Lay.current s) (rest_ends k (n - (Lay.free s - 4)))) (add-one (Lay.current s))

  module _ (h : Held) (s : Recording) (f : Follows x h s) where
    pub record-ends : (n : ℕ) → record_ends n h.book ≡ Lay.record_ends n s
    record-ends n =
        subst (λ (w : ℕ). record_ends n h.book ≡ Lay.begun_ends n (cond (leb 5 w) s (complete s))) (follows-free x h s f) (go (leb 5 (free h.book)))
      where
        go : (b : Bool) → begun_ends n (cond b h.book (turned h.book)) ≡ Lay.begun_ends n (cond b s (complete s))
        go true = begun-ends n h s f
        go false = begun-ends n _ (complete s) (follows-stored x h s f)

    pub mark-ends : mark_ends h.book ≡ Lay.mark_ends s
    mark-ends =
        subst (λ (w : ℕ). mark_ends h.book ≡ Lay.current (cond (leb 4 w) s (complete s))) (follows-free x h s f) (go (leb 4 (free h.book)))
      where
        go : (b : Bool) → (cond b h.book (turned h.book)).number ≡ Lay.current (cond b s (complete s))
        go true = f.number
        go false = (follows-stored x h s f).number

    -- ---- the number of each answer

    pub record-number : (bs : List ℕ) → number_of (recordable (length bs) h.book) ≡ declines s (record' bs)
    record-number bs =
        go (eqb (length bs) 0 || ltb 16777215 (length bs)) (ltb h.book.limit (record_ends (length bs) h.book))
        ∙ ap₂ (λ (g e : ℕ). cond (eqb (length bs) 0 || ltb 16777215 (length bs)) 11 (cond (ltb g e) 12 0)) f.limit (record-ends (length bs))
      where
        go : (a b : Bool) → number_of (cond a (Err Length) (cond b (Err Full) (Ok tt))) ≡ cond a 11 (cond b 12 0)
        go true b = refl
        go false true = refl
        go false false = refl

    pub mark-number : (k : ℕ) → number_of (markable k h.book) ≡ declines s (mark' k)
    mark-number k =
        go (eqb k 1 || eqb k 2) (ltb h.book.limit (mark_ends h.book))
        ∙ ap₂ (λ (g e : ℕ). cond (eqb k 1 || eqb k 2) (cond (ltb g e) 12 0) 13) f.limit mark-ends
      where
        go : (a b : Bool) → number_of (cond a (cond b (Err Full) (Ok tt)) (Err MarkKind)) ≡ cond a (cond b 12 0) 13
        go true true = refl
        go true false = refl
        go false b = refl

    pub refused-number : (size : ℕ) → number_of (refused h.book size) ≡ refusal x size (46 * s.limit)
    refused-number size =
        go (ltb h.book.settings.tap 32768 && ltb h.book.settings.start 32768) (eqb size 126632) (ltb 0 h.book.limit)
        ∙ ap₂ (λ (z : Settings) (b : Bool). cond (ltb z.tap 32768 && ltb z.start 32768) (cond (eqb size 126632) (cond b 0 10) 9) 8) f.settings long
      where
        go : (a b l : Bool) → number_of (cond a (cond b (cond l (Ok tt) (Err ShortTape)) (Err GroupBuffer)) (Err Setting)) ≡ cond a (cond b (cond l 0 10) 9) 8
        go true true true = refl
        go true true false = refl
        go true false l = refl
        go false b l = refl

        enough : (g : ℕ) → ltb 0 g ≡ leb 46 (46 * g)
        enough g = grind (arith, nat_tests)

        long : ltb 0 h.book.limit ≡ leb 46 (46 * s.limit)
        long = ap (ltb 0) f.limit ∙ enough s.limit

    pub lacks-number : (m : Lent) (n : ℕ) → number_of (and_then (lends m) (reaches n h.book)) ≡ lacks m s.limit n
    lacks-number m n =
        go (eqb m.track 4608) (eqb m.bench 138048) (ltb n (46 * h.book.limit))
        ∙ ap (λ (g : ℕ). cond (eqb m.track 4608) (cond (eqb m.bench 138048) (cond (ltb n (46 * g)) 14 0) 15) 6) f.limit
      where
        go : (a b l : Bool) → number_of (and_then (cond a (cond b (Ok tt) (Err Bench)) (Err TrackBuffer)) (cond l (Err LostTracks) (Ok tt))) ≡ cond a (cond b (cond l 14 0) 15) 6
        go true true true = refl
        go true true false = refl
        go true false l = refl
        go false b l = refl

    -- of what is refused, of what is lent and of the tape, and then of an item
    pub lent-number : (size : ℕ) (m : Lent) (n : ℕ)
        → number_of (and_then (admitted m size h.book) (reaches n h.book)) ≡ first (refusal x size (46 * s.limit)) (lacks m s.limit n)
    lent-number size m n =
        ap number_of (then-assoc (refused h.book size) (lends m) (reaches n h.book))
        ∙ then-number (refused h.book size) (and_then (lends m) (reaches n h.book))
        ∙ ap₂ first (refused-number size) (lacks-number m n)

    pub item-number : (size : ℕ) (m : Lent) (n : ℕ) (r : Answer) (k : ℕ) → number_of r ≡ k
        → number_of (and_then (admitted m size h.book) (and_then (reaches n h.book) r)) ≡ first (refusal x size (46 * s.limit)) (first (lacks m s.limit n) k)
    item-number size m n r k e =
        ap number_of (then-assoc (refused h.book size) (lends m) (and_then (reaches n h.book) r))
        ∙ ap (λ (z : Answer). number_of (and_then (refused h.book size) z)) (sym (then-assoc (lends m) (reaches n h.book) r))
        ∙ then-number (refused h.book size) (and_then (and_then (lends m) (reaches n h.book)) r)
        ∙ ap₂ first (refused-number size) (then-number (and_then (lends m) (reaches n h.book)) r ∙ ap₂ first (lacks-number m n) e)
