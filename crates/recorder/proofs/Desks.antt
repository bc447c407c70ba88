-- Steps on an open recording and its tape.
use Rattle.std.proofs.Common.{◌≡◌, ℕ, ◌+◌, ◌*◌, ◌<◌, ◌≤◌, true, cond, ◌&&◌, eqb, ltb, leb, List, [], length, replicate, Ok, Result, sym, ap, ◌∙◌, subst, ap₂, arith, rules}
use Rattle.std.proofs.lemmas.Bool.{cond-true, eq-eqb}
use Rattle.std.proofs.lemmas.Bool.Decides.{nat_tests}
use Rattle.writing.specs.Groups.{Answer as Written, lent, reached, and_then as after, outcome as written, with_group}
use Rattle.std.specs.Result.{is_ok}
use Rattle.index.specs.declared.fault.LayFault.{LayFault}
use Rattle.index.specs.Writing.{laying}
use Rattle.tape.specs.Tape.{Track}
use Rattle.channel.specs.Line.{Code}
use Rattle.index.specs.declared.kind.Kind.{Kind}
use Rattle.index.specs.declared.kind.Kind.TheVariants.{Last, Total}
use lib.ListN.{length-replicate}
use Rattle.runs.proofs.Storing.{stored-length}
use Rattle.recorder.specs.Views.{Ready}
use Rattle.runs.specs.Run.{Lent}
use Rattle.calls.specs.Declines.{Answer, admitted}
use Rattle.calls.specs.Calls.{cleared}
use Rattle.calls.specs.Held.{Book, Held, entered, turned}
use Rattle.calls.specs.Laying.{Desk, desk, laid, closing, taped, stored_on, put, put_part, room}

-- a group stored leaves the tape its length
pub length-taped : (c : Code) (last : ℕ) (d : Desk) → length (taped c last d) ≡ length d.tracks
length-taped c last d = stored-length _ d.held.book.number d.tracks

abbrev held : Book → List ℕ → Held
held b g = record { book = b; group = g }

-- a group stored, and then the next one opened
pub desk-stored : (c : Code) (h : Held) (ts us : List Track) (e : Book) (g : List ℕ) → g ≡ replicate (length h.group) 0
    → e ≡ turned h.book → us ≡ taped c 0 (desk h ts) → desk (held e g) us ≡ stored_on c (desk h ts)
desk-stored c h ts us e g p q r = ap₂ desk (ap₂ held q p) r

-- and the next one can be laid into as the last
pub ready-stored : (c : Code) (h : Held) (ts us : List Track) (e : Book) (g : List ℕ) → g ≡ replicate (length h.group) 0
    → e ≡ turned h.book → us ≡ taped c 0 (desk h ts) → Ready (desk h ts) → Ready (desk (held e g) us)
ready-stored c h ts us e g p q r d =
    subst Ready (sym (desk-stored c h ts us e g p q r)) (
    let a = d.admitted in
    record {
      admitted = record { group = length-replicate (length h.group) 0 ∙ a.group; tap = a.tap; start = a.start; limit = a.limit };
      tape = omega (arith, d.tape, length-taped c 0 (desk h ts));
    })

-- an entry laid changes nothing of that
pub ready-put : (k : Kind) (n : ℕ) (bs : List ℕ) (h i : Held) (ts : List Track) → i ≡ laid k n bs h → length i.group ≡ 126632
    → Ready (desk h ts) → Ready (desk i ts)
ready-put k n bs h i ts e l d =
    let a = d.admitted in
    let b : i.book ≡ entered k n (length bs) h.book = ap (λ (x : Held). x.book) e in
    let limit : i.book.limit ≡ h.book.limit = ap (λ (x : Book). x.limit) b in
    record {
      admitted = record {
        group = l;
        tap = omega (arith, a.tap, ap (λ (x : Book). x.settings.tap) b);
        start = omega (arith, a.start, ap (λ (x : Book). x.settings.start) b);
        limit = omega (arith, a.limit, limit);
      };
      tape = omega (arith, d.tape, limit);
    }

-- a last part, room for the total, and the total
pub laid-then-total : (c : Code) (n : ℕ) (bs : List ℕ) (h : Held) (ts us : List Track) (h₁ h₂ h₃ : Held) → h₁ ≡ laid Last (length bs) bs h
    → desk h₂ us ≡ room c 4 (desk h₁ ts) → h₃ ≡ laid Total n [] h₂ → desk h₃ us ≡ put Total n [] (room c 4 (put_part Last bs (desk h ts)))
laid-then-total c n bs h ts us h₁ h₂ h₃ p q r = ap (λ (x : Held). desk x us) r ∙ ap (λ (d : Desk). put Total n [] d) (q ∙ ap (λ (x : Held). room c 4 (desk x ts)) p)

-- a group that is completed and written
pub group-taped : (c : Code) (h : Held) (ts us : List Track) (last buffer bench : ℕ) (g : List ℕ) (r : Result (Unit {0}) LayFault) (a : Written)
    → length h.group ≡ 126632 → h.book.warned < 2 → h.book.fill.used + 4 * h.book.fill.entries ≤ 126596
    → h.book.settings.tap < 32768 → h.book.settings.start < 32768 → 1 ≤ h.book.number → 46 * h.book.number ≤ length ts
    → buffer ≡ 4608 → bench ≡ 138048 → r ≡ laying h.group h.book.fill 0 h.book.warned → g ≡ cond (is_ok r) (closing last h) h.group → length g ≡ length h.group
    → a ≡ after (lent buffer h.book.settings.tap h.book.settings.start (length g) bench) (reached h.book.number (length ts))
    → us ≡ written a (with_group c h.book.settings.tap h.book.settings.start h.book.number g ts) ts → us ≡ taped c last (desk h ts)
group-taped c h ts us last buffer bench g r a size warn fit tap start one there bf bn rr gg gl aa uu =
    uu
    ∙ (ap (λ (x : Written). written x (with_group c h.book.settings.tap h.book.settings.start h.book.number g ts) ts) (aa ∙ passes)
    ∙ ap (λ (x : List ℕ). with_group c h.book.settings.tap h.book.settings.start h.book.number x ts) (gg ∙ cond-true (is_ok r) _ _ (ap is_ok (rr ∙ room'))))
  where
    s₁ : eqb (length h.group) 126632 ≡ true
    s₁ = eq-eqb (length h.group) 126632 size

    s₂ : ltb h.book.warned 2 ≡ true
    s₂ = grind (arith, nat_tests)

    s₃ : leb (h.book.fill.used + 0 + 4 * (h.book.fill.entries + 1)) 126600 ≡ true
    s₃ = grind (arith, nat_tests)

    room' : laying h.group h.book.fill 0 h.book.warned ≡ Ok tt
    room' = cond-true _ _ _ s₁ ∙ (cond-true _ _ _ s₂ ∙ cond-true _ _ _ s₃)

    t₁ : eqb buffer 4608 ≡ true
    t₁ = eq-eqb buffer 4608 bf

    t₂ : (ltb h.book.settings.tap 32768 && ltb h.book.settings.start 32768) ≡ true
    t₂ = grind (arith, nat_tests)

    t₃ : eqb (length g) 126632 ≡ true
    t₃ = eq-eqb (length g) 126632 (gl ∙ size)

    t₄ : eqb bench 138048 ≡ true
    t₄ = eq-eqb bench 138048 bn

    t₅ : (ltb 0 h.book.number && leb (46 * h.book.number) (length ts)) ≡ true
    t₅ = grind (arith, nat_tests)

    passes : after (lent buffer h.book.settings.tap h.book.settings.start (length g) bench) (reached h.book.number (length ts)) ≡ Ok tt
    passes =
        ap₂ after (cond-true _ _ _ t₁ ∙ (cond-true _ _ _ t₂ ∙ (cond-true _ _ _ t₃ ∙ cond-true _ _ _ t₄))) (cond-true _ _ _ t₅)

-- a call that is admitted is lent memory of the right sizes
pub admitted-track : (m : Lent) (n : ℕ) (b : Book) → admitted m n b ≡ Ok tt → m.track ≡ 4608
admitted-track m n b e = search rules

pub admitted-bench : (m : Lent) (n : ℕ) (b : Book) → admitted m n b ≡ Ok tt → m.bench ≡ 138048
admitted-bench m n b e = search rules

-- what is lent is zero behind a call that is admitted
pub cleared-lent : (a : Answer) (xs ys : List ℕ) (n : ℕ) → a ≡ Ok tt → length xs ≡ n → length ys ≡ n → (z : List ℕ) → z ≡ replicate (length ys) 0 → z ≡ cleared a xs
cleared-lent a xs ys n e h l z f = f ∙ ap (λ k. replicate k 0) (l ∙ sym h) ∙ sym (ap (λ a. cleared a xs) e)
