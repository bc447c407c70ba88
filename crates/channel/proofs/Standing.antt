use Rattle.std.proofs.Common.{◌≡◌, ℕ, suc, ◌+◌, ◌*◌, ◌/◌, ◌<◌, ◌≤◌, List, [], ◌∷◌, length, get_or, Some, Ok, Err, Option, sym, refl, ap, ◌∙◌, ⊎_elim, arith, lit<}
use Rattle.std.proofs.lemmas.Nat.{mod_below}
use Rattle.std.proofs.lemmas.Bool.{cases_lt, lt-ltb, le-ltb}
use Rattle.channel.specs.declared.state.State.{State}
use Rattle.channel.specs.declared.fault.SheetFault.{SheetFault}
use Rattle.channel.specs.declared.fault.SheetFault.TheVariants.{WrongCount, WideNumber, SharedWord}
use Rattle.channel.specs.States.{state_number}
use Rattle.channel.specs.Codes.{place, word_of, next_of, sheet_encode, Good, Narrow, Wide, Apart, Shared}
use Rattle.channel.specs.Faults.{Declined}
use Rattle.channel.specs.Stand.{GoodSheetsServe, DecodesNoMore, SharedWordsServeNever, OneVerdict, SeriesComeBack, SeriesFit, SeriesJoin}
use Rattle.channel.specs.Laws.{byte_of-some, sheet-back, place-below, place_of}

parts : (n : ℕ) → n ≤ 2047 → n ≡ word_of n + 1024 * state_number (next_of n)
parts n h =
    ⊎_elim
    (λ (l : n < 1024). rw (lt-ltb n 1024 l) (omega arith))
    (λ (l : 1024 ≤ n). rw (le-ltb n 1024 l) (omega arith))
    (cases_lt n 1024)

pub serve : GoodSheetsServe
serve xs (z, n, a) s b h = (
  parts (get_or xs (place s b) 0) (n (place s b) (omega (arith, place-below s b h))),
  mod_below (get_or xs (place s b) 0) 1024 (lit< tt),
  sheet-back xs s b z a h,
)

pub exact : DecodesNoMore
exact xs w b (z, n, a) e =
    let r = byte_of-some xs (length xs) w b e in
    let p = place_of r.0 in (
      p.0,
      omega (arith, r.1, r.3),
      ap (λ (m : ℕ). word_of (get_or xs (place p.0 m) 0)) (sym r.3) ∙ (ap (λ (m : ℕ). word_of (get_or xs m 0)) p.1 ∙ r.2),
    )

-- what a decoding gives for the word at a place
at_place : (xs : List ℕ) (decode : ℕ → Option ℕ) (i : ℕ) → i < 512 → ((s : State) (b : ℕ) → b < 256 → decode (sheet_encode xs s b).0 ≡ Some b) → decode (word_of (get_or xs i 0)) ≡ Some (i / 2)
at_place xs decode i l h =
    let p = place_of i in
    ap (λ (m : ℕ). decode (word_of (get_or xs m 0))) (sym p.1) ∙ h p.0 (i / 2) (omega arith)

pub only : SharedWordsServeNever
only xs decode z (i, j, il, jl, e, ne) h =
    let p = at_place xs decode i (omega arith) h in
    let q = at_place xs decode j (omega arith) h in
    let t = ap decode e in
    let both : i / 2 ≡ j / 2 = cc (p, q, t) in
    ne both

not-shared : (xs : List ℕ) → Apart xs → Shared xs → ⊥
not-shared xs a (i, j, il, jl, e, ne) = ne (a i j (il, jl, e))

not_wide : (xs : List ℕ) → Narrow xs → Wide xs → ⊥
not_wide xs n (i, l, w) = omega (arith, n i l)

not-declined : (xs : List ℕ) (e : SheetFault) → Good xs → Declined xs e → ⊥
not-declined xs WrongCount g d = d g.0
not-declined xs WideNumber g d = not_wide xs g.1 d.1
not-declined xs SharedWord g d = not-shared xs g.2 d.2

one-reason : (xs : List ℕ) (d e : SheetFault) → Declined xs d → Declined xs e → d ≡ e
one-reason xs WrongCount WrongCount p q = refl
one-reason xs WrongCount WideNumber p q = absurd (p q.0)
one-reason xs WrongCount SharedWord p q = absurd (p q.0)
one-reason xs WideNumber WrongCount p q = absurd (q p.0)
one-reason xs WideNumber WideNumber p q = refl
one-reason xs WideNumber SharedWord p q = absurd (not_wide xs q.1 p.1)
one-reason xs SharedWord WrongCount p q = absurd (q p.0)
one-reason xs SharedWord WideNumber p q = absurd (not_wide xs p.1 q.1)
one-reason xs SharedWord SharedWord p q = refl

pub verdict : OneVerdict
verdict xs (Ok _) (Ok _) p q = refl
verdict xs (Ok _) (Err e) p q = absurd (not-declined xs e p q)
verdict xs (Err d) (Ok _) p q = absurd (not-declined xs d q p)
verdict xs (Err d) (Err e) p q = ap Err (one-reason xs d e p q)

pub come-back : SeriesComeBack
come-back f g h s [] a = (refl, refl)
come-back f g h s (b ∷ bs) (l, a) =
    let r = come-back f g h (f s b).1 bs a in
    let e = h s b l in
    (rw (e, r.0) refl, rw (e, r.1) refl)

pub fit : SeriesFit
fit f h s [] a = (refl, tt)
fit f h s (b ∷ bs) (l, a) = let r = fit f h (f s b).1 bs a in (ap suc r.0, (h s b l, r.1))

pub join : SeriesJoin
join f s [] cs = (refl, refl)
join f s (b ∷ bs) cs = let r = join f (f s b).1 bs cs in (ap (λ (ws : List ℕ). (f s b).0 ∷ ws) r.0, r.1)
