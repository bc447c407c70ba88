-- What the definitions give in the settled examples.
use Rattle.std.proofs.Common.{◌≡◌, ℕ, zero, suc, ◌<◌, true, ltb, leb, List, [], ◌∷◌, ◌++◌, length, get_or, replicate, Some, refl, ap, subst, arith, lit≤}
use Rattle.std.proofs.ByRecursion.{All-from_get_or}
use Rattle.std.proofs.lemmas.Bool.{agree_below}
use Rattle.galois.proofs.Below.{at-eq, at-lt}
use Rattle.galois.specs.Galois.{xtime, horner, gmul, gpow}
use Rattle.reed_solomon.specs.Words.{syndrome, Bytes, Places, Off, Checks}
use Rattle.layout.specs.Counts.{which}
use Rattle.layout.specs.Reading.{filling, byte_at}
use Rattle.layout.specs.Writing.{c3_checks}
use Rattle.layout.proofs.Counts.{which-below, which-distinct}
use Rattle.layout.proofs.Filling.{fills}
use Rattle.settled.specs.Examples.{one43}

checked43 : List ℕ
checked43 = replicate 43 0 ++ (1 ∷ 3 ∷ 2 ∷ [])

bytes-by : (xs : List ℕ) (n : ℕ) → length xs ≡ n → agree_below (λ k. ltb (get_or xs k 0) 256) (λ _. true) n ≡ true → Bytes xs
bytes-by xs n e t =
    All-from_get_or (λ x. x < 256) xs 0 (λ k h. at-lt (λ k. get_or xs k 0) (λ _. 256) n t k (subst (λ m. k < m) e h))

c3-one43 : filling 2 c3_checks one43 ≡ Some checked43
unfolding one43 checked43 c3_checks which
c3-one43 = fills 2 c3_checks one43 checked43 (lit≤ tt) (bytes-by one43 46 refl refl) places (lit≤ tt) (bytes-by checked43 46 refl refl) off checks
  where
    places : Places (length one43) c3_checks
    places = record { within = which-below (λ k. leb 44 k) 46 46 (lit≤ tt); once = which-distinct (λ k. leb 44 k) 46 }

    off : Off c3_checks one43 checked43
    off =
        record {
          size = refl;
          same = λ k h a. let l : k < 44 = (let x = a.0 in let y = a.1.0 in omega arith) in at-eq (λ k. get_or one43 k 0) (λ k. get_or checked43 k 0) 44 refl k l;
        }

    checks : Checks 2 checked43
    checks zero h = unfold syndrome gmul gpow horner xtime in refl
    checks (suc zero) h = unfold syndrome gmul gpow horner xtime in refl
    checks (suc (suc e)) h = absurd (omega arith)

pub c3-bytes : (byte_at 44 (filling 2 c3_checks one43) ∷ byte_at 45 (filling 2 c3_checks one43) ∷ []) ≡ 3 ∷ 2 ∷ []
unfolding checked43
c3-bytes = ap (λ w. byte_at 44 w ∷ byte_at 45 w ∷ []) c3-one43
