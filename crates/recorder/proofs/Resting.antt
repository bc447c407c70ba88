-- Laying the rest of a record, group by group.
use Rattle.std.proofs.Common.{◌≡◌, ℕ, zero, suc, ◌+◌, ◌-◌, ◌<◌, ◌≤◌, Bool, true, false, cond, leb, List, [], length, take, drop, sym, refl, ap, ◌∙◌, subst, arith, length-drop, take_all}
use Rattle.std.proofs.lemmas.Bool.{leb-false, cond-false, cond-true}
use Rattle.std.proofs.lemmas.Bool.Decides.{nat_tests}
use Rattle.channel.specs.Line.{Code}
use Rattle.index.specs.declared.kind.Kind.TheVariants.{Start, Middle, Last, Entire, Total}
use Rattle.calls.specs.Held.{Book, free, rest_ends}
use Rattle.calls.specs.Laying.{Desk, stored_on, put, put_part, room, lay_rest, lay_parts, lay_begun, lay_record}
use Rattle.calls.proofs.Carrying.{room-free}

-- any bound from the rest's length on lays the same
bound-free : (c : Code) (f h n : ℕ) (bs : List ℕ) (d : Desk) → 5 ≤ free d.held.book → 1 ≤ length bs → length bs ≤ f → length bs ≤ h
    → lay_rest c f n bs d ≡ lay_rest c h n bs d
unfolding lay_rest
bound-free c zero h n bs d r b f g = absurd (omega arith)
bound-free c (suc f) zero n bs d r b p q = absurd (omega arith)
bound-free c (suc f) (suc h) n bs d r b p q = go (leb (length bs + 4) (free d.held.book)) refl
    (λ t. let u = leb-false (length bs + 4) (free d.held.book) t in let l = length-drop (free d.held.book - 4) bs in
    bound-free c f h n (drop (free d.held.book - 4) bs) (stored_on c (put_part Middle (take (free d.held.book - 4) bs) d))
    (omega arith) (omega arith) (omega arith) (omega arith))
  where
    more : ℕ → Desk
    more f = lay_rest c f n (drop (free d.held.book - 4) bs) (stored_on c (put_part Middle (take (free d.held.book - 4) bs) d))

    go : (x : Bool) → leb (length bs + 4) (free d.held.book) ≡ x → (leb (length bs + 4) (free d.held.book) ≡ false → more f ≡ more h)
        → cond x (put Total n [] (room c 4 (put_part Last bs d))) (more f) ≡ cond x (put Total n [] (room c 4 (put_part Last bs d))) (more h)
    go true e k = refl
    go false e k = k e

-- the rest ends in this group
pub rest-ends : (c : Code) (n : ℕ) (bs : List ℕ) (d : Desk) → 1 ≤ length bs → length bs + 4 ≤ free d.held.book
    → lay_rest c (length bs) n bs d ≡ put Total n [] (room c 4 (put_part Last bs d))
unfolding lay_rest
rest-ends c n bs d b h = go (length bs) refl
  where
    go : (f : ℕ) → f ≡ length bs → lay_rest c f n bs d ≡ put Total n [] (room c 4 (put_part Last bs d))
    go zero e = absurd (omega arith)
    go (suc f) e = cond-true (leb (length bs + 4) (free d.held.book)) _ _ (grind (arith, nat_tests))

-- a middle part, and the rest of it
pub rest-goes-on : (c : Code) (n p : ℕ) (bs : List ℕ) (d : Desk) → 5 ≤ free d.held.book → free d.held.book < length bs + 4 → p ≡ free d.held.book - 4
    → lay_rest c (length bs) n bs d ≡ lay_rest c (length (drop p bs)) n (drop p bs) (stored_on c (put_part Middle (take p bs) d))
unfolding lay_rest
rest-goes-on c n p bs d b h e = go (length bs) refl ∙ ap (λ (k : ℕ). lay_rest c (length (drop k bs)) n (drop k bs) (stored_on c (put_part Middle (take k bs) d))) (sym e)
  where
    q : ℕ
    q = free d.held.book - 4

    go : (f : ℕ) → f ≡ length bs → lay_rest c f n bs d ≡ lay_rest c (length (drop q bs)) n (drop q bs) (stored_on c (put_part Middle (take q bs) d))
    go zero e = absurd (omega arith)
    go (suc f) e =
        let l = length-drop q bs in
        cond-false (leb (length bs + 4) (free d.held.book)) _ _ (grind (arith, nat_tests))
        ∙ bound-free c f (length (drop q bs)) n (drop q bs) (stored_on c (put_part Middle (take q bs) d)) (omega arith) (omega arith) (omega arith) (omega arith)

-- a record that is laid in parts
pub parts-laid : (c : Code) (p : ℕ) (bs : List ℕ) (d d₁ d₂ d₃ : Desk) → d₁ ≡ room c 5 d → p ≡ free d₁.held.book - 4 → free d₁.held.book < length bs + 4
    → d₂ ≡ stored_on c (put_part Start (take (p - 0) bs) d₁) → d₃ ≡ lay_rest c (length (take (length bs - p) (drop p bs))) (length bs) (take (length bs - p) (drop p bs)) d₂
    → d₃ ≡ lay_record c bs d
parts-laid c p bs d d₁ d₂ d₃ r e h s t =
    t ∙ (ap (λ (us : List ℕ). lay_rest c (length us) (length bs) us d₂) (take_all (length bs - p) (drop p bs) (omega (arith, l)))
    ∙ (bound-free c (length (drop p bs)) (length bs) (length bs) (drop p bs) d₂ (omega (arith, o)) (omega (arith, l, five)) (omega arith) (omega (arith, l))
    ∙ (ap (λ (x : Desk). lay_rest c (length bs) (length bs) (drop p bs) x) (s ∙ ap (λ (k : ℕ). stored_on c (put_part Start (take k bs) d₁)) z)
    ∙ (ap (λ (k : ℕ). lay_rest c (length bs) (length bs) (drop k bs) (stored_on c (put_part Start (take k bs) d₁))) e
    ∙ (sym (cond-false (leb (length bs + 4) (free d₁.held.book)) (put_part Entire bs d₁) (lay_parts c bs d₁) (grind (arith, nat_tests)))
    ∙ ap (lay_begun c bs) r)))))
  where
    l : length (drop p bs) ≡ length bs - p
    l = length-drop p bs

    z : p - 0 ≡ p
    z = omega arith

    o : free d₂.held.book ≡ 126596
    o = ap (λ (x : Desk). free x.held.book) s

    five : 5 ≤ free d₁.held.book
    five = subst (λ (x : Desk). 5 ≤ free x.held.book) (sym r) (room-free c 5 d (omega arith))

-- the rest of a record at the opening of a group: bs on the desk d before, rest on the desk e now
pub record Resting (c : Code) (n : ℕ) (bs rest : List ℕ) (d e : Desk) : Type 0 where
  pub laid : lay_rest c (length rest) n rest e ≡ lay_rest c (length bs) n bs d
  pub some : 1 ≤ length rest
  pub few : length rest ≤ 16777215
  pub opening : free e.held.book ≡ 126596
  pub next : rest_ends e.held.book.number (length rest) ≤ e.held.book.limit

-- a middle part more; the rest is written as a range of the code
pub resting-more : (c : Code) (n p : ℕ) (bs rest : List ℕ) (d e f : Desk) → Resting c n bs rest d e → free e.held.book < length rest + 4 → p ≡ free e.held.book - 4
    → f ≡ stored_on c (put_part Middle (take (p - 0) rest) e) → Resting c n bs (take (length rest - p) (drop p rest)) d f
resting-more c n p bs rest d e f r h q w = subst (λ (us : List ℕ). Resting c n bs us d f) (sym (take_all (length rest - p) (drop p rest) (omega (arith, length-drop p rest))))
    (
    let l = length-drop p rest in
    let o = r.opening in
    let z : p - 0 ≡ p = omega arith in
    let s : f ≡ stored_on c (put_part Middle (take p rest) e) = w ∙ ap (λ (k : ℕ). stored_on c (put_part Middle (take k rest) e)) z in
    let b : f.held.book ≡ (stored_on c (put_part Middle (take p rest) e)).held.book = ap (λ (x : Desk). x.held.book) s in
    let k = ap (λ (x : Book). x.number) b in
    let m = ap (λ (x : Book). x.limit) b in
    record {
      laid = ap (λ (x : Desk). lay_rest c (length (drop p rest)) n (drop p rest) x) s ∙ (sym (rest-goes-on c n p rest e (omega arith) h q) ∙ r.laid);
      some = omega arith;
      few = omega (arith, r.few);
      opening = ap (λ (x : Book). free x) b;
      next = omega (arith, r.next, k, m);
    })
