-- Bytes in the place of others.
use Rattle.std.proofs.Common.{◌≡◌, ℕ, ◌+◌, ◌<◌, ◌≤◌, List, [], ◌∷◌, ◌++◌, length, take, drop, set, sym, refl, ap, ◌∙◌, ap₂, add-zero, arith, length-append, length-drop}
use Rattle.std.proofs.lemmas.List.{append_assoc, take-append-drop, take_at, drop_at, drop-drop, drop_more, length-take-le}
use borrow.Rule.Slice.PartMut.{put_mid}
use Rattle.index.specs.Writing.{replaced}

pub replaced-none : (g : List ℕ) (at : ℕ) → replaced g at [] ≡ g
unfolding replaced
replaced-none g at = ap (λ (n : ℕ). take at g ++ drop n g) (add-zero at) ∙ take-append-drop at g

set-behind : (xs ys : List ℕ) (y : ℕ) → set (xs ++ ys) (length xs) y ≡ xs ++ set ys 0 y
set-behind [] ys y = refl
set-behind (x ∷ xs) ys y = ap (λ (l : List ℕ). x ∷ l) (set-behind xs ys y)

-- one byte more
pub replaced-more : (g : List ℕ) (at i : ℕ) (ys : List ℕ) (y : ℕ) → length ys ≡ i → at + i < length g
    → set (replaced g at ys) (at + i) y ≡ replaced g at (ys ++ (y ∷ []))
unfolding replaced
replaced-more g at i ys y e h =
    ap₂ (λ (l : List ℕ) (n : ℕ). set l n y) (sym (append_assoc (take at g) ys (drop (at + length ys) g))) place
    ∙ (set-behind (take at g ++ ys) (drop (at + length ys) g) y
    ∙ (ap (λ (l : List ℕ). (take at g ++ ys) ++ set l 0 y) (drop_more g (at + length ys) 0 (omega arith))
    ∙ (append_assoc (take at g) ys (y ∷ drop (at + length ys + 1) g)
    ∙ ap (λ (l : List ℕ). take at g ++ l)
    (sym (append_assoc ys (y ∷ []) (drop (at + length (ys ++ (y ∷ []))) g) ∙ ap (λ (n : ℕ). ys ++ (y ∷ drop n g)) (omega (arith, length-append ys (y ∷ []))))))))
  where
    place : at + i ≡ length (take at g ++ ys)
    place = omega (arith, length-append (take at g) ys, length-take-le at g (omega arith))

-- more bytes behind those
pub replaced-replaced : (g : List ℕ) (at b : ℕ) (xs ys : List ℕ) → b ≡ at + length xs → b + length ys ≤ length g
    → replaced (replaced g at xs) b ys ≡ replaced g at (xs ++ ys)
unfolding replaced
replaced-replaced g at b xs ys e h =
    ap₂ (λ (l m : List ℕ). l ++ (ys ++ m)) front behind
    ∙ (append_assoc (take at g) xs (ys ++ drop (at + length (xs ++ ys)) g)
    ∙ ap (λ (l : List ℕ). take at g ++ l) (sym (append_assoc xs ys (drop (at + length (xs ++ ys)) g))))
  where
    n : length (take at g ++ xs) ≡ b
    n = omega (arith, length-append (take at g) xs, length-take-le at g (omega arith))

    split : take at g ++ (xs ++ drop (at + length xs) g) ≡ (take at g ++ xs) ++ drop (at + length xs) g
    split = sym (append_assoc (take at g) xs (drop (at + length xs) g))

    front : take b (take at g ++ (xs ++ drop (at + length xs) g)) ≡ take at g ++ xs
    front = ap (take b) split ∙ take_at (take at g ++ xs) (drop (at + length xs) g) b n

    behind : drop (b + length ys) (take at g ++ (xs ++ drop (at + length xs) g)) ≡ drop (at + length (xs ++ ys)) g
    behind =
        ap (drop (b + length ys)) split
        ∙ (sym (drop-drop (length ys) b ((take at g ++ xs) ++ drop (at + length xs) g))
        ∙ (ap (drop (length ys)) (drop_at (take at g ++ xs) (drop (at + length xs) g) b n)
        ∙ (drop-drop (length ys) (at + length xs) g ∙ ap (λ (k : ℕ). drop k g) (omega (arith, length-append xs ys)))))

pub length-replaced : (g : List ℕ) (at : ℕ) (ys : List ℕ) → at + length ys ≤ length g → length (replaced g at ys) ≡ length g
unfolding replaced
length-replaced g at ys h =
    length-append (take at g) (ys ++ drop (at + length ys) g)
    ∙ omega (arith, length-take-le at g (omega arith), length-append ys (drop (at + length ys) g), length-drop (at + length ys) g)

-- in the middle of three
pub replaced-middle : (xs ys zs ws : List ℕ) (at : ℕ) → at ≡ length xs → length ys ≡ length ws → replaced (xs ++ (ys ++ zs)) at ws ≡ xs ++ (ws ++ zs)
unfolding replaced
replaced-middle xs ys zs ws at e h =
    ap₂ (λ (l m : List ℕ). l ++ (ws ++ m)) (take_at xs (ys ++ zs) at (sym e))
    (ap (drop (at + length ws)) (sym (append_assoc xs ys zs)) ∙ drop_at (xs ++ ys) zs (at + length ws) (omega (arith, length-append xs ys)))

-- one write behind another
pub replaced-then : (g h k : List ℕ) (at b : ℕ) (xs ys : List ℕ) → h ≡ replaced g at xs → k ≡ replaced h b ys → b ≡ at + length xs → b + length ys ≤ length g
    → k ≡ replaced g at (xs ++ ys)
replaced-then g h k at b xs ys p q e l = q ∙ (ap (λ (x : List ℕ). replaced x b ys) p ∙ replaced-replaced g at b xs ys e l)

-- a part written anew
pub replaced-mid : (g xs ys : List ℕ) (at k : ℕ) → k ≡ length ys → xs ≡ ys → put_mid at k g xs ≡ replaced g at ys
unfolding replaced
replaced-mid g xs ys at k e p =
    ap (λ (x : List ℕ). take at g ++ (x ++ drop k (drop at g))) p
    ∙ ap (λ (x : List ℕ). take at g ++ (ys ++ x)) (drop-drop k at g ∙ ap (λ (n : ℕ). drop n g) (ap (λ n. at + n) e))
