use Rattle.std.proofs.Common.{◌≡◌, ℕ, ◌+◌, ◌<◌, ◌≤◌, Bool, true, false, not, List, ◌++◌, map, length, get_or, take, drop, set, Some, None, Option, sym, refl, ap, ◌∙◌, arith}
use Rattle.std.proofs.lemmas.List.{append_assoc, append-nil, take_more_set, take_all, map_more, at_drop_more, at_drop_all}
use Rattle.channel.specs.declared.state.State.{State}
use Rattle.std.specs.Option.{unwrap_or, is_some}
use Rattle.channel.specs.Listed.{encode_all, state_after, or_zero, is_lost}

-- one more byte is encoded
pub words_more : (f : State → ℕ → ℕ × State) (bs ws all : List ℕ) (s : State) (i : ℕ) (r : ℕ × State) → r ≡ f s (get_or bs i 0) → i < length bs → length ws ≡ length bs
    → take i ws ++ encode_all f s (drop i bs) ≡ all → take (i + 1) (set ws i r.0) ++ encode_all f r.1 (drop (i + 1) bs) ≡ all
words_more f bs ws all s i r e l n h =
    let m : i < length ws = omega arith in
    rw (e, take_more_set ws i (f s (get_or bs i 0)).0 m, append_assoc) (sym (at_drop_more (λ xs. take i ws ++ encode_all f s xs) bs i 0 l) ∙ h)

pub state-more : (f : State → ℕ → ℕ × State) (bs : List ℕ) (s t : State) (i : ℕ) (r : ℕ × State) → r ≡ f s (get_or bs i 0) → i < length bs
    → state_after f s (drop i bs) ≡ t → state_after f r.1 (drop (i + 1) bs) ≡ t
state-more f bs s t i r e l h = rw e (sym (at_drop_more (λ xs. state_after f s xs) bs i 0 l) ∙ h)

-- all bytes are encoded
pub words-all : (f : State → ℕ → ℕ × State) (bs ws all : List ℕ) (s : State) (i : ℕ) → length bs ≤ i → length ws ≡ length bs
    → take i ws ++ encode_all f s (drop i bs) ≡ all → ws ≡ all
words-all f bs ws all s i l n h =
    sym (take_all i ws (omega arith)) ∙ (sym (append-nil (take i ws)) ∙ (sym (at_drop_all (λ xs. take i ws ++ encode_all f s xs) bs i l) ∙ h))

pub state-all : (f : State → ℕ → ℕ × State) (bs : List ℕ) (s t : State) (i : ℕ) → length bs ≤ i → state_after f s (drop i bs) ≡ t → s ≡ t
state-all f bs s t i l h = sym (at_drop_all (λ xs. state_after f s xs) bs i l) ∙ h

-- one more word is decoded
pub decoded-more : {Y : Type 0} (k : Option ℕ → Y) (f : ℕ → Option ℕ) (ws : List ℕ) (ys : List Y) (i : ℕ) (y : Y) (o : Option ℕ) → i < length ws → length ys ≡ length ws
    → take i ys ≡ map (λ w. k (f w)) (take i ws) → y ≡ k o → o ≡ f (get_or ws i 0) → take (i + 1) (set ys i y) ≡ map (λ w. k (f w)) (take (i + 1) ws)
decoded-more k f ws ys i y o l n h e d =
    let m : i < length ys = omega arith in
    take_more_set ys i y m ∙ (rw (h, e, d) refl ∙ sym (map_more (λ w. k (f w)) ws i 0 l))

-- all words are decoded
pub decoded-all : {Y : Type 0} (k : Option ℕ → Y) (f : ℕ → Option ℕ) (ws : List ℕ) (ys : List Y) (i : ℕ) → length ws ≤ i → length ys ≡ length ws
    → take i ys ≡ map (λ w. k (f w)) (take i ws) → ys ≡ map (λ w. k (f w)) ws
decoded-all k f ws ys i l n h = sym (take_all i ys (omega arith)) ∙ (h ∙ ap (map (λ w. k (f w))) (take_all i ws l))

-- a byte that may be lost
pub or_zero-is : (o : Option ℕ) → unwrap_or o 0 ≡ or_zero o
or_zero-is None = refl
or_zero-is (Some x) = refl

pub is_lost-is : (o : Option ℕ) (n : Bool) → is_some o ≡ not n → n ≡ is_lost o
is_lost-is None true e = refl
is_lost-is None false e = absurd (let no : ◌≡◌ {A = ℕ} 0 1 = cc in omega arith)
is_lost-is (Some x) true e = absurd (let no : ◌≡◌ {A = ℕ} 0 1 = cc in omega arith)
is_lost-is (Some x) false e = refl
