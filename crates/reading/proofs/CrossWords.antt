-- C3 words filled one after another.
use Rattle.std.proofs.Common.{◌≡◌, ℕ, ◌+◌, ◌*◌, ◌/◌, ◌%◌, ◌<◌, ◌≤◌, Bool, true, false, not, ◌&&◌, ◌≢◌, List, get_or, Some, None, sym, refl, ap, ◌∙◌, subst, ap₂, inl, inr, arith}
use Rattle.std.proofs.lemmas.Bool.{cases_Bool, cases_eq, both_ways, and_left, false≢true}
use Rattle.reed_solomon.specs.Interleaves.{interleaved}
use Rattle.layout.specs.Placing.{number_at, is_data}
use Rattle.layout.specs.Group.{is_none}
use Rattle.layout.specs.Reading.{filling, byte_at}
use Rattle.layout.proofs.Counts.{listed_same}
use Rattle.reading.specs.Arrays.{Recovered}
use Rattle.reading.specs.Groups.{filling_in, bad_in, Column, Columns, Filled}
use Rattle.reading.proofs.Marks.{interleaved-is}
use Rattle.reading.proofs.Firsts.{first-later, first-here, first-over, data-parts, apart, data-at}

pub columns-start : (ps xs : List ℕ) → Columns ps xs xs 0
columns-start ps xs = record { rest = refl; done = λ i k h. absurd (omega arith); others = λ q k h e. refl }

module _ (ps xs ys zs : List ℕ) (p : ℕ) (hp : p < 4096) (c : Columns ps xs ys p) where
  number : ℕ
  number = number_at (p / 32) (p % 32)

  -- the word at place p is as it was
  module _ (d : is_data (p / 32) (p % 32) ≡ true) where
    filling-same : filling 2 ps (interleaved ys (number_at (p / 32) (p % 32)) 2912 46) ≡ filling_in ps xs (number_at (p / 32) (p % 32))
    unfolding filling_in
    filling-same =
        let n = data-parts (p / 32) (p % 32) d in
        ap (filling 2 ps)
        (interleaved-is ys (number_at (p / 32) (p % 32)) 2912 46
        ∙ listed_same (λ j. get_or ys (number_at (p / 32) (p % 32) + 2912 * j) 0) (λ j. get_or xs (number_at (p / 32) (p % 32) + 2912 * j) 0) 46
        (λ j h. c.others (number_at (p / 32) (p % 32)) j (omega (arith, n.2)) (λ i l e q. let z : i ≡ p = apart i p (omega arith) hp e d q in omega arith))
        ∙ sym (interleaved-is xs (number_at (p / 32) (p % 32)) 2912 46))

    bad-is : (a : Bool) → Recovered 2 ps ys zs (number_at (p / 32) (p % 32)) 2912 46 a → bad_in ps xs p ≡ not a
    unfolding bad_in
    bad-is a r = ap₂ ◌&&◌ d (ap is_none (sym filling-same) ∙ r.found)

  fails : Column ps ys zs p false → bad_in ps xs p ≡ true
  fails k =
      elim (cases_Bool (is_data (p / 32) (p % 32))) [
        | inl d ↦ bad-is d false (k.some d)
        | inr d ↦ absurd (false≢true (k.none d).0)
      ]

  pub columns-fail : Column ps ys zs p false → Filled ps xs zs (Some p)
  columns-fail k = record {
    first = sym (c.rest ∙ first-here (bad_in ps xs) p 4096 hp (fails k));
    bytes = λ e. let z : ◌≡◌ {A = ℕ} 0 1 = cc in absurd (omega arith);
  }

  no-bad : Column ps ys zs p true → bad_in ps xs p ≡ false
  unfolding bad_in
  no-bad k =
      elim (cases_Bool (is_data (p / 32) (p % 32))) [
        | inl d ↦ bad-is d true (k.some d)
        | inr d ↦ and_left (is_data (p / 32) (p % 32)) (is_none (filling_in ps xs (number_at (p / 32) (p % 32)))) d
      ]

  -- other columns are left alone
  elsewhere : Column ps ys zs p true → (q k : ℕ) → q < 2912 → (is_data (p / 32) (p % 32) ≡ true → number_at (p / 32) (p % 32) ≢ q) → get_or zs (q + 2912 * k) 0 ≡ get_or ys (q + 2912 * k) 0
  elsewhere col q k hq ne =
      elim (cases_Bool (is_data (p / 32) (p % 32))) [
        | inl d ↦ let n = data-parts (p / 32) (p % 32) d in
            let l : number_at (p / 32) (p % 32) < 2880 = n.2 in
            (col.some d).others (q + 2912 * k) (λ j h e. ne d (omega arith))
        | inr d ↦ ap (λ z. get_or z (q + 2912 * k) 0) (col.none d).1
      ]

  pub columns-more : Column ps ys zs p true → Columns ps xs zs (p + 1)
  columns-more col = record {
    rest = c.rest ∙ first-later (bad_in ps xs) p 4096 hp (no-bad col);
    done = λ i k h d l. elim (cases_eq i p) [ inl e ↦ here i k e d l | inr e ↦ earlier i k (omega (arith, e)) d l ];
    others = λ q k hq h. elsewhere col q k hq (λ d. h p (omega arith) d) ∙ c.others q k hq (λ i l. h i (omega arith));
  }
    where
      here : (i k : ℕ) → i ≡ p → is_data (i / 32) (i % 32) ≡ true → k < 46
          → get_or zs (number_at (i / 32) (i % 32) + 2912 * k) 0 ≡ byte_at k (filling_in ps xs (number_at (i / 32) (i % 32)))
      here i k e d l =
          let dp : is_data (p / 32) (p % 32) ≡ true = ap (λ z. is_data (z / 32) (z % 32)) (sym e) ∙ d in
          ap (λ z. get_or zs (number_at (z / 32) (z % 32) + 2912 * k) 0) e ∙ (col.some dp).word refl k l ∙ ap (byte_at k) (filling-same dp)
          ∙ ap (λ z. byte_at k (filling_in ps xs (number_at (z / 32) (z % 32)))) (sym e)

      earlier : (i k : ℕ) → i < p → is_data (i / 32) (i % 32) ≡ true → k < 46
          → get_or zs (number_at (i / 32) (i % 32) + 2912 * k) 0 ≡ byte_at k (filling_in ps xs (number_at (i / 32) (i % 32)))
      earlier i k h d l =
          let n = data-parts (i / 32) (i % 32) d in
          let m : number_at (i / 32) (i % 32) < 2880 = n.2 in
          elsewhere col (number_at (i / 32) (i % 32)) k (omega arith) (λ dp e. let z : i ≡ p = apart i p (omega arith) hp d dp (sym e) in omega arith) ∙ c.done i k h d l

pub columns-end : (ps xs ys : List ℕ) (p : ℕ) → 4096 ≤ p → Columns ps xs ys p → Filled ps xs ys None
columns-end ps xs ys p h c = record {
  first = sym (c.rest ∙ first-over (bad_in ps xs) p 4096 h);
  bytes = λ _ q k l m n.
      let a = data-at q l m in
      sym (ap (λ z. get_or ys (z + 2912 * k) 0) a.3) ∙ c.done a.0 k (omega (arith, a.1)) a.2 n ∙ ap (λ z. byte_at k (filling_in ps xs z)) a.3;
}

-- the filling of one place
pub column-some : (ps xs ys : List ℕ) (p q : ℕ) (a : Bool) → is_data (p / 32) (p % 32) ≡ true → q ≡ number_at (p / 32) (p % 32) → Recovered 2 ps xs ys q 2912 46 a → Column ps xs ys p a
column-some ps xs ys p q a d e r = record {
  none = λ n. absurd (both_ways (is_data (p / 32) (p % 32)) n d);
  some = λ _. subst (λ z. Recovered 2 ps xs ys z 2912 46 a) e r;
}

pub column-none : (ps xs : List ℕ) (p : ℕ) → is_data (p / 32) (p % 32) ≡ false → Column ps xs xs p true
column-none ps xs p n = record { none = λ _. (refl, refl); some = λ d. absurd (both_ways (is_data (p / 32) (p % 32)) n d) }
