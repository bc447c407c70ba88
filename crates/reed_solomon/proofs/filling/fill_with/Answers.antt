use Rattle.std.proofs.Common.{◌≡◌, ℕ, ◌<◌, ◌≤◌, T, length, get_or, sym, refl, ap, ◌∙◌, subst, arith, rules}
use Rattle.reed_solomon.specs.Steps.{vsum}
use Rattle.reed_solomon.specs.Words.{syndrome, Distinct, Filled}
use Rattle.reed_solomon.proofs.Distance.{filled, no_other, sums-agree}
use Rattle.reed_solomon.proofs.Patches.{distinct-weights}
use Rattle.reed_solomon.proofs.Recursion.{bytes-from}
use Rattle.reed_solomon.proofs.filling.fill_with.Goals as goal

pub solve-requires-clause-distinct : goal.solve-requires-clause-distinct
solve-requires-clause-distinct c =
    subst Distinct (sym c.weigh.ensures)
    (distinct-weights (length c.args.word.now) c.args.lost.now (omega (arith, c.requires.fit.size)) c.requires.fit.places.within c.requires.fit.places.once)

pub returns-clause-ok : goal.returns-clause-ok
returns-clause-ok c =
    let b = c.args.word.now in
    let ps = c.args.lost.now in
    let vs = c.solve.new.sums in
    let low = sums-agree ps b c.weigh.new.weights c.syndromes_into.new.sums vs c.weigh.ensures (c.syndromes_into.auto.sums ∙ c.requires.values_len) c.syndromes_into.ensures c.solve.ensures in
    subst (Filled c.args.r ps b) (sym c.add_at.ensures)
    (filled c.args.r ps b vs (omega (arith, c.requires.fit.size)) c.requires.fit.places c.requires.fit.few low
    (λ e g h. c.if-not-agrees.ensures.0 refl e g h ∙ ap (λ x. vsum e x vs) c.weigh.ensures))

pub returns-then-not-agrees-clause-err : goal.returns-then-not-agrees-clause-err
returns-then-not-agrees-clause-err c =
    let b = c.args.word.now in
    let ps = c.args.lost.now in
    let vs = c.solve.new.sums in
    let low = sums-agree ps b c.weigh.new.weights c.syndromes_into.new.sums vs c.weigh.ensures (c.syndromes_into.auto.sums ∙ c.requires.values_len) c.syndromes_into.ensures c.solve.ensures in
    let bb : (i : ℕ) → get_or b i 0 < 256 = λ i. search rules in
    let bv : (i : ℕ) → get_or vs i 0 < 256 = λ i. search rules in
    let bad : ((e : ℕ) → length ps ≤ e → e < c.args.r → syndrome e b ≡ vsum e c.weigh.new.weights vs) → ⊥ =
    λ high. subst T (sym (c.if-not-agrees.ensures.1 high)) tt in
    record {
      same = refl;
      none =
          no_other c.args.r ps b vs (omega (arith, c.requires.fit.size)) c.requires.fit.places c.requires.fit.few low (bytes-from b bb) (bytes-from vs bv)
          (λ high. bad (λ e g h. high e g h ∙ ap (λ x. vsum e x vs) (sym c.weigh.ensures)));
    }
