use Rattle.std.proofs.Common.{◌≡◌, ◌+◌, ◌*◌, ◌≤◌, true, false, length, ap, ◌∙◌, arith}
use Rattle.layout.specs.Counts.{which}
use Rattle.reading.specs.Arrays.{erased_in}
use Rattle.reading.proofs.Lists.{which-places}
use Rattle.reading.proofs.Refills.{cause-many, corrected-is}
use Rattle.reading.proofs.c2.fill_word.Goals as goal

pub returns-then-len : goal.returns-then-len
returns-then-len c = record {
  cause = cause-many c.args.lost.now.marks c.args.array.now c.args.array.now c.erasures-places.result.items c.args.m c.args.n c.erasures-places.ensures
      (omega (arith, c.len.ensures, c.if-len.true));
  here = λ e. absurd (omega (arith, e));
}

pub recover-requires : goal.recover-requires
recover-requires c =
    let e : c.as_slice.result.now ≡ which (λ j. erased_in c.args.lost.now.marks (c.args.m + 4 * j) c.args.n) 32 = c.as_slice.ensures.value ∙ c.erasures-places.ensures in
    let few : length c.as_slice.result.now ≤ 6 = omega (arith, ap length c.as_slice.ensures.value, c.len.ensures, c.if-len.false) in
    record {
      reach = λ j h. omega arith;
      stride = omega arith;
      n = omega arith;
      places = which-places (λ j. erased_in c.args.lost.now.marks (c.args.m + 4 * j) c.args.n) 32 c.as_slice.result.now e;
      few = few;
    }

pub returns-in-Ok : goal.returns-in-Ok
returns-in-Ok c =
    let e : c.as_slice.result.now ≡ which (λ j. erased_in c.args.lost.now.marks (c.args.m + 4 * j) c.args.n) 32 = c.as_slice.ensures.value ∙ c.erasures-places.ensures in
    corrected-is c.args.lost.now.marks c.args.array.now c.recover.new.memory c.as_slice.result.now c.args.m c.args.n e
    (omega (arith, ap length c.as_slice.ensures.value, c.len.ensures, c.if-len.false)) c.requires.m_bound c.requires.n_bound true
    c.in-Ok.ensures

pub returns-in-Err : goal.returns-in-Err
returns-in-Err c =
    let e : c.as_slice.result.now ≡ which (λ j. erased_in c.args.lost.now.marks (c.args.m + 4 * j) c.args.n) 32 = c.as_slice.ensures.value ∙ c.erasures-places.ensures in
    corrected-is c.args.lost.now.marks c.args.array.now c.recover.new.memory c.as_slice.result.now c.args.m c.args.n e
    (omega (arith, ap length c.as_slice.ensures.value, c.len.ensures, c.if-len.false)) c.requires.m_bound c.requires.n_bound false
    c.in-Err.ensures
