use Rattle.std.proofs.Common.{◌≡◌, ◌<◌, ◌-◌, ◌+◌, ℕ, suc, List, length, arith, refl, sym, ap, ◌∙◌, subst}
use Rattle.rand_core.specs.Steps.{first_words}
use Rattle.rand_xoshiro.specs.Xoshiro256.{plus_plus}
use Rattle.common.specs.declared.limits.TheConstants.{MAX_EVENTS}
use Rattle.litmus.specs.Built.{state}
use Rattle.program.specs.Parts.{Body, op_count}
use Rattle.litmus.specs.Random.{IsDrawn, after_words, with_core, with_word, with_words}
use Rattle.litmus.proofs.Drawn.{keeps_core, keeps_word, count_core, count_word}
use Rattle.litmus.proofs.NextWords.{words_turn, words_end, after_turn}
use Rattle.litmus.proofs.random.add_core.Goals as goal

pub loop-i-init : goal.loop-i-init
loop-i-init c =
    let z = c.args.shape.now in
    let p = state c.args.builder.now in
    let all : z.ops - 0 ≡ z.ops = omega arith in
    let begun : state c.add_core.new.self ≡ with_core p = c.in_ok-add_core.ensures in
    record {
      made = ap (λ (k : ℕ). with_words z.addresses (state c.add_core.new.self)
          (first_words plus_plus k c.args.rng.now)) all;
      after = ap (λ (k : ℕ). after_words k c.args.rng.now) all;
      drawn = subst (IsDrawn z.addresses) (sym begun)
          (keeps_core z.addresses p c.requires.drawn c.requires.cores);
      count = omega (arith, ap (λ (q : Body). op_count q.cores) begun, (count_core p).0, c.requires.first);
      cores = refl;
      within = omega arith;
    }

pub loop-i-preserved : goal.loop-i-preserved
loop-i-preserved c =
    let z = c.args.shape.now in
    let old = state c.args.builder.now in
    let h = c.loop-i.invariant in
    let p = state c.loop-i.builder in
    let rng = c.loop-i.rng in
    let word = c.next_word-word.result in
    let j = z.ops - (c.loop-i.i + 1) in
    let less : c.loop-i.i < z.ops = omega (arith, c.loop-i-test.true) in
    let left : z.ops - c.loop-i.i ≡ suc j = omega (arith, less) in
    let begun : state c.add_core.new.self ≡ with_core old = c.in_ok-add_core.ensures in
    let some : 0 < length p.cores = omega (
      arith,
      h.cores,
      ap (λ (q : Body). length q.cores) begun,
      (count_core old).1,
    ) in
    let room : op_count p.cores < MAX_EVENTS = omega (arith, h.count, less, c.requires.few) in
    let step : state c.add_word.new.builder ≡ with_word z.addresses p word =
    c.in_ok-add_word.ensures.ok ∙ ap (λ (a : ℕ). with_word a p word) c.addresses.ensures in
    let turn = words_turn z.addresses p rng (z.ops - c.loop-i.i) j left in
    record {
      made = ap (λ (q : Body). with_words z.addresses q (first_words plus_plus j c.next_word-word.new.self))
          step
          ∙ (ap (λ (x : ℕ × List ℕ). with_words z.addresses (with_word z.addresses p x.0)
          (first_words plus_plus j x.1)) c.next_word-word.ensures
          ∙ (sym turn ∙ h.made));
      after = ap (λ (x : ℕ × List ℕ). after_words j x.1) c.next_word-word.ensures
          ∙ (sym (after_turn rng (z.ops - c.loop-i.i) j left) ∙ h.after);
      drawn = subst (IsDrawn z.addresses) (sym step)
          (keeps_word z.addresses p word c.sound.ensures.addresses.0 c.sound.ensures.addresses.1 h.drawn some
          room);
      count = omega (
        arith,
        ap (λ (q : Body). op_count q.cores) step,
        (count_word z.addresses p word some).0,
        h.count,
      );
      cores = ap (λ (q : Body). length q.cores) step ∙ ((count_word z.addresses p word some).1 ∙ h.cores);
      within = omega (arith, less);
    }

pub returns-clause-ok : goal.returns-clause-ok
returns-clause-ok c =
    let z = c.args.shape.now in
    let h = c.loop-i.invariant in
    sym (words_end z.addresses (state c.loop-i.builder) c.loop-i.rng (z.ops - c.loop-i.i)
    (omega (arith, c.loop-i-test.false)))
    ∙ (h.made ∙ ap (λ (q : Body). with_words z.addresses q (first_words plus_plus z.ops c.args.rng.now))
    c.in_ok-add_core.ensures)
