use Rattle.std.proofs.Common.{◌≡◌, ◌<◌, ◌-◌, ◌+◌, ◌*◌, ℕ, suc, List, length, arith, sym, ap, ◌∙◌, subst}
use Rattle.std.specs.Prelude.{IfOk}
use Rattle.std.proofs.lemmas.Result.{IfOk-weaker}
use Rattle.rand_core.specs.Steps.{first_words}
use Rattle.rand_xoshiro.specs.Xoshiro256.{plus_plus}
use Rattle.litmus.specs.Built.{state}
use Rattle.program.specs.Parts.{Body, Parts, IsProgram, op_count}
use Rattle.litmus.specs.Steps.{empty}
use Rattle.litmus.proofs.DraftLemmas.{program_is}
use Rattle.litmus.specs.Drafts.{Draft, plain, drafted_program}
use Rattle.litmus.specs.Random.{IsDrawn, after_words, with_core, with_cores, with_words}
use Rattle.litmus.proofs.Drawn.{keeps_empty}
use Rattle.litmus.proofs.NextWords.{cores_turn, cores_end, after_core, after_end, more_words, no_words, so_many}
use Rattle.litmus.proofs.random.generate.Goals as goal

pub loop-core-init : goal.loop-core-init
loop-core-init c =
    let z = c.args.shape.now in
    let all : z.cores - 0 ≡ z.cores = omega arith in
    let begun : state c.new-builder.result ≡ empty = c.new-builder.ensures in
    record {
      made = ap (λ (k : ℕ). with_cores z k (state c.new-builder.result)
          (first_words plus_plus (k * z.ops) c.args.rng.now)) all
          ∙ ap (λ (p : Body). with_cores z z.cores p
          (first_words plus_plus (z.cores * z.ops) c.args.rng.now)) begun;
      after = ap (λ (k : ℕ). after_words (k * z.ops) c.args.rng.now) all;
      drawn = subst (IsDrawn z.addresses) (sym begun) (keeps_empty z.addresses);
      count = omega (arith, ap (λ (q : Body). op_count q.cores) begun);
      cores = ap (λ (q : Body). length q.cores) begun;
      within = omega arith;
    }

pub loop-core-preserved : goal.loop-core-preserved
loop-core-preserved c =
    let z = c.args.shape.now in
    let h = c.loop-core.invariant in
    let p = state c.loop-core.builder in
    let rng = c.loop-core.rng in
    let j = z.cores - (c.loop-core.core + 1) in
    let less : c.loop-core.core < z.cores = omega (arith, c.loop-core-test.true) in
    let left : z.cores - c.loop-core.core ≡ suc j = omega (arith, less) in
    let words : (z.cores - c.loop-core.core) * z.ops ≡ z.ops + j * z.ops =
    more_words (z.cores - c.loop-core.core) j z.ops left in
    let done = c.in_ok-add_core.ensures in
    record {
      made = ap (λ (q : Body). with_cores z j q (first_words plus_plus (j * z.ops) c.add_core.new.rng))
          done.ok
          ∙ (ap (λ (s : List ℕ). with_cores z j
          (with_words z.addresses (with_core p) (first_words plus_plus z.ops rng))
          (first_words plus_plus (j * z.ops) s)) done.words
          ∙ (sym (cores_turn z p rng (z.cores - c.loop-core.core) j ((z.cores - c.loop-core.core) * z.ops)
          (j * z.ops) left words) ∙ h.made));
      after = ap (λ (s : List ℕ). after_words (j * z.ops) s) done.words
          ∙ (sym (after_core z.ops rng ((z.cores - c.loop-core.core) * z.ops) (j * z.ops) words) ∙ h.after);
      drawn = done.drawn;
      count = omega (
        arith,
        done.count,
        so_many c.loop-core.core z.ops,
        ap (λ (n : ℕ). c.loop-core.core * n) c.ops.ensures,
      );
      cores = omega (arith, done.cores, h.cores);
      within = omega (arith, less);
    }

pub finish-requires : goal.finish-requires
finish-requires c =
    let b = state c.loop-core.builder in
    subst (λ (d : Draft). IsProgram (drafted_program d)) (sym c.of.ensures)
    (program_is (plain b) (record { body = c.loop-core.invariant.drawn.body; few = omega arith; values = tt }))

pub returns-clause-program : goal.returns-clause-program
returns-clause-program c =
    let z = c.args.shape.now in
    let h = c.loop-core.invariant in
    let left = z.cores - c.loop-core.core in
    let none : left ≡ 0 = omega (arith, c.loop-core-test.false) in
    let made : state c.loop-core.builder ≡ with_cores z z.cores empty
    (first_words plus_plus (z.cores * z.ops) c.args.rng.now) =
    sym (cores_end z (state c.loop-core.builder) (first_words plus_plus (left * z.ops) c.loop-core.rng) left
    none) ∙ h.made in
    subst (λ (p : Parts). IfOk c.finish.result (λ q. q ≡ p))
    (ap (λ (d : Draft). drafted_program d) c.of.ensures ∙ ap (λ (b : Body). drafted_program (plain b)) made)
    c.finish.ensures

pub returns-clause-words : goal.returns-clause-words
returns-clause-words c =
    let z = c.args.shape.now in
    let left = z.cores - c.loop-core.core in
    let none : left * z.ops ≡ 0 = no_words left z.ops (omega (arith, c.loop-core-test.false)) in
    IfOk-weaker c.finish.result _ _ (λ _ _. sym (after_end c.loop-core.rng (left * z.ops) none)
    ∙ c.loop-core.invariant.after) c.finish.ensures
