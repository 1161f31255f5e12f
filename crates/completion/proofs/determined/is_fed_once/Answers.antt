use Rattle.std.proofs.Common.{◌≡◌, Some, true, false, arith, sym, ◌∙◌}
use Rattle.completion.proofs.Chosen.{all_among, fed_twice, none_more, one_first, one_more, still_fed}
use Rattle.completion.proofs.determined.is_fed_once.Goals as goal
use Rattle.completion.proofs.determined.is_fed_once.Goals.{then-is_fed_by+else-found, else-is_fed_by}

pub loop-w-preserved : goal.loop-w-preserved
loop-w-preserved c = elim c.if-is_fed_by.branch [
  | then-is_fed_by+else-found w ↦ record {
    none = λ same. absurd (let clash : true ≡ false = sym w.found-is ∙ same in cc);
    some = λ same. (Some c.loop-w.w, omega arith, c.is_fed_by.ensures.holds w.if-is_fed_by.true);
    one = one_first c.args.values.now c.args.e c.loop-w.w (c.loop-w.invariant.none w.if-found.false);
  }
  | else-is_fed_by w ↦ record {
    none = λ same. none_more c.args.values.now c.args.e c.loop-w.w (c.loop-w.invariant.none (sym w.found-is ∙ same))
        (c.is_fed_by.ensures.fails w.if-is_fed_by.false);
    some = λ same. still_fed c.args.values.now c.args.e c.loop-w.w (c.loop-w.invariant.some (sym w.found-is ∙ same));
    one = one_more c.args.values.now c.args.e c.loop-w.w c.loop-w.invariant.one
        (c.is_fed_by.ensures.fails w.if-is_fed_by.false);
  }
]

pub returns-then-found-clause-fails : goal.returns-then-found-clause-fails
returns-then-found-clause-fails c same = fed_twice c.args.values.now c.args.e c.loop-w.w
    (c.loop-w.invariant.some c.if-found.true) (c.is_fed_by.ensures.holds c.if-is_fed_by.true)

pub returns-clause-holds : goal.returns-clause-holds
returns-clause-holds c holds s t ours theirs =
    let all = all_among c.args.values.now c.args.table.now c.args.e c.loop-w.w c.requires.table
    (omega (arith, c.loop-w-test.false, c.loop-w.auto.w-end)) in
    c.loop-w.invariant.one s t (all s ours) (all t theirs) ours theirs
