use Rattle.std.proofs.Common.{◌<◌, ◌^◌, ◌∙◌, ℕ, ap, arith, subst, sym}
use Rattle.completion.specs.Situation.{marked}
use Rattle.completion.proofs.Shapes.{mark_small}
use Rattle.completion.proofs.steps.write.Goals as goal

pub overflow_cast-mark : goal.overflow_cast-mark
overflow_cast-mark c =
    let v = c.args.values.now in
    let small : c.mark_where_known-mark.result < 2 ^ 32 =
    subst (λ (n : ℕ). n < 2 ^ 32) (sym (c.mark_where_known-mark.ensures ∙ ap (marked v) c.mark_of.ensures))
    (mark_small v c.requires.room c.args.core c.args.store.place c.requires.there) in
    omega (arith, small)
