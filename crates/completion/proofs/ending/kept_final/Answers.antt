use Rattle.std.proofs.Common.{ℕ, sym, subst, ◌∙◌}
use Rattle.std.proofs.lemmas.Option.{same_Some}
use Rattle.completion.specs.Left.{IsInRow}
use Rattle.completion.specs.Part.{CanEnd}
use Rattle.completion.proofs.ending.kept_final.Goals as goal

pub returns-else-can_end-clause-kept : goal.returns-else-can_end-clause-kept
returns-else-can_end-clause-kept c n known can = absurd (c.can_end.ensures.fails c.if-can_end.false
    (subst (λ (k : ℕ). CanEnd c.args.values.now (IsInRow c.args.row.now) c.args.address k)
    (same_Some n c.in_ok-value.value (sym known ∙ c.in_ok-value.was)) can))
