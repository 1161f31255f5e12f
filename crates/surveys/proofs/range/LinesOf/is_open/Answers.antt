use Rattle.std.proofs.Common.{◌∙◌, ap, not}
use Rattle.surveys.proofs.Masks.{no_count, unmasked_by}
use Rattle.surveys.proofs.range.LinesOf.is_open.Goals as goal

pub returns-then-self-eq0 : goal.returns-then-self-eq0
returns-then-self-eq0 g c = λ bytes none.
    unmasked_by _ _ c.if-self-eq0.true (no_count c.args.self.now.count (c.is_none.ensures ∙ ap not none)) bytes
