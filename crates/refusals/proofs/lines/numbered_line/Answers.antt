use Rattle.std.proofs.Common.{◌∙◌, append_assoc}
use Rattle.std.proofs.lemmas.Result.{IfOk-weaker}
use Rattle.refusals.proofs.lines.numbered_line.Goals as goal

pub returns : goal.returns
returns c = IfOk-weaker c.format.result _ _ (λ s h. h ∙ simp append_assoc) c.format.ensures.ok
