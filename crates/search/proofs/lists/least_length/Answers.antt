use Rattle.std.proofs.Common.{ap, arith, ◌∙◌}
use Rattle.search.specs.SourceRow.{SourceRow}
use Rattle.search.proofs.Labels.{no_cap, first_cap}
use Rattle.search.proofs.lists.least_length.Goals as goal

pub returns-then-rows-eq0 : goal.returns-then-rows-eq0
returns-then-rows-eq0 c = λ t cap h. no_cap t cap c.args.rows.now (omega arith) h

pub returns : goal.returns
returns c = λ t cap h. c.cap.ensures ∙ (ap (λ (l : SourceRow). l.cap) c.index-rows-0.is
    ∙ first_cap t cap c.args.rows.now c.index-rows-0.result (omega arith) h)
