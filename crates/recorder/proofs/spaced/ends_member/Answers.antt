use Rattle.std.proofs.Common.{◌∙◌, ap, sym}
use Rattle.std.proofs.lemmas.Bool.{eqb-true}
use Rattle.json.specs.Lex.{lex, between, begins_colon}
use Rattle.recorder.proofs.SpacedTokens.{comma_next, brace_next}
use Rattle.recorder.proofs.spaced.ends_member.Goals as goal

pub returns-then-next-eq44-clause-ends : goal.returns-then-next-eq44-clause-ends
returns-then-next-eq44-clause-ends c is =
    ap (λ t. begins_colon (lex between t)) (sym c.rest-bytes.ensures)
    ∙ comma_next c.rest-bytes.result.now c.if-next-eq44.true

pub returns-else-next-eq44-clause-ends : goal.returns-else-next-eq44-clause-ends
returns-else-next-eq44-clause-ends c is =
    ap (λ t. begins_colon (lex between t)) (sym c.rest-bytes.ensures)
    ∙ brace_next c.rest-bytes.result.now (eqb-true _ 125 is)
