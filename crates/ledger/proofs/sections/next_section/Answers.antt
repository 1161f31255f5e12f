use Rattle.std.proofs.Common.{◌∙◌, ◌++◌, ℕ, List, ap, append_assoc, sym}
use Rattle.std.proofs.lemmas.Result.{IfErr-weaker, IfOk-weaker}
use Rattle.headers.specs.declared.header.Header.{Header}
use Rattle.headers.specs.Headers.{header_line}
use Rattle.ledger.proofs.SectionTexts.{none_under, section_read}
use Rattle.ledger.proofs.sections.next_section.Goals as goal

pub returns-clause-ok : goal.returns-clause-ok
returns-clause-ok c = IfOk-weaker c.section_under.result _ _
    (λ s ok. (rw c.in-Some.is at c.in_ok-header.ensures.found).1
    ∙ ap (λ (l : List ℕ). header_line c.in-Some.header ++ l) ok.1
    ∙ sym (append_assoc (header_line c.in-Some.header) s.text c.section_under.new.rest)
    ∙ ap (λ (h : Header). (header_line h ++ s.text) ++ c.section_under.new.rest) (sym ok.0)) c.section_under.ensures.ok

pub returns-clause-only : goal.returns-clause-only
returns-clause-only c = IfOk-weaker c.section_under.result _ _
    (λ s ok t more is begins. sym (section_read c.args.rest.now c.header.new.rest c.in_ok-header.field-0
    c.in-Some.header t more c.in-Some.is c.in_ok-header.ensures.only is begins).0
    ∙ sym ok.0) c.section_under.ensures.ok

pub returns-clause-err : goal.returns-clause-err
returns-clause-err c = IfErr-weaker c.section_under.result _ _
    (λ e none. none_under e c.args.rest.now c.header.new.rest c.in_ok-header.field-0 c.in-Some.header c.in-Some.is
    c.in_ok-header.ensures.only none) c.section_under.ensures.err
