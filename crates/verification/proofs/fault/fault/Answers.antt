use Rattle.std.proofs.Common.{◌∙◌, List, ℕ, inl, refl, subst, sym}
use Rattle.std.proofs.lemmas.Bool.{false≢true}
use Rattle.verification.specs.Faults.{LinesHold}
use Rattle.verification.specs.Held.{IsMost}
use Rattle.verification.proofs.Lines.{names_fault}
use Rattle.verification.proofs.LinesGrow.{lines_grow}
use Rattle.verification.proofs.LinesHeld.{line_most}
use Rattle.verification.proofs.fault.fault.Goals as goal

pub returns-then-take-clause-line : goal.returns-then-take-clause-line
returns-then-take-clause-line c =
    let x = c.args.recording.now in
    let text = c.args.text.now in
    let lines = c.deref.result.now in
    let begins = sym c.new-rest.ensures ∙ c.take.ensures.found c.if-take.true in
    names_fault (LinesHold x) (inl (inl refl)) (lines_grow x c.sound.ensures) text lines c.first_difference.result
    (subst (λ (t : List ℕ). IsMost (LinesHold x) t lines) (sym begins)
    (subst (IsMost (LinesHold x) _) (sym c.deref.ensures.value)
    c.in_ok-lines.ensures)) c.first_difference.ensures

pub returns-clause-line : goal.returns-clause-line
returns-clause-line c =
    let x = c.args.recording.now in
    let text = c.args.text.now in
    let line = c.deref-2.result.now in
    names_fault (LinesHold x) (inl (inl refl)) (lines_grow x c.sound.ensures) text line c.first_difference-2.result
    (line_most x text line
    (λ rest begins. false≢true (sym c.if-take.false ∙ (c.take.ensures.only rest (c.new-rest.ensures ∙ begins)).0))
    (subst (IsMost _ text) (sym c.deref-2.ensures.value) c.in_ok-line.ensures)) c.first_difference-2.ensures
