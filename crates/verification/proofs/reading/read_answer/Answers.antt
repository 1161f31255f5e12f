use Rattle.std.proofs.Common.{refl, sym, subst, ◌∙◌}
use Rattle.std.proofs.lemmas.Bool.{false≢true}
use Rattle.std.proofs.lemmas.Result.{IfOk-weaker}
use Rattle.verification.specs.Spelled.{SpellsAnswer}
use Rattle.verification.proofs.AnswersSpelled.{begins}
use Rattle.verification.proofs.reading.read_answer.Goals as goal

pub returns-then-take : goal.returns-then-take
returns-then-take c = IfOk-weaker c.order.result _ _
    (λ r h a later sizes spelled. h a c.args.most later sizes
    (subst (SpellsAnswer a later) (c.if-take.ensures.found refl) spelled)) c.order.ensures

pub returns-then-take-2 : goal.returns-then-take-2
returns-then-take-2 c = IfOk-weaker c.overlook.result _ _
    (λ r h a later sizes spelled. h a later
    (subst (SpellsAnswer a later) (sym (c.if-take.ensures.kept refl) ∙ c.if-take-2.ensures.found refl) spelled))
    c.overlook.ensures

pub returns-then-take-3 : goal.returns-then-take-3
returns-then-take-3 c = IfOk-weaker c.cyclic.result _ _
    (λ r h a later sizes spelled. h a c.args.count later sizes
    (subst (SpellsAnswer a later) (sym (c.if-take.ensures.kept refl) ∙ sym (c.if-take-2.ensures.kept refl)
    ∙ c.if-take-3.ensures.found refl) spelled)) c.cyclic.ensures

pub returns : goal.returns
returns c a later sizes spelled = absurd (begins a later c.args.rest.now spelled
    (λ more starts. false≢true (c.if-take.ensures.only more starts).0)
    (λ more starts. false≢true (c.if-take-2.ensures.only more (c.if-take.ensures.kept refl ∙ starts)).0)
    (λ more starts. false≢true (c.if-take-3.ensures.only more
    (c.if-take-2.ensures.kept refl ∙ c.if-take.ensures.kept refl ∙ starts)).0))
