use Rattle.std.proofs.Common.{◌≡◌, inr, ℕ, List, Option, Some, None, IfSome, get_or, sym, ap, subst, ◌∙◌}
use Rattle.std.proofs.lemmas.Option.{same_Some}
use Rattle.recording.specs.declared.event.Event.{Event}
use Rattle.recording.specs.Event.{value_read}
use Rattle.completion.specs.Sources.{MayGive}
use Rattle.completion.proofs.FoundSources.{given_inside, matches_given}
use Rattle.completion.proofs.sources.source_by_value.Goals as goal

pub source_without-requires-clause-none : goal.source_without-requires-clause-none
source_without-requires-clause-none c u may =
    let inside = given_inside c.args.values.now c.args.table.now c.args.read c.args.address u c.requires.table may in
    let clash : None ≡ Some u = sym c.in-None.is ∙ c.in-Ok.ensures.only u inside may in
    absurd cc

pub returns-else-value_read-value_at : goal.returns-else-value_read-value_at
returns-else-value_read-value_at c = inr (
  matches_given c.args.values.now c.args.read c.args.address c.in-Some.write
      (subst (λ (o : Option ℕ). IfSome o (MayGive c.args.values.now c.args.read c.args.address)) c.in-Some.is
      c.in-Ok.ensures.may),
  λ u may.
      let inside = given_inside c.args.values.now c.args.table.now c.args.read c.args.address u c.requires.table may in
      same_Some u c.in-Some.write (sym (c.in-Ok.ensures.only u inside may) ∙ c.in-Some.is),
  λ same. c.if-value_read-value_at.false (c.value_read.ensures
      ∙ (ap (λ (e : Event). value_read e) c.event_at.ensures ∙ (same
      ∙ sym (c.value_at.ensures ∙ ap (λ (l : List ℕ). get_or l c.args.address 0) c.init.ensures)))),
)
