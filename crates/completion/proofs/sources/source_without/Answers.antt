use Rattle.std.proofs.Common.{inr, ℕ, List, Option, IfSome, get_or, sym, ap, subst, ◌∙◌}
use Rattle.recording.specs.declared.event.Event.{Event}
use Rattle.recording.specs.Event.{value_read}
use Rattle.completion.specs.Sources.{Matches}
use Rattle.completion.proofs.sources.source_without.Goals as goal

pub returns-then-value_read-value_at : goal.returns-then-value_read-value_at
returns-then-value_read-value_at c = inr c.requires.none

pub returns-in-None : goal.returns-in-None
returns-in-None c = inr c.requires.none

pub returns-in-Some : goal.returns-in-Some
returns-in-Some c = inr (
  subst (λ (o : Option ℕ). IfSome o (Matches c.args.values.now c.args.read c.args.address)) c.in-Some.is
      c.late_write.ensures,
  λ u may. absurd (c.requires.none u may),
  λ same. c.if-value_read-value_at.false (c.value_read.ensures
      ∙ (ap (λ (e : Event). value_read e) c.event_at.ensures ∙ (same
      ∙ sym (c.value_at.ensures ∙ ap (λ (l : List ℕ). get_or l c.args.address 0) c.init.ensures)))),
)
