use Rattle.std.proofs.Common.{◌≡◌, ◌∙◌, sym, length}
use Rattle.std.proofs.lemmas.Bool.{false≢true}
use Rattle.recording.specs.Execution.{event_count}
use Rattle.relations.specs.Forced.{Forced}
use Rattle.relations.specs.Relation.{Related}
use Rattle.verification.specs.Proof.{IsRow}
use Rattle.verification.proofs.RowsHeld.{labelling_agrees}
use Rattle.verification.proofs.row_lines.row_that_holds.Goals as goal

pub returns-in_default-clause-only : goal.returns-in_default-clause-only
returns-in_default-clause-only c labels later holds spelled =
    let row : IsRow c.len.result labels = record { size = holds.1.one_each ∙ sym c.len.ensures; short = holds.0 } in
    let read = c.in_ok-row.ensures.only c.args.event labels later row spelled in
    absurd (rw c.in_default.is at read.0)

pub returns-then-not-is_labelling-clause-only : goal.returns-then-not-is_labelling-clause-only
returns-then-not-is_labelling-clause-only c labels later holds spelled =
    let row : IsRow c.len.result labels = record { size = holds.1.one_each ∙ sym c.len.ensures; short = holds.0 } in
    let read = c.in_ok-row.ensures.only c.args.event labels later row spelled in
    let same : c.in-Some.row.items ≡ labels = rw c.in-Some.is at read.0 in
    absurd (false≢true (sym c.if-not-is_labelling.true ∙ c.is_labelling.ensures.1
    (labelling_agrees (Forced c.args.recording.now) (Related c.args.relation.now) c.args.size
    (event_count c.args.recording.now) (length c.args.relation.now) c.args.event labels c.deref.result.now
    (λ e f pair. (c.requires.related e f).0 pair) (sym c.requires.size) (sym (c.deref.ensures.value ∙ same)) holds.1)))

pub returns-clause-found : goal.returns-clause-found
returns-clause-found c = (
  rw c.in-Some.is at c.in_ok-row.ensures.short,
  labelling_agrees (Related c.args.relation.now) (Forced c.args.recording.now) c.args.size
      (length c.args.relation.now) (event_count c.args.recording.now) c.args.event c.deref.result.now
      c.in-Some.row.items
      (λ e f pair. (c.requires.related e f).1 pair) c.requires.size c.deref.ensures.value
      (c.is_labelling.ensures.0 c.if-not-is_labelling.false),
)

pub returns-clause-only : goal.returns-clause-only
returns-clause-only c labels later holds spelled =
    let row : IsRow c.len.result labels = record { size = holds.1.one_each ∙ sym c.len.ensures; short = holds.0 } in
    let read = c.in_ok-row.ensures.only c.args.event labels later row spelled in
    (rw c.in-Some.is at read.0, read.1)
