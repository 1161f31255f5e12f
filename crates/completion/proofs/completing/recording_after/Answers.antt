use Rattle.std.proofs.Common.{◌∙◌, ℕ, Vec, Global, map, sym, subst}
use Rattle.std.proofs.lemmas.List.{length-map}
use Rattle.recording.specs.declared.event.Event.{Event}
use Rattle.recording.specs.declared.size.RecordingSize.TheVariants.{Short}
use Rattle.recording.specs.Execution.{Execution}
use Rattle.recording.specs.Recording.{executed}
use Rattle.recording.specs.RecordingLaws.{recording_of_size}
use Rattle.values.specs.Values.{IsCompletion}
use Rattle.completion.proofs.Made.{completion_made}
use Rattle.completion.proofs.completing.recording_after.Goals as goal

pub new-requires : goal.new-requires
new-requires c =
    let x : Execution = executed (map (λ (l : Vec Event Global). l.items) c.in_ok-cores.cores.items)
    (map (λ (l : Vec ℕ Global). l.items) c.in_ok-writes.writes.items) c.in_ok-init.init.items in
    let made : IsCompletion c.args.values.now x c.in_ok-order.field-0.order.items =
    completion_made c.args.values.now c.in_ok-order.field-0.order.items c.in_ok-order.field-0.sources.items c.as_slice.result.now
    c.as_slice-2.result.now x c.in_ok-order.ensures c.requires.room c.as_slice.ensures.value c.as_slice-2.ensures.value
    c.in_ok-cores.ensures.rest (c.in_ok-init.ensures.items ∙ c.init.ensures) c.in_ok-cores.ensures.sources
    (length-map c.in_ok-writes.writes.items (λ (l : Vec ℕ Global). l.items) ∙ c.in_ok-writes.ensures.count)
    c.in_ok-writes.ensures.lists in
    recording_of_size Short x made.recording

pub returns : goal.returns
returns c limit =
    let x : Execution = executed (map (λ (l : Vec Event Global). l.items) c.in_ok-cores.cores.items)
    (map (λ (l : Vec ℕ Global). l.items) c.in_ok-writes.writes.items) c.in_ok-init.init.items in
    let made : IsCompletion c.args.values.now x c.in_ok-order.field-0.order.items =
    completion_made c.args.values.now c.in_ok-order.field-0.order.items c.in_ok-order.field-0.sources.items c.as_slice.result.now
    c.as_slice-2.result.now x c.in_ok-order.ensures c.requires.room c.as_slice.ensures.value c.as_slice-2.ensures.value
    c.in_ok-cores.ensures.rest (c.in_ok-init.ensures.items ∙ c.init.ensures) c.in_ok-cores.ensures.sources
    (length-map c.in_ok-writes.writes.items (λ (l : Vec ℕ Global). l.items) ∙ c.in_ok-writes.ensures.count)
    c.in_ok-writes.ensures.lists in
    subst (λ (z : Execution). IsCompletion c.args.values.now z c.in_ok-order.field-0.order.items) (sym c.in_ok-recording.ensures) made
