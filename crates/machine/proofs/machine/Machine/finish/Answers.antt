use Rattle.std.proofs.Common.{arith, sym, ap, ◌∙◌, subst, refl, ◌≡◌, ◌≤◌, ℕ, length, map}
use Rattle.std.proofs.lemmas.List.{length-map}
use Rattle.common.specs.declared.limits.TheConstants.{MAX_ADDRESSES}
use Rattle.machine.specs.Configuration.{BoundedItems, BlankSize, Configuration, state_from}
use Rattle.machine.specs.RecordedLaws.{count_is}
use Rattle.machine.specs.State.{State, recorded, IsComplete}
use Rattle.program_events.specs.ProgramOf.{IsProgramOf}
use Rattle.recording.specs.declared.size.RecordingSize.TheVariants.{Short}
use Rattle.program.specs.Parts.{op_count}
use Rattle.recording.specs.Execution.{event_count}
use Rattle.recording.specs.PlacedLaws.{placed_total}
use Rattle.recording.specs.RecordingLaws.{recording_of_size}
use Rattle.machine.proofs.InOrder.{IsInOrder}
use Rattle.machine.proofs.Complete.{complete_is_tso}
use Rattle.machine.proofs.Reached.{reached_data, reached_in_order}
use Rattle.machine.proofs.Recorded.{complete_recording}
use Rattle.machine.proofs.MadeLemmas.{recorded_is_of}
use Rattle.machine.proofs.machine.Machine.finish.Goals as goal

pub in_room-requires-clause-recording : goal.in_room-requires-clause-recording
in_room-requires-clause-recording c =
    let p = c.self.inside.program in
    let d = reached_data _ _ _ _ _ c.self.invariant.reached in
    let end = subst (λ (h : Configuration). IsComplete h.program.cores h.state) (sym c.self.view_is)
    (c.is_complete.ensures.0 c.if-not-is_complete.false) in
    let addresses : length (map (λ (l : BoundedItems ℕ). l.items) c.self.inside.writes.items) ≤ MAX_ADDRESSES
    =
    omega (
      arith,
      length-map c.self.inside.writes.items (λ (l : BoundedItems ℕ). l.items),
      c.self.invariant.sound.writes_length,
      c.sound.ensures.lawful.few_names,
    ) in
    let initials : length p.init
    ≡ length (map (λ (l : BoundedItems ℕ). l.items) c.self.inside.writes.items) =
    c.self.invariant.sound.initials
    ∙ (sym c.self.invariant.sound.writes_length
    ∙ sym (length-map c.self.inside.writes.items (λ (l : BoundedItems ℕ). l.items))) in
    recording_of_size Short _ (rw (
      c.fill-filled.ensures.cores,
      c.fill-filled.ensures.writes,
      c.fill-filled.ensures.initial,
      ap (λ (b : BlankSize). b.initial) c.self.invariant.blank_is,
      c.lists.ensures,
      c.as_slice.ensures.value,
    )
    (complete_recording p _ c.sound.ensures.lawful.few_cores c.sound.ensures.few addresses initials d end))

pub returns-clause-short : goal.returns-clause-short
returns-clause-short c =
    let p = c.self.inside.program in
    let d = reached_data _ _ _ _ _ c.self.invariant.reached in
    let end = subst (λ (h : Configuration). IsComplete h.program.cores h.state) (sym c.self.view_is)
    (c.is_complete.ensures.0 c.if-not-is_complete.false) in
    let addresses : length (map (λ (l : BoundedItems ℕ). l.items) c.self.inside.writes.items) ≤ MAX_ADDRESSES
    =
    omega (
      arith,
      length-map c.self.inside.writes.items (λ (l : BoundedItems ℕ). l.items),
      c.self.invariant.sound.writes_length,
      c.sound.ensures.lawful.few_names,
    ) in
    let initials : length p.init
    ≡ length (map (λ (l : BoundedItems ℕ). l.items) c.self.inside.writes.items) =
    c.self.invariant.sound.initials
    ∙ (sym c.self.invariant.sound.writes_length
    ∙ sym (length-map c.self.inside.writes.items (λ (l : BoundedItems ℕ). l.items))) in
    rw (
      c.in_room.ensures,
      c.fill-filled.ensures.cores,
      c.fill-filled.ensures.writes,
      c.fill-filled.ensures.initial,
      ap (λ (b : BlankSize). b.initial) c.self.invariant.blank_is,
      c.lists.ensures,
      c.as_slice.ensures.value,
    )
    (complete_recording p _ c.sound.ensures.lawful.few_cores c.sound.ensures.few addresses initials d end)

pub returns-clause-tso : goal.returns-clause-tso
returns-clause-tso c = λ none.
    let end = c.is_complete.ensures.0 c.if-not-is_complete.false in
    let fault_is = ap (λ (h : Configuration). h.fault) c.self.view_is ∙ none in
    let g = reached_in_order _ _ _ _ _ fault_is c.self.invariant.reached in
    complete_is_tso _ _ end (subst (λ (h : Configuration). IsInOrder h.program.cores h.state) c.self.view_is
    g)

pub returns-clause-program : goal.returns-clause-program
returns-clause-program c =
    let i = c.self.inside in
    let s : State = state_from i.program.init i.units.items i.buffers.items i.caches i.writes.items i.reads.items
    i.performed.items in
    subst (λ (h : Configuration). IsProgramOf h.program c.in_room.result) c.self.view_is (rw (
      c.in_room.ensures,
      c.fill-filled.ensures.cores,
      c.fill-filled.ensures.writes,
      c.fill-filled.ensures.initial,
      ap (λ (b : BlankSize). b.initial) c.self.invariant.blank_is,
      c.lists.ensures,
      c.as_slice.ensures.value,
    ) (recorded_is_of i.program s refl))

pub in_room-requires-clause-fits : goal.in_room-requires-clause-fits
in_room-requires-clause-fits c =
    let i = c.self.inside in
    let s : State = state_from i.program.init i.units.items i.buffers.items i.caches i.writes.items i.reads.items
    i.performed.items in
    rw (
      c.fill-filled.ensures.places,
      c.fill-filled.ensures.cores,
      c.fill-filled.ensures.writes,
      c.fill-filled.ensures.initial,
      ap (λ (b : BlankSize). b.initial) c.self.invariant.blank_is,
      ap (λ (b : BlankSize). b.events) c.self.invariant.blank_is,
      c.lists.ensures,
      c.as_slice.ensures.value,
    ) (let small : event_count (recorded i.program.cores s) ≤ op_count i.program.cores =
    omega (arith, count_is i.program.cores s, placed_total 0 i.program.cores) in small)
