use Rattle.std.proofs.Common.{◌≡◌, true, false, sym, ◌∙◌}
use Rattle.completion.proofs.Made.{has_room}
use Rattle.completion.proofs.WithoutChoice.{only_where}
use Rattle.completion.proofs.only.only_recording.Goals as goal

pub returns-then-not-have_room-clause-none : goal.returns-then-not-have_room-clause-none
returns-then-not-have_room-clause-none c none is x has = absurd (
    let yes : c.have_room.result ≡ true = c.have_room.ensures.1 (has_room c.args.values.now x has) in
    let clash : true ≡ false = sym yes ∙ c.if-not-have_room.true in cc)

pub recording_without_choice-requires-clause-choice : goal.recording_without_choice-requires-clause-choice
recording_without_choice-requires-clause-choice c = c.leave_no_choice.ensures.holds c.if-not-leave_no_choice.false

pub returns-clause-some : goal.returns-clause-some
returns-clause-some c = only_where c.args.values.now c.in_ok-recording.recording
    (c.determined_have_one_recording.ensures c.args.values.now) (c.leave_no_choice.ensures.holds c.if-not-leave_no_choice.false)
    c.in_ok-recording.ensures.some
