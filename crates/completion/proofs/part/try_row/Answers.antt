use Rattle.std.proofs.Common.{sym, ◌∙◌}
use Rattle.completion.proofs.Alone.{table_size}
use Rattle.completion.proofs.Fed.{allowed_left}
use Rattle.completion.proofs.MemberCounts.{fewer_members}
use Rattle.completion.proofs.part.try_row.Goals as goal

pub returns-in-Completed : goal.returns-in-Completed
returns-in-Completed c =
    let left = c.in_ok-left.ensures.left in
    let leaves = c.in_ok-left.ensures.leaves in
    let completes = rw c.in-Completed.is at c.in_ok-_recording.ensures in
    allowed_left c.args.values.now c.args.row c.in_ok-left.left left leaves
    (c.in-Completed._recording, c.in-Completed._order.items, completes)

pub returns-in-Impossible : goal.returns-in-Impossible
returns-in-Impossible c =
    let left = c.in_ok-left.ensures.left in
    let refuted = rw c.in-Impossible.is at c.in_ok-_recording.ensures in (
      record { left = left; refuted = refuted.0 },
      fewer_members c.in_ok-left.left.row c.args.row
          (left.size ∙ (sym (table_size c.args.values.now c.args.table.now c.requires.table) ∙ sym c.requires.row))
          c.in_ok-left.ensures.leaves.fewer,
    )

pub returns-in-Unfinished : goal.returns-in-Unfinished
returns-in-Unfinished c =
    let left = c.in_ok-left.ensures.left in
    let more = rw c.in-Unfinished.is at c.in_ok-_recording.ensures in
    (c.in_ok-left.left.events.items, c.in_ok-left.left.values, left.events, left.values, more)
