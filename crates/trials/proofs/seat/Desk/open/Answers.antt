use Rattle.std.proofs.Common.{subst, sym}
use Rattle.trials.specs.declared.desk_table.SeatKnowledge.{SeatKnowledge}
use Rattle.trials.specs.LegalDesk.{AreAllOpen}
use Rattle.trials.proofs.Keeps.{all_open}
use Rattle.trials.proofs.seat.Desk.open.Goals as goal

pub returns-clause-words : goal.returns-clause-words
returns-clause-words c =
    let me = c.in_ok-table.ensures.4 in
    subst (λ (v : SeatKnowledge). AreAllOpen v) (λ i. (sym me i).0) (all_open c.args.campaign.now)
