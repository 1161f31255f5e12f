use Rattle.std.proofs.Common.{subst, sym}
use Rattle.best.specs.declared.rule.SeatView.{SeatView}
use Rattle.best.specs.Rule.{IsUnset}
use Rattle.best.proofs.Keeps.{unset}
use Rattle.best.proofs.seat.Best.open.Goals as goal

pub returns-clause-none : goal.returns-clause-none
returns-clause-none c =
    let me = c.in_ok-table.ensures.4 in
    subst (λ (v : SeatView). IsUnset v) (λ i. (sym me i).0) (unset c.args.relation.now)
