use Rattle.std.proofs.Common.{◌≡◌, ◌≤◌}
use Rattle.trials.specs.Looking.{IsDeskSeatOf}
use Rattle.trials.proofs.campaign_run.filed_count.Given as goal

abbrev pub invariant-loop-k : goal.invariant-loop-k
invariant-loop-k l =
    record {
      seat : IsDeskSeatOf l.desk l.seat;
      campaign : l.seat.seat.me.0.campaign ≡ l.initial.seat.seat.me.0.campaign;
      few : l.filed ≤ l.k;
    }
