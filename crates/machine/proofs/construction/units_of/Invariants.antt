use Rattle.std.proofs.Common.{◌≡◌, ◌<◌, ℕ, length, get_or}
use Rattle.core_unit.specs.Progress.{Progress}
use Rattle.machine.specs.State.{first_event}
use Rattle.machine.proofs.construction.units_of.Given as goal

abbrev pub invariant-loop-ops : goal.invariant-loop-ops
invariant-loop-ops l = record {
  one_each : length l.units.items ≡ l.ops-index;
  next : l.next ≡ first_event l.program l.ops-index;
  begun : (c : ℕ) (d : Progress) → c < l.ops-index → get_or l.units.items c d
      ≡ record { first = first_event l.program c; place = 0 };
}
