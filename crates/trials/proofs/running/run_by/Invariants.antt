use Rattle.std.proofs.Common.{◌≡◌, ◌<◌, ◌≤◌, ℕ, false}
use Rattle.litmus.specs.Random.{after_words}
use Rattle.machine.specs.Configuration.{IsAtEnd}
use Rattle.trials.specs.Schedule.{configuration_after}
use Rattle.trials.proofs.running.run_by.Given as goal

-- this many attempts were made, and the machine was never complete before one
abbrev pub invariant-attempts : goal.invariant-attempts
invariant-attempts l =
    record {
      leads : l.machine ≡ configuration_after l.initial.machine l.initial.rng l._taken;
      words : l.rng ≡ after_words l._taken l.initial.rng;
      before : (n : ℕ) → n < l._taken → ¬ IsAtEnd (configuration_after l.initial.machine l.initial.rng n);
      within : l._taken ≤ l.attempts;
      still : l.went_on ≡ false → ¬ IsAtEnd l.machine;
    }
