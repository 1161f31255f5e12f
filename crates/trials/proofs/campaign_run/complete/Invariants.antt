use Rattle.std.proofs.Common.{◌≡◌, ◌<◌, ℕ, length}
use Rattle.std.specs.Prelude.{slice_index}
use Rattle.trials.specs.LegalDesk.{IsDeskWord}
use Rattle.trials.specs.Codes.{IsCode}
use Rattle.trials.proofs.campaign_run.complete.Given as goal

-- the words so far are codes, and the others are open, claimed or codes
abbrev pub invariant-loop-k : goal.invariant-loop-k
invariant-loop-k l =
    record {
      size : length l.words.items ≡ l.campaign.trials;
      done : (k : ℕ) → k < l.k → IsCode l.campaign k (slice_index l.words.items k);
      words : (k : ℕ) → k < l.campaign.trials → IsDeskWord l.campaign k (slice_index l.words.items k);
    }
