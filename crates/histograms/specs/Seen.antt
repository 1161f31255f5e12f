-- What is seen of a run.
use Rattle.std.specs.Prelude.{◌≡◌, ℕ, Bool, true, false, List, Option, Some, None}
use Rattle.recording.specs.Tso.{IsTsoOrder}
use Rattle.relations.specs.Consistency.{HasNoOrder}
use Rattle.machine.specs.Configuration.{Configuration, IsAtEnd, recording_of}
use Rattle.outcomes.specs.Outcome.{IsOutcomeOf}
use Rattle.verdicts.specs.declared.verdict.Verdict.{Verdict}
use Rattle.verdicts.specs.declared.verdict.Verdict.TheVariants.{Ordered, Overlook, Cycle}
use Rattle.histograms.specs.declared.seen.Seen.{Seen}

-- no order
abbrev pub is_violation : Verdict → Bool
is_violation (Ordered m) = false
is_violation (Overlook l s) = true
is_violation (Cycle c) = true

-- the outcome of the recording of a machine that is complete, and whether TSO has no order for it
pub record IsSeenOf (h : Configuration) (s : Seen) : Type 0 where
  pub complete : IsAtEnd h
  pub outcome : IsOutcomeOf (recording_of h) s.outcome
  pub forbidden : s.violation ≡ true → HasNoOrder (recording_of h)
  pub allowed : s.violation ≡ false → (m : List ℕ) × IsTsoOrder (recording_of h) m

-- none where the machine is not complete
abbrev pub IsSeen : Configuration → Option Seen → Type 0
IsSeen h None = IsAtEnd h → ⊥
IsSeen h (Some s) = IsSeenOf h s
