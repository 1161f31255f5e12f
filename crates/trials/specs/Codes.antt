-- The code of a trial.
use Rattle.std.specs.Prelude.{◌≡◌, ◌<◌, ◌+◌, ◌*◌, ◌%◌, ◌^◌, ℕ, List, length, Option, None, Some, ⊤}
use Rattle.std.specs.Prelude.{slice_index}
use Rattle.rand_core.specs.Steps.{first_words}
use Rattle.rand_xoshiro.specs.SplitMix64.{splitmix_seed}
use Rattle.rand_xoshiro.specs.Xoshiro256.{plus_plus, of_seed}
use Rattle.program.specs.Parts.{Parts}
use Rattle.litmus.specs.Random.{after_words, program_of_words}
use Rattle.machine.specs.Configuration.{Configuration}
use Rattle.verdicts.specs.declared.verdict.Verdict.{Verdict}
use Rattle.ledger.specs.declared.code.TheConstants.{UNFINISHED}
use Rattle.ledger.specs.Findings.{finding_code, finding_of}
use Rattle.ledger.specs.Findings as findings
use Rattle.trials.specs.Campaigns.{Plan}
use Rattle.trials.specs.Judged.{IsEndVerdict, begun_machine}
use Rattle.trials.specs.Schedule.{IsRandomRun}

-- the generator of trial k
abbrev pub generator : Plan → ℕ → List ℕ
generator p k = of_seed (splitmix_seed 32 ((p.base + k) % 2 ^ 64))

-- how many words make its program
abbrev pub event_words : Plan → ℕ
event_words p = p.shape.cores * p.shape.ops

-- its program
abbrev pub program_of_trial : Plan → ℕ → Parts
program_of_trial p k = program_of_words p.shape (first_words plus_plus (event_words p) (generator p k))

-- trial k ends in this machine
abbrev pub EndsIn : Plan → ℕ → Configuration → Type 0
EndsIn p k h = (rest : List ℕ) × IsRandomRun p.attempts
    (begun_machine (program_of_trial p k) p.capacity p.fault) (after_words (event_words p) (generator p k)) h
    rest

-- the code of what is judged of a machine in which a trial ends
abbrev pub end_code : Option Verdict → ℕ
end_code None = UNFINISHED
end_code (Some verdict) = finding_code (finding_of verdict)

-- a cycle has no more events than a recording may have
abbrev pub IsShortEnd : Option Verdict → Type 0
IsShortEnd None = ⊤
IsShortEnd (Some verdict) = findings.IsShortVerdict verdict

-- the code of trial k of a campaign
pub record IsCode (p : Plan) (k n : ℕ) : Type 0 where
  pub end : Configuration
  pub ends : EndsIn p k end
  pub verdict : Option Verdict
  pub judged : IsEndVerdict end verdict
  pub short : IsShortEnd verdict
  pub code : n ≡ end_code verdict

-- the codes of all trials, in order
pub record AreCodes (p : Plan) (codes : List ℕ) : Type 0 where
  pub size : length codes ≡ p.trials
  pub each : (k : ℕ) → k < p.trials → IsCode p k (slice_index codes k)
