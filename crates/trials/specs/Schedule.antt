-- Random runs: the steps that words name, and where a run ends.
use Rattle.std.specs.Prelude.{◌≡◌, ◌⊎◌, ◌<◌, ◌≤◌, ◌+◌, ◌-◌, ◌*◌, ◌/◌, ◌%◌, ◌==◌, ℕ, List, map, length, nat_lt}
use Rattle.std.specs.Prelude.{get_or, if◌then◌else◌}
use Rattle.rand_core.specs.Steps.{first_words}
use Rattle.rand_xoshiro.specs.Xoshiro256.{plus_plus}
use Rattle.litmus.specs.Random.{after_words}
use Rattle.machine.specs.declared.step.Step.{Step}
use Rattle.machine.specs.declared.step.Step.TheVariants.{Exec, Drain, GetS, GetM, Put}
use Rattle.machine.specs.Configuration.{Configuration, IsAtEnd, state_after}

-- how many steps a machine has
abbrev pub step_count : ℕ → ℕ → ℕ
step_count cores addresses = 2 * cores + 3 * (cores * addresses)

-- step i of the transactions: GetS, GetM and Put of each core and address
abbrev pub transaction_at : ℕ → ℕ → ℕ → Step
transaction_at cores addresses i =
    if nat_lt i (cores * addresses) then GetS (i / addresses) (i % addresses)
    else (if nat_lt i (2 * (cores * addresses))
    then GetM ((i - cores * addresses) / addresses) ((i - cores * addresses) % addresses)
    else Put ((i - 2 * (cores * addresses)) / addresses) ((i - 2 * (cores * addresses)) % addresses))

-- step i: Exec of each core, Drain of each core, and the transactions
abbrev pub step_at : ℕ → ℕ → ℕ → Step
step_at cores addresses i =
    if nat_lt i cores then Exec i
    else (if nat_lt i (2 * cores) then Drain (i - cores) else transaction_at cores addresses (i - 2 * cores))

-- a table has the steps at its front
abbrev pub AreSteps : ℕ → ℕ → List Step → Type 0
AreSteps cores addresses table =
    (i : ℕ) (d : Step) → i < step_count cores addresses → get_or table i d ≡ step_at cores addresses i

-- the step that a word names; without a core there is none, and this one is blocked
abbrev pub step_of_word : ℕ → ℕ → ℕ → Step
step_of_word cores addresses word =
    if cores == 0 then Exec 0 else step_at cores addresses (word % step_count cores addresses)

-- the steps that words name
abbrev pub schedule : Configuration → List ℕ → List Step
schedule h words = map (step_of_word (length h.program.cores) (length h.program.names)) words

-- the machine after the steps that the next n words of a generator name
abbrev pub configuration_after : Configuration → List ℕ → ℕ → Configuration
configuration_after h rng n = record h { state = state_after h (schedule h (first_words plus_plus n rng)) }

-- a run of this many attempts at most ends here: at the first moment at which the machine is
-- complete, or at the last attempt
pub record IsRandomRun (attempts : ℕ) (h : Configuration) (rng : List ℕ) (end : Configuration)
    (rest : List ℕ) : Type 0 where
  pub taken : ℕ
  pub within : taken ≤ attempts
  pub leads : end ≡ configuration_after h rng taken
  pub words : rest ≡ after_words taken rng
  pub ended : IsAtEnd end ⊎ (taken ≡ attempts)
  pub before : (n : ℕ) → n < taken → ¬ IsAtEnd (configuration_after h rng n)
