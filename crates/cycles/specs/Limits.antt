-- How many events, cores and addresses words have.
use Rattle.std.specs.Prelude.{◌+◌, ◌<◌, ◌≤◌, ◌⊎◌, ℕ, List, count_by, length, take}
use Rattle.common.specs.declared.limits.TheConstants.{MAX_ADDRESSES, MAX_CORES, MAX_EVENTS}
use Rattle.cycles.specs.declared.word.Word.{Word}
use Rattle.cycles.specs.Words.{is_external, is_fenced, is_other_address}

-- the accesses at which words start and their fences, the cores to which they lead, or the addresses, are more than a
-- program has
abbrev pub AreBeyond : List Word → Type 0
AreBeyond ws = (MAX_EVENTS < length ws + count_by is_fenced ws) ⊎ (MAX_CORES < count_by is_external ws)
    ⊎ (MAX_ADDRESSES < count_by is_other_address ws)

-- the first n words are beyond, and no fewer
pub record IsFirstBeyond (ws : List Word) (n : ℕ) : Type 0 where
  pub some : 0 < n
  pub within : n ≤ length ws
  pub beyond : AreBeyond (take n ws)
  pub least : (m : ℕ) → 0 < m → m < n → ¬ AreBeyond (take m ws)
