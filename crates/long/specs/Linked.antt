-- Pairs of a recording.
use Rattle.std.specs.Prelude.{◌<◌, ℕ, false}
use Rattle.recording.specs.Execution.{Execution}
use Rattle.relations.specs.declared.reason.Reason.TheVariants.{Rf}
use Rattle.relations.specs.Direct.{IsNextWrite}
use Rattle.relations.specs.Forced.{Forced, Holds}
use Rattle.long.specs.declared.linking.Linked.{Linked}
use Rattle.long.specs.Chains.{times_listed}
use Rattle.long.specs.Steps.{IsLast, IsLastStore, IsNewerStep}

-- each pair is forced
abbrev pub IsLinked : Execution → Linked → Type 0
IsLinked x l = (d e : ℕ) → 0 < times_listed l.list.items d e → Forced x d e

-- what was put stays
abbrev pub KeepsPairs : Linked → Linked → Type 0
KeepsPairs old new = (d e : ℕ) → 0 < times_listed old.list.items d e → 0 < times_listed new.list.items d e

-- the forced pairs that are listed with e
pub record HasPairsOf (x : Execution) (e : ℕ) (l : Linked) : Type 0 where
  pub store : (d : ℕ) → IsLastStore x d e → Forced x d e → 0 < times_listed l.list.items d e
  pub other : (d : ℕ) → IsLast x false d e → 0 < times_listed l.list.items d e
  pub source : (d : ℕ) → Holds x Rf d e → 0 < times_listed l.list.items d e
  pub next : (w : ℕ) → IsNextWrite x e w → 0 < times_listed l.list.items e w
  pub newer : (w : ℕ) → IsNewerStep x e w → 0 < times_listed l.list.items e w
