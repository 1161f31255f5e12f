-- Pairs of events that rules show to be in order in whatever completes the values, with their causes.
use Rattle.std.specs.Prelude.{◌≡◌, ◌≢◌, ◌⊎◌, ℕ, zero, suc, Bool, Some, None, List}
use Rattle.std.specs.Prelude.{All}
use Rattle.recording.specs.Execution.{Reads, Writes, ProgramOrder, Kept}
use Rattle.values.specs.Values.{Values}
use Rattle.values.specs.Refused.{events_alone}
use Rattle.completion.specs.declared.cause.Cause.{Cause}
use Rattle.completion.specs.declared.cause.Cause.TheVariants.{Po, Rf, Wo, Fr}
use Rattle.completion.specs.declared.cause.Link.{Link}
use Rattle.completion.specs.declared.inferred.Inferred.{Inferred}
use Rattle.completion.specs.Pairs.{HasPair, IsSquare}
use Rattle.completion.specs.Sources.{IsOnlySource}

-- Causes, by pairs P that are shown already

-- reads-from: event r can read from event w alone, which is not before it on its core
pub record IsReadFrom (v : Values) (w r : ℕ) : Type 0 where
  pub address : ℕ
  pub reads : Reads (events_alone v) r address
  pub source : IsOnlySource v r address (Some w)
  pub apart : ¬ ProgramOrder (events_alone v) w r

-- write order: event r can read from event f alone, and sees event e, another write to the address
pub record IsOlderWrite (v : Values) (P : ℕ → ℕ → Type 0) (e f r : ℕ) : Type 0 where
  pub address : ℕ
  pub reads : Reads (events_alone v) r address
  pub source : IsOnlySource v r address (Some f)
  pub writes : Writes (events_alone v) e address
  pub other : e ≢ f
  pub not_itself : e ≢ r
  pub sees : P e r ⊎ ProgramOrder (events_alone v) e r

-- from-read: event e can read from event w alone, and event f writes the address after it
pub record IsNewerWrite (v : Values) (P : ℕ → ℕ → Type 0) (e f w : ℕ) : Type 0 where
  pub address : ℕ
  pub reads : Reads (events_alone v) e address
  pub source : IsOnlySource v e address (Some w)
  pub writes : Writes (events_alone v) f address
  pub not_itself : f ≢ e
  pub after : P w f

-- event e can read the initial value alone, and event f is another write to the address
pub record IsFirstWrite (v : Values) (e f : ℕ) : Type 0 where
  pub address : ℕ
  pub reads : Reads (events_alone v) e address
  pub source : IsOnlySource v e address None
  pub writes : Writes (events_alone v) f address
  pub not_itself : f ≢ e

-- so event e comes before event f; where f is before it on its core, it comes before itself
abbrev pub IsFromInitial : Values → ℕ → ℕ → Type 0
IsFromInitial v e f = IsFirstWrite v e f
    ⊎ ((e ≡ f) × ((w : ℕ) × IsFirstWrite v e w × ProgramOrder (events_alone v) w e))

-- why event e comes before event f
abbrev pub IsCause : Values → (ℕ → ℕ → Type 0) → ℕ → ℕ → Cause → Type 0
IsCause v P e f Po = Kept (events_alone v) e f
IsCause v P e f Rf = IsReadFrom v e f
IsCause v P e f (Wo r) = IsOlderWrite v P e f r
IsCause v P e f (Fr None) = IsFromInitial v e f
IsCause v P e f (Fr (Some w)) = IsNewerWrite v P e f w

-- What causes show

-- some cause puts event e before event f
abbrev pub IsCaused : Values → (ℕ → ℕ → Type 0) → ℕ → ℕ → Type 0
IsCaused v P e f = (cause : Cause) × IsCause v P e f cause

-- n rounds show that event e comes before event f: fewer do, or a cause by their pairs does, or two of their pairs do
abbrev pub ShownIn : Values → ℕ → ℕ → ℕ → Type 0
ShownIn v zero e f = ⊥
ShownIn v (suc n) e f = ShownIn v n e f ⊎ (IsCaused v (ShownIn v n) e f
    ⊎ ((g : ℕ) × ShownIn v n e g × ShownIn v n g f))

-- causes show that event e comes before event f
abbrev pub IsShown : Values → ℕ → ℕ → Type 0
IsShown v e f = (n : ℕ) × ShownIn v n e f

-- the cause of a link holds, by what is shown
abbrev pub IsLink : Values → Link → Type 0
IsLink v l = IsCause v (IsShown v) l.first l.second l.cause

-- each pair in the rows is shown
abbrev pub AreShown : Values → List (List Bool) → Type 0
AreShown v rows = (e f : ℕ) → HasPair rows e f → IsShown v e f

-- and each link has its cause
pub record AreInferred (v : Values) (i : Inferred) : Type 0 where
  pub square : IsSquare i.rows.items
  pub shown : AreShown v i.rows.items
  pub links : All (IsLink v) i.links.items
