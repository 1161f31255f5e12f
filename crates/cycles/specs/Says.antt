-- What a word says of two events of an execution.
use Rattle.std.specs.Prelude.{◌≡◌, ◌≢◌, ◌==◌, ◌&&◌, ℕ, Bool, true, false, not, Some}
use Rattle.explanation.specs.Diy.{accessed}
use Rattle.recording.specs.declared.event.Event.{Event}
use Rattle.recording.specs.declared.event.Event.TheVariants as event
use Rattle.recording.specs.Execution.{Execution, ProgramOrder, Reads, Writes, core_of, event_at, source_of, write_list}
use Rattle.recording.specs.Order.{Before}
use Rattle.relations.specs.Forced.{IsOlder}
use Rattle.cycles.specs.declared.word.Letter.{Letter}
use Rattle.cycles.specs.declared.word.Link.{Link}
use Rattle.cycles.specs.declared.word.Link.TheVariants.{Rf, Fr, Co}
use Rattle.cycles.specs.declared.word.Pair.{Pair as PairOf}
use Rattle.cycles.specs.declared.word.Word.{Word}
use Rattle.cycles.specs.declared.word.Word.TheVariants.{Pair, Side}

-- the event is what the letter says: a load, a store, or a read-modify-write
abbrev pub has_letter : Letter → Event → Bool
has_letter l (event.L a r s) = not l.is_atomic && not l.is_store
has_letter l (event.S a w) = not l.is_atomic && l.is_store
has_letter l (event.R a r s w) = l.is_atomic
has_letter l (event.C a r s) = false
has_letter l event.F = false

-- a fence stands between two events of a core
abbrev pub HasFence : Execution → ℕ → ℕ → Type 0
HasFence x e f = (g : ℕ) × ProgramOrder x e g × ProgramOrder x g f × (event_at x g ≡ event.F)

-- two accesses in program order
pub record PairSaid (x : Execution) (p : PairOf) (e f : ℕ) : Type 0 where
  pub order : ProgramOrder x e f
  pub fence : p.fenced ≡ true → HasFence x e f
  pub address : p.same_address ≡ (accessed (event_at x e) == accessed (event_at x f))
  pub first : has_letter p.first (event_at x e) ≡ true
  pub second : has_letter p.second (event_at x f) ≡ true

-- one reads what the other wrote, writes a newer value than it read, or writes after it
abbrev pub SideSaid : Execution → Link → ℕ → ℕ → Type 0
SideSaid x Rf e f = source_of x f ≡ Some e
SideSaid x Fr e f = (a : ℕ) × Reads x e a × Writes x f a × (f ≢ e) × IsOlder (write_list x a) (source_of x e) f
SideSaid x Co e f = (a : ℕ) × Before (write_list x a) e f

-- what a word says of two events is so
abbrev pub Says : Execution → Word → ℕ → ℕ → Type 0
Says x (Pair p) e f = PairSaid x p e f
Says x (Side s) e f = (s.same_core ≡ (core_of x e == core_of x f)) × SideSaid x s.link e f
