-- What is found of recordings and of values, and its code.
use Rattle.std.specs.Prelude.{◌≡◌, ◌+◌, ◌-◌, ◌*◌, ◌≤◌, ℕ, ⊤, length, min, true}
use Rattle.common.specs.declared.limits.TheConstants.{MAX_EVENTS}
use Rattle.recording.specs.declared.fault.RecError.{RecError}
use Rattle.recording.specs.declared.fault.RecError.TheVariants as refusals
use Rattle.verdicts.specs.declared.verdict.Verdict.{Verdict}
use Rattle.verdicts.specs.declared.verdict.Verdict.TheVariants as verdicts
use Rattle.ledger.specs.declared.code.TheConstants.{UNFINISHED, ORDERED, IMPOSSIBLE, CYCLE, LONG_CYCLE}
use Rattle.ledger.specs.declared.code.TheConstants.{REFUSED, OVERLOOK, LOAD}
use Rattle.ledger.specs.Kinds.{is_cycle, is_ordered, is_overlook, is_unfinished, is_unread}
use Rattle.ledger.specs.declared.finding.Finding.{Finding}
use Rattle.ledger.specs.declared.finding.Finding.TheVariants.{Ordered, Overlook, Cycle, Impossible, Unfinished, Refused}

-- a cycle has no more events than a recording may have
abbrev pub IsShortVerdict : Verdict → Type 0
IsShortVerdict (verdicts.Ordered order) = ⊤
IsShortVerdict (verdicts.Overlook load store) = ⊤
IsShortVerdict (verdicts.Cycle certificate) = length certificate.cycle.items ≤ MAX_EVENTS

-- what a verdict finds
abbrev pub finding_of : Verdict → Finding
finding_of (verdicts.Ordered order) = Ordered
finding_of (verdicts.Overlook load store) = Overlook load store
finding_of (verdicts.Cycle certificate) = Cycle (length certificate.cycle.items)

-- the length of a cycle, or one length for all cycles of more events than a program may have
abbrev pub counted_length : ℕ → ℕ
counted_length n = min n LONG_CYCLE

-- an event or an address, or the greatest number below the codes of the next kind
abbrev pub place_code : ℕ → ℕ
place_code place = min place (REFUSED - 1)

-- the code of a refusal: the number of its kind, and its event or address; none where memory ran out
abbrev pub refusal_code : RecError → ℕ
refusal_code refusals.NotJson = REFUSED
refusal_code refusals.Shape = REFUSED * 2
refusal_code refusals.Version = REFUSED * 3
refusal_code refusals.Limits = REFUSED * 4
refusal_code (refusals.Source e) = REFUSED * 5 + place_code e
refusal_code (refusals.Value e) = REFUSED * 6 + place_code e
refusal_code (refusals.WriteList a) = REFUSED * 7 + place_code a
refusal_code refusals.OutOfMemory = 0

-- the code of what is found: an order, the load and the store, the length of the cycle, what values come to, or the
-- refusal
abbrev pub finding_code : Finding → ℕ
finding_code Ordered = ORDERED
finding_code (Overlook load store) = OVERLOOK + LOAD * load + store
finding_code (Cycle n) = CYCLE + counted_length n
finding_code Impossible = IMPOSSIBLE
finding_code Unfinished = UNFINISHED
finding_code (Refused refusal) = refusal_code refusal

-- a code is of the kind of what is found
abbrev pub IsOfKind : Finding → ℕ → Type 0
IsOfKind Ordered code = is_ordered code ≡ true
IsOfKind (Overlook load store) code = is_overlook code ≡ true
IsOfKind (Cycle n) code = is_cycle code ≡ true
IsOfKind Impossible code = is_cycle code ≡ true
IsOfKind Unfinished code = is_unfinished code ≡ true
IsOfKind (Refused refusal) code = is_unread code ≡ true

-- so is the code of everything that can be found, however large its numbers are
abbrev pub EveryFindingHasItsKind : Type 0
EveryFindingHasItsKind = (f : Finding) → IsOfKind f (finding_code f)
