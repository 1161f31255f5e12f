-- What is found has a code of its kind.
use Rattle.std.proofs.Common.{◌≡◌, ◌+◌, ◌<◌, ◌≤◌, ◌*◌, ℕ, true, arith, refl}
use Rattle.std.proofs.lemmas.Bool.Decides.{nat_tests}
use Rattle.recording.specs.declared.fault.RecError.{RecError}
use Rattle.recording.specs.declared.fault.RecError.TheVariants as refusals
use Rattle.ledger.specs.declared.code.TheConstants.{CYCLE, LOAD, LONG_CYCLE, OVERLOOK, REFUSED}
use Rattle.ledger.specs.declared.finding.Finding.TheVariants.{Ordered, Overlook, Cycle, Impossible, Unfinished, Refused}
use Rattle.ledger.specs.Findings.{EveryFindingHasItsKind, counted_length, place_code, refusal_code}
use Rattle.ledger.specs.Kinds.{is_cycle, is_overlook, is_unread}

-- what lies between the codes of cycles and of overlooks is refused
unread_between : (code : ℕ) → REFUSED ≤ code → code < OVERLOOK → is_unread code ≡ true
unread_between code low high = grind (arith, nat_tests, low, high)

-- a refusal is refused
refusal_unread : (refusal : RecError) → is_unread (refusal_code refusal) ≡ true
refusal_unread refusals.NotJson = refl
refusal_unread refusals.Shape = refl
refusal_unread refusals.Version = refl
refusal_unread refusals.Limits = refl
refusal_unread (refusals.Source e) = unread_between (REFUSED * 5 + place_code e) (omega arith) (omega arith)
refusal_unread (refusals.Value e) = unread_between (REFUSED * 6 + place_code e) (omega arith) (omega arith)
refusal_unread (refusals.WriteList a) = unread_between (REFUSED * 7 + place_code a) (omega arith) (omega arith)
refusal_unread refusals.OutOfMemory = refl

-- a cycle of any length has the code of a cycle
cycle_counted : (k : ℕ) → k ≤ LONG_CYCLE → is_cycle (CYCLE + k) ≡ true
cycle_counted k within = grind (arith, nat_tests, within)

-- an overlook has the code of one
overlook_counted : (code : ℕ) → OVERLOOK ≤ code → is_overlook code ≡ true
overlook_counted code high = grind (arith, nat_tests, high)

-- so has each its own
pub every_kind : EveryFindingHasItsKind
every_kind Ordered = refl
every_kind (Overlook load store) = overlook_counted (OVERLOOK + LOAD * load + store) (omega arith)
every_kind (Cycle n) = cycle_counted (counted_length n) (omega arith)
every_kind Impossible = refl
every_kind Unfinished = refl
every_kind (Refused refusal) = refusal_unread refusal
