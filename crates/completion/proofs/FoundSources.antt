-- Sources that code finds.
use Rattle.std.proofs.Common.{◌≡◌, ◌<◌, inl, ℕ, Option, Some, None, List, length, arith}
use Rattle.recording.specs.EventLaws.{Writes-event}
use Rattle.values.specs.Values.{Values, known_source}
use Rattle.values.specs.Refused.{events_alone}
use Rattle.completion.specs.declared.table.Placed.{Placed}
use Rattle.completion.specs.Pairs.{IsTable}
use Rattle.completion.specs.Sources.{Matches, MayGive, IsFoundSource, found_of}
use Rattle.completion.proofs.Alone.{table_size}

-- what may give a value is in the table
pub given_inside : (v : Values) (items : List Placed) (e a u : ℕ) → IsTable v items → MayGive v e a u → u < length items
given_inside v items e a u h may =
    omega (arith, table_size v items h, Writes-event (events_alone v) u a may.writes)

-- it matches
pub matches_given : (v : Values) (e a u : ℕ) → MayGive v e a u → Matches v e a u
matches_given v e a u may = record { writes = may.writes; value = may.value; other = may.other }

-- a source that is known
pub found_known : (v : Values) (e a : ℕ) (s : Option ℕ) → known_source v e ≡ Some s → IsFoundSource v e a (found_of s)
found_known v e a None is = inl is
found_known v e a (Some w) is = inl is
