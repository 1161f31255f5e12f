-- What each fault changes: one row of the table of steps, and nothing else.
use Rattle.std.specs.Prelude.{◌==◌, ◌+◌, ◌-◌, ◌++◌, ℕ, Bool, true, Option, None, Result, List, length, take, drop}
use Rattle.write_buffer.specs.declared.entry.Entry.{Entry}
use Rattle.write_buffer.specs.Buffer.{youngest}
use Rattle.moesi.specs.State as moesi
use Rattle.moesi.specs.declared.error.CacheError.{CacheError}
use Rattle.program.specs.declared.fault.Fault.{Fault}
use Rattle.program.specs.declared.fault.Fault.TheVariants.{NoBypass, YoungestFirst, OpenFence, StaleShare, EarlyRmw}
use Rattle.machine.specs.declared.step.Transaction.{Transaction}
use Rattle.machine.specs.declared.step.Transaction.TheVariants.{GetS, GetM, Put}

-- the waiting store that a load of address a gets: the youngest to a; none with NoBypass
abbrev pub forwarded : Fault → List Entry → ℕ → Option Entry
forwarded NoBypass entries a = None
forwarded fault entries a = youngest entries a

-- the place of the waiting store that drains: the oldest; the youngest with YoungestFirst
abbrev pub draining : Fault → List Entry → ℕ
draining YoungestFirst entries = length entries - 1
draining fault entries = 0

-- whether a fence may go on: with an empty buffer; always with OpenFence
abbrev pub may_fence : Fault → List Entry → Bool
may_fence OpenFence entries = true
may_fence fault entries = length entries == 0

-- whether a read-modify-write, also a compare-and-swap, may go on: with an empty buffer; always with
-- EarlyRmw
abbrev pub may_rmw : Fault → List Entry → Bool
may_rmw EarlyRmw entries = true
may_rmw fault entries = length entries == 0

-- what a transaction of core c at address a does: by GetM others become I, but those in S stay with StaleShare
abbrev pub transacted : Fault → Transaction → moesi.CacheState → ℕ → ℕ → Result moesi.CacheState CacheError
transacted fault GetS caches c a = moesi.get_s caches c a
transacted StaleShare GetM caches c a = moesi.get_m_stale caches c a
transacted fault GetM caches c a = moesi.get_m caches c a
transacted fault Put caches c a = moesi.put caches c a

-- the entries but the one at place i
abbrev pub without : ℕ → List Entry → List Entry
without i entries = take i entries ++ drop (i + 1) entries
