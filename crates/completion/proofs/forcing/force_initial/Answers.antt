use Rattle.std.proofs.Common.{◌≢◌, ℕ, None, inl, inr, refl}
use Rattle.recording.specs.Execution.{Reads, Writes}
use Rattle.values.specs.Values.{Values}
use Rattle.values.specs.Refused.{events_alone}
use Rattle.completion.specs.Sources.{IsOnlySource}
use Rattle.completion.specs.Inferred.{IsFirstWrite}
use Rattle.completion.proofs.forcing.force_initial.Goals as goal

-- another write to the address of a read of the initial value
first_write : (v : Values) (e a w : ℕ) → Reads (events_alone v) e a → IsOnlySource v e a None
    → Writes (events_alone v) w a → w ≢ e → IsFirstWrite v e w
first_write v e a w reads source writes other =
    record { address = a; reads = reads; source = source; writes = writes; not_itself = other }

pub put-requires-clause-link : goal.put-requires-clause-link
put-requires-clause-link c = inr (
  refl,
  (
    c.args.write,
    first_write c.args.values.now c.args.read.number c.args.read.address c.args.write c.requires.read.reads
        c.requires.source c.requires.writes c.requires.other,
    c.is_own.ensures.holds c.if-is_own.true,
  ),
)

pub put-requires-2-clause-link : goal.put-requires-2-clause-link
put-requires-2-clause-link c = inl
    (first_write c.args.values.now c.args.read.number c.args.read.address c.args.write c.requires.read.reads
    c.requires.source c.requires.writes c.requires.other)
