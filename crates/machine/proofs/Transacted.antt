-- What a transaction does to the parts of a machine.
use Rattle.std.proofs.Common.{◌≡◌, ℕ, cond, Option, Err, List, length, refl, ◌∙◌}
use Rattle.program.specs.declared.op.Op.{Op}
use Rattle.program.specs.Parts.{Parts}
use Rattle.write_buffer.specs.Buffer.{Buffer}
use Rattle.core_unit.specs.Progress.{Progress}
use Rattle.moesi.specs.State as moesi
use Rattle.machine.specs.declared.blocked.Blocked.TheVariants.{B7, B8}
use Rattle.program.specs.declared.fault.Fault.{Fault}
use Rattle.machine.specs.declared.step.Transaction.{Transaction}
use Rattle.machine.specs.declared.step.Transaction.TheVariants.{GetS, GetM, Put}
use Rattle.machine.specs.Faults.{transacted}
use Rattle.machine.specs.ScriptLine.{transaction_step}
use Rattle.machine.specs.State.{State}
use Rattle.machine.specs.Step.{has, or_blocked, step_result, with_caches}
use Rattle.machine.specs.Configuration.{BoundedItems, IsSound}

-- the rows of transactions
pub transaction_row : (p : List (List Op)) (capacity : ℕ) (f : Fault) (s : State) (kind : Transaction) (c a : ℕ)
    → step_result p capacity f s (transaction_step kind c a)
    ≡ cond (has p s c a) (or_blocked B7 (with_caches s) (transacted f kind s.caches c a)) (Err B8)
transaction_row p capacity f s GetS c a = refl
transaction_row p capacity f s GetM c a = refl
transaction_row p capacity f s Put c a = refl

-- the parts still fit together
pub transacted_sound : {p : Parts} {capacity : ℕ} {units : List Progress} {buffers : List Buffer}
    {caches caches' : moesi.CacheState} {writes : List (BoundedItems ℕ)} {reads : List (ℕ × Option ℕ)}
    {done : BoundedItems ℕ} → IsSound p capacity units buffers caches writes reads done
    → caches'.cores ≡ caches.cores → length caches'.blocks ≡ length caches.blocks
    → IsSound p capacity units buffers caches' writes reads done
transacted_sound sound same_cores same_blocks = record {
  operations = sound.operations;
  few = sound.few;
  initials = sound.initials;
  units_length = sound.units_length;
  buffers_length = sound.buffers_length;
  cache_cores = same_cores ∙ sound.cache_cores;
  cache_blocks = same_blocks ∙ sound.cache_blocks;
  writes_length = sound.writes_length;
  events = sound.events;
  first = sound.first;
  place = sound.place;
  capacities = sound.capacities;
  entries = sound.entries;
  write_rooms = sound.write_rooms;
  write_lengths = sound.write_lengths;
  performed_room = sound.performed_room;
  counted = sound.counted;
}
