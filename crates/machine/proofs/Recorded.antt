-- The recording of a complete state is one within the limits.
use Rattle.std.proofs.Common.{◌≡◌, ◌≤◌, length, arith}
use Rattle.std.specs.List.{sum_by}
use Rattle.common.specs.declared.limits.TheConstants.{MAX_CORES, MAX_EVENTS, MAX_ADDRESSES}
use Rattle.program.specs.Parts.{Parts}
use Rattle.recording.specs.Recording.{IsShortRecording}
use Rattle.machine.specs.State.{State, recorded, IsComplete}
use Rattle.recording.specs.PlacedLaws.{placed_total}
use Rattle.machine.specs.RecordedLaws.{count_is, cores_length}
use Rattle.machine.proofs.Data.{IsData, complete_well_formed, complete_addresses}

-- the recording of a complete state is no larger than a program
pub complete_recording : (p : Parts) (s : State) → length p.cores ≤ MAX_CORES
    → sum_by (λ ops. length ops) p.cores ≤ MAX_EVENTS → length s.write_lists ≤ MAX_ADDRESSES
    → length s.initial ≡ length s.write_lists → IsData p.cores s → IsComplete p.cores s
    → IsShortRecording (recorded p.cores s)
complete_recording p s cores events addresses initials d end = record {
  well_formed = complete_well_formed p.cores s d end;
  within = record {
    few_cores = omega (arith, cores, cores_length 0 p.cores s.reads);
    few_events = omega (arith, events, count_is p.cores s, placed_total 0 p.cores);
    few_addresses = addresses;
    initial = initials;
    addresses = complete_addresses p.cores s d end;
  };
}
