-- Recordings of the two sizes.
use Rattle.std.proofs.Common.{◌≤◌, arith}
use Rattle.recording.specs.declared.size.RecordingSize.{RecordingSize}
use Rattle.recording.specs.declared.size.RecordingSize.TheVariants.{Short, Long}
use Rattle.common.specs.declared.limits.TheConstants.{MAX_RECORDED_CORES, MAX_RECORDED_EVENTS, MAX_RECORDED_ADDRESSES}
use Rattle.recording.specs.Execution.{Execution}
use Rattle.recording.specs.Recording.{IsRecordingWithin, IsRecording, IsWithinLimits}
use Rattle.recording.specs.Sizes.{most_cores, most_events, most_addresses}

-- no size has more cores than long recordings
pub cores_of_size : (size : RecordingSize) → most_cores size ≤ MAX_RECORDED_CORES
cores_of_size Short = omega arith
cores_of_size Long = omega arith

-- nor more events
pub events_of_size : (size : RecordingSize) → most_events size ≤ MAX_RECORDED_EVENTS
events_of_size Short = omega arith
events_of_size Long = omega arith

-- nor more addresses
pub addresses_of_size : (size : RecordingSize) → most_addresses size ≤ MAX_RECORDED_ADDRESSES
addresses_of_size Short = omega arith
addresses_of_size Long = omega arith

-- so what is within the limits of a size is within those of long recordings
pub within_of_size : (size : RecordingSize) (x : Execution) → IsWithinLimits size x → IsWithinLimits Long x
within_of_size size x is = record {
  few_cores = omega (arith, is.few_cores, cores_of_size size);
  few_events = omega (arith, is.few_events, events_of_size size);
  few_addresses = omega (arith, is.few_addresses, addresses_of_size size);
  addresses = is.addresses;
  initial = is.initial;
}

-- and each recording of a size is a recording
pub recording_of_size : (size : RecordingSize) (x : Execution) → IsRecordingWithin size x → IsRecording x
recording_of_size size x is = record {
  well_formed = is.well_formed;
  within = within_of_size size x is.within;
}
