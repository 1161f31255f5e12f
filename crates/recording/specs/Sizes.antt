-- How many cores, events and addresses a recording of a size has at most.
use Rattle.std.specs.Prelude.{ℕ}
use Rattle.common.specs.declared.limits.TheConstants.{MAX_CORES, MAX_EVENTS, MAX_ADDRESSES}
use Rattle.common.specs.declared.limits.TheConstants.{MAX_RECORDED_CORES, MAX_RECORDED_EVENTS, MAX_RECORDED_ADDRESSES}
use Rattle.recording.specs.declared.size.RecordingSize.{RecordingSize}
use Rattle.recording.specs.declared.size.RecordingSize.TheVariants.{Short, Long}

abbrev pub most_cores : RecordingSize → ℕ
most_cores Short = MAX_CORES
most_cores Long = MAX_RECORDED_CORES

abbrev pub most_events : RecordingSize → ℕ
most_events Short = MAX_EVENTS
most_events Long = MAX_RECORDED_EVENTS

abbrev pub most_addresses : RecordingSize → ℕ
most_addresses Short = MAX_ADDRESSES
most_addresses Long = MAX_RECORDED_ADDRESSES
