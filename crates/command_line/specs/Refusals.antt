-- The first refusal of entries, K1 to K10 and K12 to K16.
use Rattle.std.specs.Prelude.{ℕ, Bool, true, List, Option, Some, None, Result, Ok, Err, codes, if◌then◌else◌, is_some}
use Rattle.std.specs.Prelude.{nat_lt, option_and_then, option_map}
use Rattle.std.specs.Option.{option_or}
use Rattle.clap.specs.Words.{Row, Text, one_of}
use Rattle.program.specs.declared.shard.Part.{Part}
use Rattle.program.specs.declared.shape_error.ShapeError.{ShapeError}
use Rattle.program.specs.Shapes.{Sizes, is_outside, shape_of}
use Rattle.command_line.specs.declared.options.Limits.{Limits}
use Rattle.command_line.specs.declared.options.OptionRefusal.{OptionRefusal}
use Rattle.command_line.specs.declared.options.OptionRefusal.TheVariants as refused
use Rattle.command_line.specs.declared.options.TheConstants.{ATTEMPTS, BUFFER, CYCLES, FROM, LIMIT, LINES, RUNS, STATES}
use Rattle.command_line.specs.declared.options.TheConstants.{TRIALS, WORKERS}
use Rattle.command_line.specs.Entries.{machine_fault_of, number_of, number_written, show_of, size_of}
use Rattle.command_line.specs.Shards.{part_asked, trials_asked}

-- the refusal of a number that is not within its limits
abbrev pub outside : Limits → ℕ → Option OptionRefusal
outside limits n = if is_outside limits.most n then Some limits.refusal else None

-- the refusal of sizes
abbrev pub refusal_in : Result Sizes ShapeError → Option OptionRefusal
refusal_in (Ok sizes) = None
refusal_in (Err refusal) = Some (refused.Shape refusal)

-- the shape that sizes ask for, where there are sizes, or the first refusal
abbrev pub shape_asked : List Row → Option (Result Sizes ShapeError)
shape_asked rows = option_map (λ cores. shape_of (number_written cores) (size_of (codes "ops") rows)
    (size_of (codes "addresses") rows)) (one_of (codes "cores") rows)

-- K1 to K4, where there are sizes
abbrev pub sizes_refusal : List Row → Option OptionRefusal
sizes_refusal rows = option_and_then refusal_in (shape_asked rows)

-- K15, where the trials that are run are those of no shard, or K5, where they are too few or too many
abbrev pub refusal_of_part : Option Part → Option OptionRefusal
refusal_of_part None = Some refused.Shard
refusal_of_part (Some part) = outside TRIALS part.trials

-- K15 and K5
abbrev pub part_refusal : List Row → Option OptionRefusal
part_refusal rows = refusal_of_part (part_asked rows)

-- K6 to K8, K12 to K14 and K16, of the option with this name
abbrev pub number_refusal : Text → Limits → List Row → Option OptionRefusal
number_refusal id limits rows = outside limits (number_of id limits rows)

-- K9
abbrev pub fault_refusal : List Row → Option OptionRefusal
fault_refusal rows = if is_some (machine_fault_of rows) then None else Some refused.Fault

-- K10: the trial that is asked for is not below the number of trials, where there are trials
abbrev pub refusal_of_show : Bool → Option ℕ → ℕ → Option OptionRefusal
refusal_of_show true (Some k) trials = if nat_lt k trials then None else Some refused.Show
refusal_of_show other show trials = None

-- K10; sizes are those of trials
abbrev pub show_refusal : List Row → Option OptionRefusal
show_refusal rows =
    refusal_of_show (is_some (shape_asked rows)) (show_of rows) (trials_asked rows)

-- K16
abbrev pub lines_refusal : List Row → Option OptionRefusal
lines_refusal rows = option_or (number_refusal (codes "from") FROM rows) (number_refusal (codes "lines") LINES rows)

-- K12 to K14 and K16
abbrev pub counts_refusal : List Row → Option OptionRefusal
counts_refusal rows = option_or (number_refusal (codes "states") STATES rows)
    (option_or (number_refusal (codes "runs") RUNS rows)
    (option_or (number_refusal (codes "cycles") CYCLES rows) (lines_refusal rows)))

-- K1 to K4, K15, K5 to K10, K12 to K14 and K16; what has no entry is not refused
abbrev pub refusal_of : List Row → Option OptionRefusal
refusal_of rows = option_or (sizes_refusal rows)
    (option_or (part_refusal rows)
    (option_or (number_refusal (codes "attempts") ATTEMPTS rows)
    (option_or (number_refusal (codes "limit") LIMIT rows)
    (option_or (number_refusal (codes "buffer") BUFFER rows)
    (option_or (number_refusal (codes "workers") WORKERS rows)
    (option_or (fault_refusal rows)
    (option_or (show_refusal rows) (counts_refusal rows))))))))
