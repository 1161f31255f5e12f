-- The trials that are run: all of a campaign, or those of one of its shards.
use Rattle.std.specs.Prelude.{◌&&◌, ◌==◌, ◌^◌, ℕ, Bool, List, Option, None, Some, codes, if◌then◌else◌}
use Rattle.std.specs.Prelude.{nat_le, nat_lt, option_map}
use Rattle.std.specs.List.{after_first, before_first}
use Rattle.std.specs.Option.{option_map_or}
use Rattle.clap.specs.Words.{Row, Text, first_of}
use Rattle.texts.specs.Decimals.{decimal_of}
use Rattle.program.specs.declared.shard.Part.{Part}
use Rattle.program.specs.declared.shard.Shard.{Shard}
use Rattle.program.specs.Shards.{part_of}
use Rattle.command_line.specs.declared.options.TheConstants.{TRIALS}
use Rattle.command_line.specs.Entries.{number_of}

abbrev pub is_slash : ℕ → Bool
is_slash b = b == 47

-- the shard of this number among so many, where it is one of them and they are few enough
abbrev pub shard_among : Option ℕ → Option ℕ → Option Shard
shard_among (Some i) (Some n) =
    if nat_le 1 i && nat_le i n && nat_lt n (2 ^ 32) then Some (record { number = i; count = n }) else None
shard_among i n = None

-- the shard that a text writes, I/N
abbrev pub shard_written : Text → Option Shard
shard_written text =
    shard_among (decimal_of (before_first is_slash text)) (decimal_of (after_first is_slash text))

-- of so many trials those of the shard that a text writes, or all where there is no text
abbrev pub part_of_text : ℕ → Option Text → Option Part
part_of_text trials None = Some (record { first = 0; trials = trials })
part_of_text trials (Some text) = option_map (λ shard. part_of shard trials) (shard_written text)

-- the trials that are run; none where the text of --shard writes none
abbrev pub part_asked : List Row → Option Part
part_asked rows = part_of_text (number_of (codes "trials") TRIALS rows) (first_of (codes "shard") rows)

-- how many they are
abbrev pub trials_asked : List Row → ℕ
trials_asked rows = option_map_or (λ part. part.trials) (part_asked rows) 0
