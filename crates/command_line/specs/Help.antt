-- What the help says of limits, defaults and names.
use Rattle.std.specs.Prelude.{◌||◌, ◌&&◌, ◌++◌, ℕ, Bool, List, [], ◌∷◌, Option, Some, None, codes, if◌then◌else◌}
use Rattle.std.specs.Prelude.{map, nat_eq, nat_lt, not, option_map, unwrap_or}
use Rattle.std.specs.Char.{digit_value}
use Rattle.std.specs.List.{list_all}
use Rattle.std.specs.Str.{bytes_eq}
use Rattle.std.specs.Str.Parse.{digits_value}
use Rattle.clap.specs.Words.{Text}
use Rattle.clap.specs.declared.builder.arg.Arg.{Arg}
use Rattle.common.specs.declared.limits.TheConstants.{MAX_ADDRESSES, MAX_CORES, MAX_EVENTS, MAX_STEPS}
use Rattle.command_line.specs.declared.options.TheConstants.{ATTEMPTS, BUFFER, CYCLES, DEFAULT_FAULT, DEFAULT_SEED}
use Rattle.command_line.specs.declared.options.TheConstants.{LIMIT, STATES, TRIALS, WORKERS}
use Rattle.command_line.specs.declared.table.CommandRow.{CommandRow}
use Rattle.headers.specs.Faults.{fault_name, faults}

-- what stands after a part with which the text begins
abbrev pub after_start : Text → Text → Option Text
after_start [] text = Some text
after_start (p ∷ part) [] = None
after_start (p ∷ part) (c ∷ text) = if nat_eq p c then after_start part text else None

-- what stands after the first place of a part in the text
abbrev pub text_after : Text → Text → Text
text_after part [] = []
text_after part (c ∷ rest) = unwrap_or (after_start part (c ∷ rest)) (text_after part rest)

-- the digits at the start of the text
abbrev pub leading_digits : Text → Text
leading_digits [] = []
leading_digits (c ∷ rest) = if nat_lt (digit_value c) 10 then c ∷ leading_digits rest else []

-- the number that the text names after this part
abbrev pub number_after : Text → Text → ℕ
number_after part text = digits_value 10 (leading_digits (text_after part text))

-- the number that the help of an option names after these words
abbrev pub said : List (Text × Text × ℕ)
said = (codes "steps", codes "at most ", MAX_STEPS) ∷ (codes "seed", codes "[default: ", DEFAULT_SEED)
    ∷ (codes "cores", codes "from 1 to ", MAX_CORES) ∷ (codes "ops", codes "from 1 to ", MAX_EVENTS)
    ∷ (codes "ops", codes "at most ", MAX_EVENTS) ∷ (codes "addresses", codes "from 1 to ", MAX_ADDRESSES)
    ∷ (codes "trials", codes "from 1 to ", TRIALS.most)
    ∷ (codes "trials", codes "[default: ", TRIALS.default)
    ∷ (codes "attempts", codes "from 1 to ", ATTEMPTS.most)
    ∷ (codes "attempts", codes "[default: ", ATTEMPTS.default)
    ∷ (codes "limit", codes "from 1 to ", LIMIT.most) ∷ (codes "limit", codes "[default: ", LIMIT.default)
    ∷ (codes "buffer", codes "from 1 to ", BUFFER.most)
    ∷ (codes "buffer", codes "[default: ", BUFFER.default)
    ∷ (codes "workers", codes "from 1 to ", WORKERS.most)
    ∷ (codes "workers", codes "[default: ", WORKERS.default)
    ∷ (codes "states", codes "from 1 to ", STATES.most)
    ∷ (codes "cycles", codes "from 1 to ", CYCLES.most)
    ∷ (codes "states", codes "[default: ", STATES.default) ∷ []

-- texts with commas between them
abbrev pub with_commas : List Text → Text
with_commas [] = []
with_commas (text ∷ []) = text
with_commas (text ∷ texts) = text ++ codes ", " ++ with_commas texts

-- what the help of --fault says
abbrev pub fault_text : Text
fault_text = codes "A fault: " ++ with_commas (map fault_name faults) ++ codes " [default: "
    ++ fault_name DEFAULT_FAULT ++ codes "]"

-- the help of an argument or an option with this name says its limits, its default and its names
abbrev pub is_right_help : Text → Text → Bool
is_right_help id help =
    list_all (λ s. not (bytes_eq s.0 id) || nat_eq (number_after s.1 help) s.2) said
    && (not (bytes_eq id (codes "fault")) || bytes_eq help fault_text)

-- the help of each argument and option of these commands does
abbrev pub has_right_help : List CommandRow → Bool
has_right_help rows = list_all (λ c. list_all (λ a. is_right_help a.name.now a.help.now) c.arguments.now) rows

-- what the help says of an argument
abbrev pub help_of : Arg → Option Text
help_of arg = option_map (λ text. text.now) arg.help
