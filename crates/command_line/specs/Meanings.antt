-- What the words ask about refusals.
use Rattle.std.specs.Prelude.{◌≡◌, ◌&&◌, Bool, false, List, [], ◌∷◌, Option, Some, None, Result, Err}
use Rattle.std.specs.Prelude.{codes, if◌then◌else◌, option_and_then}
use Rattle.std.specs.Str.{bytes_eq}
use Rattle.clap.specs.Words.{Text}
use Rattle.refusals.specs.declared.refusal.Refusal.{Refusal}
use Rattle.refusals.specs.Table.{refusal_named, texts_of}
use Rattle.command_line.specs.declared.options.Options.{Options}
use Rattle.command_line.specs.declared.options.OptionStop.{OptionStop}
use Rattle.command_line.specs.declared.options.OptionStop.TheVariants.{RefusalMeaning}

-- the words ask what refusals mean
abbrev pub asks_of_refusals : List Text → Bool
asks_of_refusals (first ∷ second ∷ []) = bytes_eq first (codes "help") && bytes_eq second (codes "refusals")
asks_of_refusals words = false

-- the name of which the words ask what it means: `help NAME` or `help refusals NAME`
abbrev pub name_asked : List Text → Option Text
name_asked (first ∷ name ∷ []) = if bytes_eq first (codes "help") then Some name else None
name_asked (first ∷ second ∷ name ∷ []) =
    if bytes_eq first (codes "help") && bytes_eq second (codes "refusals") then Some name else None
name_asked words = None

-- the refusal of which the words ask what it means, by its name
abbrev pub refusal_asked : List Text → Option (Refusal Text)
refusal_asked words = option_and_then refusal_named (name_asked words)

-- the refusal is what the words get in place of options
abbrev pub IsRefusalOf : Refusal Text → Result Options OptionStop → Type 0
IsRefusalOf refusal r = (given : _) × (r ≡ Err (RefusalMeaning given)) × (texts_of given ≡ refusal)
