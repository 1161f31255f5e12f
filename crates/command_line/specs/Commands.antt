-- The commands, what each takes, and what clap reads of words by them.
use Rattle.std.specs.Prelude.{◌≡◌, IfOk, List, [], ◌∷◌, Option, Result, Some, codes, false, fold, map}
use Rattle.std.specs.Prelude.{true}
use Rattle.clap.specs.Words.{App, Row, Rule, Text, app_of, fault_of, new_app, new_rule}
use Rattle.clap.specs.Words.{subcommand_of, with_subcommand}
use Rattle.clap.specs.declared.builder.command.Command.{Command}
use Rattle.clap.specs.declared.builder.command.Command.TheViews.{out-Command as fields_of}
use Rattle.clap.specs.declared.builder.ArgAction.TheVariants.{Append, Set, SetTrue}
use Rattle.clap.specs.declared.builder.value_parser.ValueParser.TheVariants.{Unsigned}
use Rattle.command_line.specs.declared.table.CommandRow.{CommandRow}
use Rattle.command_line.specs.declared.table.Takes.{Takes}
use Rattle.command_line.specs.declared.table.Takes.TheVariants.{Place, MaybePlaces, Places, Text as Word, Shown, Number}
use Rattle.command_line.specs.declared.table.Takes.TheVariants.{Most}
use Rattle.command_line.specs.declared.table.Takes.TheVariants.{Size, Nothing}

-- the commands, each with the names of its arguments and options, and what they take
abbrev pub commands : List (Text × List (Text × Takes))
commands = (
  codes "run",
  (codes "PROGRAM", Place) ∷ (codes "steps", Word) ∷ (codes "seed", Number)
      ∷ (codes "attempts", Number) ∷ (codes "buffer", Number) ∷ (codes "fault", Word) ∷ (codes "runs", Number)
      ∷ (codes "workers", Number) ∷ (codes "words", Nothing) ∷ [],
)
    ∷ (codes "judge", (codes "FILE", Place) ∷ (codes "workers", Number) ∷ (codes "long", Nothing) ∷ (codes "words", Nothing) ∷ [])
    ∷ (
      codes "trials",
      (codes "cores", Size) ∷ (codes "ops", Size) ∷ (codes "addresses", Size)
          ∷ (codes "seed", Number) ∷ (codes "trials", Number) ∷ (codes "shard", Word)
          ∷ (codes "attempts", Number) ∷ (codes "buffer", Number) ∷ (codes "fault", Word) ∷ (codes "workers", Number)
          ∷ (codes "show", Number) ∷ (codes "reduce", Nothing) ∷ (codes "header", Nothing)
          ∷ (codes "quiet", Nothing) ∷ (codes "words", Nothing) ∷ [],
    )
    ∷ (codes "live", (codes "PROGRAM", Place) ∷ (codes "buffer", Number) ∷ (codes "limit", Number) ∷ (codes "runs", Number) ∷ (codes "words", Nothing) ∷ [])
    ∷ (codes "replay", (codes "FILE", Place) ∷ (codes "words", Nothing) ∷ [])
    ∷ (
      codes "explain",
      (codes "FILE", Place) ∷ (codes "program", Word) ∷ (codes "labels", Word) ∷ (codes "long", Nothing)
          ∷ (codes "words", Nothing) ∷ [],
    )
    ∷ (
      codes "draw",
      (codes "FILE", Place) ∷ (codes "program", Word) ∷ (codes "labels", Word) ∷ (codes "all", Nothing)
          ∷ (codes "long", Nothing) ∷ (codes "words", Nothing) ∷ [],
    )
    ∷ (
      codes "reduce",
      (codes "FILE", Place) ∷ (codes "program", Word) ∷ (codes "labels", Word) ∷ (codes "long", Nothing)
          ∷ (codes "words", Nothing) ∷ [],
    )
    ∷ (
      codes "verify",
      (codes "RECORDING", Place) ∷ (codes "VERDICT", Place) ∷ (codes "long", Nothing) ∷ (codes "workers", Number)
          ∷ (codes "words", Nothing) ∷ [],
    )
    ∷ (
      codes "survey",
      (codes "FILE", Place) ∷ (codes "from", Number) ∷ (codes "lines", Number) ∷ (codes "workers", Number)
          ∷ (codes "each", Nothing) ∷ (codes "show", Number)
          ∷ (codes "reduce", Nothing) ∷ (codes "complete", Nothing) ∷ (codes "states", Number)
          ∷ (codes "long", Nothing) ∷ (codes "header", Nothing) ∷ (codes "quiet", Nothing)
          ∷ (codes "words", Nothing) ∷ [],
    )
    ∷ (codes "merge", (codes "FILE", Places) ∷ (codes "partial", Nothing) ∷ (codes "words", Nothing) ∷ [])
    ∷ (
      codes "outcomes",
      (codes "PROGRAM", Place) ∷ (codes "states", Number) ∷ (codes "observed", Word) ∷ (codes "unseen", Nothing)
          ∷ (codes "why", Nothing)
          ∷ (codes "exists", Word) ∷ (codes "never", Word) ∷ (codes "items", Shown) ∷ (codes "words", Nothing) ∷ [],
    )
    ∷ (codes "complete", (codes "FILE", Place) ∷ (codes "states", Number) ∷ (codes "words", Nothing) ∷ [])
    ∷ (
      codes "make",
      (codes "WORD", MaybePlaces) ∷ (codes "cycles", Most) ∷ (codes "forbidden", Nothing) ∷ (codes "words", Nothing) ∷ [],
    )
    ∷ []

-- a row of the code's table
abbrev pub row_of : CommandRow → Text × List (Text × Takes)
row_of c = (c.name.now, map (λ a. (a.name.now, a.takes)) c.arguments.now)

-- what clap reads of an argument or an option with this name
abbrev pub rule_by : Takes → Text → Rule
rule_by Place id = record (new_rule id) { required = true; action = Some Set }
rule_by MaybePlaces id = record (new_rule id) { action = Some Append }
rule_by Places id = record (new_rule id) { required = true; action = Some Append }
rule_by Word id = record (new_rule id) { long = Some id; value_names = 1; action = Some Set }
rule_by Shown id = record (new_rule id) { long = Some (codes "show"); value_names = 1; action = Some Set }
rule_by Number id = record (new_rule id) {
  long = Some id;
  value_names = 1;
  parser = Some (Unsigned 0 18446744073709551615);
}
rule_by Most id = record (new_rule id) {
  long = Some (codes "all");
  value_names = 1;
  parser = Some (Unsigned 0 18446744073709551615);
}
rule_by Size id = record (new_rule id) {
  long = Some id;
  value_names = 1;
  parser = Some (Unsigned 0 18446744073709551615);
  required = true;
}
rule_by Nothing id = record (new_rule id) { long = Some id; action = Some SetTrue }

-- a command
abbrev pub command_app : Text × List (Text × Takes) → App
command_app c =
    let app = new_app c.0 in
    record app { top = record app.top { rules = map (λ o. rule_by o.1 o.0) c.1 } }

-- the program without a command
abbrev pub bare_app : App
bare_app =
    let app = new_app (codes "tsotest") in
    record app {
      top = record app.top {
        no_binary_name = true;
        subcommand_required = true;
        has_version = true;
      };
    }

-- a program with one command more
abbrev pub with_command : App → Text × List (Text × Takes) → App
with_command app c = with_subcommand app (command_app c).top

-- the program with these commands
abbrev pub with_commands : List (Text × List (Text × Takes)) → App
with_commands = fold with_command bare_app

-- the program with its commands; its name is not among the words
abbrev pub program_app : App
program_app = with_commands commands

-- clap finds no fault in the words
abbrev pub HaveNoMistake : List Text → Type 0
HaveNoMistake words = fault_of program_app words ≡ []

-- the command that clap reads of the words, and the entries of its arguments and options
abbrev pub command_of : List Text → Option (Text × List Row)
command_of words = subcommand_of program_app words

-- what clap has of a command, where there is one, and that no argument of it is global
abbrev pub Builds : {E : Type 0} → Result Command E → App → Type 0
Builds r app = IfOk r (λ c. (app_of c ≡ app) × ((fields_of c).has_globals ≡ false))
