use Rattle.std.proofs.Common.{◌<◌, [], length, Err, IfErr, List, Ok, Option, Result, Some, None}
use Rattle.clap.specs.Words.{Row, Text}
use Rattle.command_line.specs.declared.options.MakeOptions.{MakeOptions}
use Rattle.command_line.specs.declared.options.MakeOptions.TheVariants.{Cycle, All as Cycles}
use Rattle.command_line.specs.declared.options.MergeOptions.{MergeOptions}
use Rattle.command_line.specs.declared.options.Options.TheVariants.{Merge, Run, Trials}
use Rattle.command_line.specs.declared.options.RunOptions.{RunOptions}
use Rattle.command_line.specs.declared.options.TrialsOptions.{TrialsOptions}
use Rattle.command_line.specs.Options.{AreOptions, AreRunOptions, AreTrialsOptions}
use Rattle.devices.specs.Host.{HostLog}
use Rattle.inputs.specs.declared.command_stop.CommandStop.{CommandStop}
use Rattle.inputs.specs.declared.command_stop.CommandStop.TheVariants.{Failed, Refused}
use Rattle.inputs.specs.Inputs.{ReadsNamed}
use Rattle.verdicts.specs.declared.printed.Answer.{Answer}
use Rattle.commands.specs.Make.{IsMakeStop}
use Rattle.inputs.proofs.Asking.{failed_unread, none_read, read_none, refused_unread}
use Rattle.commands.proofs.perform.answer_to.Goals as goal

-- options of trials are those of some entries
trials_rows : (o : TrialsOptions) (command : Option (Text × List Row)) → AreOptions (Trials o) command
    → (rows : List Row) × AreTrialsOptions o rows
trials_rows o None are = absurd are
trials_rows o (Some command) are = (command.1, are.3.1)

-- options of run are those of some entries
run_rows : (o : RunOptions) (command : Option (Text × List Row)) → AreOptions (Run o) command
    → (rows : List Row) × AreRunOptions o rows
run_rows o None are = absurd are
run_rows o (Some command) are = (command.1, are.3.1)

-- options of merge have a name at least
merge_some : (o : MergeOptions) (command : Option (Text × List Row)) → AreOptions (Merge o) command
    → 0 < length o.files.items
merge_some o None are = absurd are
merge_some o (Some command) are = (are.3.1).some

-- make reads nothing
made_unread : (o : MakeOptions) (r : Result Answer CommandStop) (a : HostLog) → IfErr r (IsMakeStop o)
    → ReadsNamed [] a a r
made_unread o (Ok answer) a is = read_none a
made_unread (Cycle words) (Err (Refused refusal)) a is = refused_unread refusal a
made_unread (Cycle words) (Err (Failed error)) a is = failed_unread error a is
made_unread (Cycles events forbidden) (Err (Refused refusal)) a is = absurd is
made_unread (Cycles events forbidden) (Err (Failed error)) a is = failed_unread error a is

pub run_command-requires-clause-options : goal.run_command-requires-clause-options
run_command-requires-clause-options g c κs within = run_rows c.in-Run.run' c.requires.options.0
    (rw (← c.in-Run.is) c.requires.options.1)

pub trials_command-requires-after_bounds : goal.trials_command-requires-after_bounds
trials_command-requires-after_bounds g c κs within = trials_rows c.in-Trials.trials c.requires.options.0
    (rw (← c.in-Trials.is) c.requires.options.1)

pub returns-in-Trials-clause-reads : goal.returns-in-Trials-clause-reads
returns-in-Trials-clause-reads g c = rw c.in-Trials.is
    (none_read c.trials_command.result (g.H.Host.log c.args.host.now) c.trials_command.ensures.err)

pub returns-in-Make-clause-reads : goal.returns-in-Make-clause-reads
returns-in-Make-clause-reads g c = rw c.in-Make.is
    (made_unread c.in-Make.make c.make_command.result (g.H.Host.log c.args.host.now) c.make_command.ensures.err)

pub merge_command-requires-clause-some : goal.merge_command-requires-clause-some
merge_command-requires-clause-some g c κs within = merge_some c.in-Merge.merge c.requires.options.0
    (rw (← c.in-Merge.is) c.requires.options.1)
