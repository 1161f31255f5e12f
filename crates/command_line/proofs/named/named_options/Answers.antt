use Rattle.std.proofs.Common.{codes, refl}
use Rattle.clap.specs.Words.{found_of, rows_of}
use Rattle.command_line.proofs.Required.{required}
use Rattle.command_line.proofs.named.named_options.Goals as goal

pub run_options-requires-clause-program : goal.run_options-requires-clause-program
run_options-requires-clause-program c =
    required (codes "run") (codes "PROGRAM") refl c.args.name.now (rows_of (found_of c.args.matches.now)) c.in-run.is
    c.requires.entries

pub judge_options-requires-clause-file : goal.judge_options-requires-clause-file
judge_options-requires-clause-file c =
    required (codes "judge") (codes "FILE") refl c.args.name.now (rows_of (found_of c.args.matches.now)) c.in-judge.is
    c.requires.entries

pub live_options-requires-clause-program : goal.live_options-requires-clause-program
live_options-requires-clause-program c =
    required (codes "live") (codes "PROGRAM") refl c.args.name.now (rows_of (found_of c.args.matches.now)) c.in-live.is
    c.requires.entries

pub replay_options-requires : goal.replay_options-requires
replay_options-requires c =
    required (codes "replay") (codes "FILE") refl c.args.name.now (rows_of (found_of c.args.matches.now)) c.in-replay.is
    c.requires.entries

pub explain_options-requires-clause-file : goal.explain_options-requires-clause-file
explain_options-requires-clause-file c =
    required (codes "explain") (codes "FILE") refl c.args.name.now (rows_of (found_of c.args.matches.now)) c.in-explain.is
    c.requires.entries

pub draw_options-requires-clause-file : goal.draw_options-requires-clause-file
draw_options-requires-clause-file c =
    required (codes "draw") (codes "FILE") refl c.args.name.now (rows_of (found_of c.args.matches.now)) c.in-draw.is
    c.requires.entries

pub reduce_options-requires-clause-file : goal.reduce_options-requires-clause-file
reduce_options-requires-clause-file c =
    required (codes "reduce") (codes "FILE") refl c.args.name.now (rows_of (found_of c.args.matches.now)) c.in-reduce.is
    c.requires.entries

pub verify_options-requires-clause-recording : goal.verify_options-requires-clause-recording
verify_options-requires-clause-recording c =
    required (codes "verify") (codes "RECORDING") refl c.args.name.now (rows_of (found_of c.args.matches.now)) c.in-verify.is
    c.requires.entries

pub verify_options-requires-clause-verdict : goal.verify_options-requires-clause-verdict
verify_options-requires-clause-verdict c =
    required (codes "verify") (codes "VERDICT") refl c.args.name.now (rows_of (found_of c.args.matches.now)) c.in-verify.is
    c.requires.entries

pub survey_options-requires-clause-file : goal.survey_options-requires-clause-file
survey_options-requires-clause-file c =
    required (codes "survey") (codes "FILE") refl c.args.name.now (rows_of (found_of c.args.matches.now)) c.in-survey.is
    c.requires.entries

pub merge_options-requires-clause-file : goal.merge_options-requires-clause-file
merge_options-requires-clause-file c =
    required (codes "merge") (codes "FILE") refl c.args.name.now (rows_of (found_of c.args.matches.now)) c.in-merge.is
    c.requires.entries

pub outcomes_options-requires-clause-program : goal.outcomes_options-requires-clause-program
outcomes_options-requires-clause-program c =
    required (codes "outcomes") (codes "PROGRAM") refl c.args.name.now (rows_of (found_of c.args.matches.now)) c.in-outcomes.is
    c.requires.entries

pub complete_options-requires-clause-file : goal.complete_options-requires-clause-file
complete_options-requires-clause-file c =
    required (codes "complete") (codes "FILE") refl c.args.name.now (rows_of (found_of c.args.matches.now)) c.in-complete.is
    c.requires.entries
