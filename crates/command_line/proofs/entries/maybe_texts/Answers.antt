use Rattle.std.proofs.Common.{◌∙◌}
use Rattle.clap.specs.Words.{found_of}
use Rattle.clap.proofs.WalkLemmas.{raw_values-rows}
use Rattle.command_line.proofs.entries.maybe_texts.Goals as goal

pub returns : goal.returns
returns c = c.get_raw.ensures ∙ raw_values-rows (found_of c.args.matches.now) c.args.id.now
