use Rattle.std.proofs.Common.{sym}
use Rattle.completion.proofs.Alone.{table_core}
use Rattle.completion.proofs.table.core_of.Goals as goal

pub returns : goal.returns
returns c = sym (table_core c.args.values.now c.args.table.now c.args.number _ c.requires.table c.requires.there)
