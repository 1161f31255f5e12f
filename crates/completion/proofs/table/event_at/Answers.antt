use Rattle.std.proofs.Common.{sym}
use Rattle.completion.proofs.Alone.{table_event}
use Rattle.completion.proofs.table.event_at.Goals as goal

pub returns : goal.returns
returns c = sym (table_event c.args.values.now c.args.table.now c.args.number _ c.requires.table c.requires.there)
