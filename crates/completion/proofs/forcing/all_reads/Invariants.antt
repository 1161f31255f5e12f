use Rattle.std.specs.List.{All}
use Rattle.completion.specs.Pairs.{IsRead}
use Rattle.completion.proofs.forcing.all_reads.Given as goal

abbrev pub invariant-loop-number : goal.invariant-loop-number
invariant-loop-number l = All (IsRead l.values l.table) l.reads.items
