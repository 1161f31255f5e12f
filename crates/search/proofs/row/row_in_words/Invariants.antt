use Rattle.std.proofs.Common.{length}
use Rattle.bitrow.specs.Bits.{bits_of}
use Rattle.bitrow.specs.Rows.{Marked, IsBelow}
use Rattle.search.proofs.Levels.{IsReached, IsClosed}
use Rattle.search.proofs.row.row_in_words.Given as goal

abbrev pub invariant-loop-label : goal.invariant-loop-label
invariant-loop-label g l = record {
  within : IsBelow (length l.rows) (bits_of l.level);
  reached : IsReached (Marked l.rows) (length l.rows) l.cap l.source l.label l.labels (bits_of l.seen) (bits_of
      l.level);
  closed : IsClosed (Marked l.rows) l.cap l.source l.label l.labels l.closing;
}
