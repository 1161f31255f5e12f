use Rattle.std.proofs.Common.{◌*◌}
use Rattle.bitrow.specs.Bits.{bits_of}
use Rattle.bitrow.specs.Rows.{Marked, GetsLabel, IsUnion}
use Rattle.bitrow.proofs.rows.union_rows.Given as goal

abbrev pub invariant-loop-word : goal.invariant-loop-word
invariant-loop-word g l = record {
  labels : GetsLabel (bits_of l.fn.set) (64 * l.word) l.label l.fn.labels l.labels;
  joined : IsUnion (Marked l.rows) (bits_of l.fn.set) (64 * l.word) (bits_of l.union);
}
