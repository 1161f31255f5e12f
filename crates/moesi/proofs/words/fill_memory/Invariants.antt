use Rattle.std.proofs.Common.{◌≡◌, ◌<◌, ◌+◌, ◌*◌, ℕ, length, slice_index}
use Rattle.moesi.specs.Words.{cell_in, memory_cell}
use Rattle.moesi.proofs.words.fill_memory.Given as goal

abbrev pub invariant-loop-addr : goal.invariant-loop-addr
invariant-loop-addr l = record {
  size : length l.words ≡ length l.initial.words;
  lines : (i : ℕ) → i < l.cores * length l.init → slice_index l.words i ≡ slice_index l.initial.words i;
  memory : (a : ℕ) → a < l.addr
      → cell_in (slice_index l.words (l.cores * length l.init + a)) ≡ memory_cell (slice_index l.init a);
}
