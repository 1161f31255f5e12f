use Rattle.std.proofs.Common.{◌≡◌, ◌-◌, ◌*◌, ◌≤◌, length}
use Rattle.rand_core.specs.Steps.{first_words}
use Rattle.rand_xoshiro.specs.Xoshiro256.{plus_plus}
use Rattle.litmus.specs.Built.{state}
use Rattle.program.specs.Parts.{op_count}
use Rattle.litmus.specs.Steps.{empty}
use Rattle.litmus.specs.Random.{IsDrawn, after_words, with_cores}
use Rattle.litmus.proofs.random.generate.Given as goal

-- what is left to do leads where all leads
abbrev pub invariant-loop-core : goal.invariant-loop-core
invariant-loop-core l =
    record {
      made : with_cores l.shape (l.shape.cores - l.core) (state l.builder)
          (first_words plus_plus ((l.shape.cores - l.core) * l.shape.ops) l.rng)
          ≡ with_cores l.shape l.shape.cores empty
          (first_words plus_plus (l.shape.cores * l.shape.ops) l.initial.rng);
      after : after_words ((l.shape.cores - l.core) * l.shape.ops) l.rng ≡ after_words
          (l.shape.cores * l.shape.ops) l.initial.rng;
      drawn : IsDrawn l.shape.addresses (state l.builder);
      count : op_count l.builder.cores.items ≡ l.core * l.shape.ops;
      cores : length l.builder.cores.items ≡ l.core;
      within : l.core ≤ l.shape.cores;
    }
