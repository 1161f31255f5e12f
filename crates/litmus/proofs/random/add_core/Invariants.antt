use Rattle.std.proofs.Common.{◌≡◌, ◌+◌, ◌-◌, ◌≤◌, length}
use Rattle.rand_core.specs.Steps.{first_words}
use Rattle.rand_xoshiro.specs.Xoshiro256.{plus_plus}
use Rattle.litmus.specs.Built.{state}
use Rattle.program.specs.Parts.{op_count}
use Rattle.litmus.specs.Random.{IsDrawn, after_words, with_words}
use Rattle.litmus.proofs.random.add_core.Given as goal

-- what is left to do leads where all leads
abbrev pub invariant-loop-i : goal.invariant-loop-i
invariant-loop-i l =
    record {
      made : with_words l.shape.addresses (state l.builder) (first_words plus_plus (l.shape.ops - l.i) l.rng)
          ≡ with_words l.shape.addresses (state l.initial.builder)
          (first_words plus_plus l.shape.ops l.initial.rng);
      after : after_words (l.shape.ops - l.i) l.rng ≡ after_words l.shape.ops l.initial.rng;
      drawn : IsDrawn l.shape.addresses (state l.builder);
      count : op_count l.builder.cores.items ≡ l.first + l.i;
      cores : length l.builder.cores.items ≡ length l.initial.builder.cores.items;
      within : l.i ≤ l.shape.ops;
    }
