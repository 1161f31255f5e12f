use Rattle.std.proofs.Common.{arith, ap, ◌∙◌, [], length, List}
use Rattle.std.proofs.lemmas.List.{get_or_read}
use Rattle.program.specs.declared.op.Op.{Op}
use Rattle.machine.proofs.Static.{first_more}
use Rattle.outcomes.proofs.reads.first_event.Goals as goal

pub loop-i-preserved : goal.loop-i-preserved
loop-i-preserved c = omega (
  arith,
  c.loop-i.invariant,
  c.requires.core,
  c.loop-i-test.true,
  first_more c.args.cores.now c.loop-i.i (omega (arith, c.requires.core, c.loop-i-test.true)),
  ap (λ (l : List Op). length l) (c.as_slice.ensures ∙ get_or_read c.args.cores.now c.loop-i.i
      c.index-cores-i.result (omega (arith, c.requires.core, c.loop-i-test.true)) c.index-cores-i.is []),
)
