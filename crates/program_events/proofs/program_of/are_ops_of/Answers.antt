use Rattle.std.proofs.Common.{get_or, arith}
use Rattle.std.proofs.lemmas.Bool.{false≢true}
use Rattle.program.specs.declared.op.Op.TheVariants.{Fence}
use Rattle.recording.specs.declared.event.Event.TheVariants.{F}
use Rattle.program_events.specs.ProgramOf.{Makes}
use Rattle.program_events.proofs.Makings.{makes_at, one_more}
use Rattle.program_events.proofs.program_of.are_ops_of.Goals as goal

pub loop-i-init : goal.loop-i-init
loop-i-init c = λ j low. absurd (omega (arith, low))

pub returns-then-not-makes : goal.returns-then-not-makes
returns-then-not-makes c = (
  λ no. absurd (false≢true no),
  λ are. absurd (false≢true (c.if-not-makes.ensures.1
      (makes_at c.args.ops.now c.args.events.now c.loop-i.i _ _ _ _ c.loop-i-test.true
      (omega (arith, c.loop-i-test.true, c.if-ops-events.false)) (are.each c.loop-i.i c.loop-i-test.true)))),
)

pub loop-i-preserved : goal.loop-i-preserved
loop-i-preserved c =
    one_more (λ j. Makes (get_or c.args.ops.now j Fence) (get_or c.args.events.now j F)) c.loop-i.i
    c.loop-i.invariant
    (makes_at c.args.ops.now c.args.events.now c.loop-i.i _ _ _ _ c.loop-i-test.true
    (omega (arith, c.loop-i-test.true, c.if-ops-events.false)) (c.makes.ensures.0 c.if-not-makes.false))
