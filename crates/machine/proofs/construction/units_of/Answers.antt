use Rattle.std.proofs.Common.{arith, ap, ◌∙◌, ◌++◌, ◌∷◌, [], length, List, length-append}
use Rattle.std.proofs.lemmas.List.{get_or_read}
use Rattle.program.specs.declared.op.Op.{Op}
use Rattle.core_unit.specs.Progress.{Progress}
use Rattle.machine.proofs.Static.{first_more}
use Rattle.machine.proofs.Begins.{unit_more}
use Rattle.machine.proofs.construction.units_of.Goals as goal

pub loop-ops-preserved : goal.loop-ops-preserved
loop-ops-preserved c =
    let pushed = c.in_ok-push.ensures.items ∙ ap (λ (u : Progress). c.loop-ops.units.items ++ u ∷ [])
    c.new.ensures in
    record {
      one_each = omega (
        arith,
        c.loop-ops.invariant.one_each,
        ap (λ (l : List Progress). length l) pushed,
        length-append c.loop-ops.units.items (record { first = c.loop-ops.next; place = 0 } ∷ []),
      );
      next = omega (
        arith,
        c.loop-ops.invariant.next,
        first_more c.args.program.now c.loop-ops.ops-index c.loop-ops-test.true,
        ap (λ (l : List Op). length l) (c.as_slice.ensures
            ∙ get_or_read c.args.program.now c.loop-ops.ops-index c.ops-item.result c.loop-ops-test.true
            c.ops-item.is []),
      );
      begun = unit_more c.args.program.now c.loop-ops.units.items c.push.new.self.items c.loop-ops.ops-index
          c.loop-ops.next c.loop-ops.invariant.one_each c.loop-ops.invariant.next c.loop-ops.invariant.begun
          pushed;
    }
