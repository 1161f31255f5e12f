use Rattle.std.proofs.Common.{ap, rules}
use Rattle.machine.specs.State.{State}
use Rattle.machine.proofs.Begins.{is_machine, opening_held}
use Rattle.machine.proofs.machine.Machine.new.Goals as goal

pub invariant_of-result : goal.invariant_of-result
invariant_of-result c =
    is_machine c.args.program c.args.capacity c.cores-cores.ensures.count c.init-init.ensures.values
    c.init-init.ensures.count c.lists.ensures c.in_ok-units.ensures c.sound.ensures.within c.sound.ensures.few
    c.in_ok-buffers_of.ensures c.in_ok-with_init.ensures.ok c.in_ok-bounded_lists.ensures
    (c.in_ok-vec.ensures.items_if_clones_equal (search rules))
    c.in_ok-new.ensures c.in_ok-new-2.ensures c.args.fault

pub returns : goal.returns
returns c =
    ap (λ (s : State). record {
      program = c.args.program;
      capacity = c.args.capacity;
      fault = c.args.fault;
      state = s;
    })
    (opening_held c.args.program c.args.capacity c.cores-cores.ensures.count c.init-init.ensures.values
    c.init-init.ensures.count c.lists.ensures c.in_ok-units.ensures c.sound.ensures.within c.sound.ensures.few
    c.in_ok-buffers_of.ensures c.in_ok-with_init.ensures.ok c.in_ok-bounded_lists.ensures
    (c.in_ok-vec.ensures.items_if_clones_equal (search rules))
    c.in_ok-new.ensures c.in_ok-new-2.ensures)
