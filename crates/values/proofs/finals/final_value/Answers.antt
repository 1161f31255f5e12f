use Rattle.std.proofs.Common.{◌<◌, ◌-◌, ℕ, List, length, get_or, arith, sym, ap, ◌∙◌}
use Rattle.recording.specs.Event.{value_written}
use Rattle.recording.specs.Execution.{event_at}
use Rattle.values.specs.FinalLaws.{final_past, final_written}
use Rattle.values.proofs.Known.{not_empty}
use Rattle.values.proofs.finals.final_value.Goals as goal

pub returns-then-address-init : goal.returns-then-address-init
returns-then-address-init c = sym (final_past c.args.recording.now c.args.address
    (omega (arith, c.if-address-init.true, ap (λ (l : List ℕ). length l) c.init-init.ensures.value))
    c.sound.ensures.within.initial)

pub returns : goal.returns
returns c =
    let lengths = ap (λ (l : List ℕ). length l) c.write_list-list.ensures in
    let some : 0 < length c.write_list-list.result.now = not_empty (length c.write_list-list.result.now) (sym c.is_empty.ensures ∙ c.if-is_empty.false) in
    c.value_written.ensures
    ∙ (ap (λ (l : List ℕ). value_written (event_at c.args.recording.now (get_or l (length l - 1) 0)))
    c.write_list-list.ensures
    ∙ sym (final_written c.args.recording.now c.args.address (omega (arith, some, lengths))))
